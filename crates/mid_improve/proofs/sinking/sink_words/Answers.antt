use Rattle.mid_code.specs.Whole.{mid}
use Rattle.mid_improve.specs.ImprovedFrom.{IsNoWorseFrom}
use Rattle.mid_improve.proofs.Improving.{no_worse_through}
use Rattle.mid_improve.proofs.sinking.sink_words.Goals as goal

pub returns : goal.returns
returns c =
    let first = mid c.sink_by-addresses.result in
    let second = mid c.sink_by-words.result in
    let both : IsNoWorseFrom (mid c.args.m) second = no_worse_through (mid c.args.m) first second c.sink_by-addresses.ensures.sunk c.sink_by-words.ensures.sunk in
    record { sunk = no_worse_through (mid c.args.m) second (mid c.sink_by-2.result) both c.sink_by-2.ensures.sunk }
