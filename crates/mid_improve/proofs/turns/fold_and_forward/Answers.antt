use Rattle.mid_code.specs.Whole.{mid}
use Rattle.mid_improve.specs.ImprovedFrom.{IsNoWorseFrom}
use Rattle.mid_improve.proofs.Improving.{folded, no_worse_through, fold_and_forward}
use Rattle.mid_improve.proofs.turns.fold_and_forward.Goals as goal

pub returns : goal.returns
returns c =
    let first = mid c.in_ok-folded.folded in
    let reused = mid c.in_ok-reused.reused in
    let sunk = mid c.sink_words-sunk.result in
    let moved = mid c.retarget_moves-moved.result in
    let as_reused : IsNoWorseFrom first reused = folded first reused c.in_ok-reused.ensures.reused in
    let as_moved : IsNoWorseFrom reused moved = no_worse_through reused sunk moved c.sink_words-sunk.ensures.sunk c.retarget_moves-moved.ensures.retargeted in
    let between : IsNoWorseFrom first moved = no_worse_through first reused moved as_reused as_moved in
    fold_and_forward (mid c.args.m) first moved (mid c.in_ok-forward.forward) c.in_ok-folded.ensures.folded between c.in_ok-forward.ensures.forwarded
