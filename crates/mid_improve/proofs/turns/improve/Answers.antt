use Rattle.std.proofs.Common.{rules, ◌≡◌, ◌↔◌, true}
use Rattle.mid_code.specs.Whole.{mid}
use Rattle.mid_improve.specs.Settled.{IsSettled}
use Rattle.mid_improve.proofs.Improving.{round_after}
use Rattle.mid_improve.proofs.turns.improve.Goals as goal

pub rounds-preserved : goal.rounds-preserved
rounds-preserved c =
    let exact : (c.in_ok-settled-2.settled ≡ true) ↔ IsSettled (mid c.in_ok-now-2.now) = search rules in
    record { forwarded = round_after (mid c.args.m) (mid c.rounds.now) (mid c.in_ok-now-2.now) c.rounds.invariant.forwarded c.in_ok-now-2.ensures; exact = exact }
