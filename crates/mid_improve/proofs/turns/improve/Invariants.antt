use Rattle.std.proofs.Common.{◌≡◌, ◌↔◌, true}
use Rattle.mid_code.specs.Runs.{weight}
use Rattle.mid_code.specs.Whole.{mid}
use Rattle.mid_improve.specs.Settled.{IsSettled}
use Rattle.mid_improve.specs.inner.Rounds.{IsForwarded}
use Rattle.mid_improve.proofs.turns.improve.Given as goal

abbrev pub invariant-rounds : goal.invariant-rounds
invariant-rounds l = record {
  forwarded : IsForwarded (mid l.fn.m) (mid l.now);
  exact : (l.settled ≡ true) ↔ IsSettled (mid l.now);
}

abbrev pub decreases-rounds : goal.decreases-rounds
decreases-rounds l = weight (mid l.now)
