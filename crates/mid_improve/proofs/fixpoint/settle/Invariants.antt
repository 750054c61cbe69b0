use Rattle.mid_code.specs.Whole.{mid}
use Rattle.mid_scalars.specs.PromotedFrom.{local_count}
use Rattle.mid_improve.proofs.Made.{Goes}
use Rattle.mid_improve.proofs.fixpoint.settle.Given as goal

-- the code is made of what was given, has no plain local, and its locals are counted
abbrev pub invariant-rounds : goal.invariant-rounds
invariant-rounds l = Goes (mid l.fn.m) (mid l.at) l.left.items

-- each round but the last takes a local
abbrev pub decreases-rounds : goal.decreases-rounds
decreases-rounds l = local_count (mid l.at)
