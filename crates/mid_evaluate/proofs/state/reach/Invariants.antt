use Rattle.std.proofs.Common.{◌≡◌, ◌+◌, ◌-◌, length}
use Rattle.mid_evaluate.specs.View.{held}
use Rattle.mid_evaluate.proofs.state.reach.Given as goal

abbrev pub invariant-reach : goal.invariant-reach
invariant-reach l = held l.cells.items ≡ held l.fn.cells.items

abbrev pub decreases-reach : goal.decreases-reach
decreases-reach l = l.t + 1 - length l.cells.items
