use Rattle.std.proofs.Common.{◌≡◌, ◌++◌, length}
use Rattle.mid_scalars.specs.inner.Table.{kept}
use Rattle.mid_scalars.proofs.building.kept_of.Given as goal

abbrev pub invariant-loop-size : goal.invariant-loop-size
invariant-loop-size l = (length l.flags ≡ length l.rest) × (l.found.items ++ kept l.flags l.rest ≡ kept l.plain l.sizes)

abbrev pub decreases-loop-size : goal.decreases-loop-size
decreases-loop-size l = length l.rest
