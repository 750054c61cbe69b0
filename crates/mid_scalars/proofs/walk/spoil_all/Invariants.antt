use Rattle.std.proofs.Common.{◌≡◌, ◌<◌, ℕ, length, drop}
use Rattle.mid_scalars.specs.inner.Purposes.{spoilt, role_at}
use Rattle.mid_scalars.proofs.walk.spoil_all.Given as goal

abbrev pub invariant-loop-x : goal.invariant-loop-x
invariant-loop-x l = (length l.roles ≡ length l.initial.roles) × ((y : ℕ) → y < length l.roles → spoilt (drop l.x-index l.xs) y (role_at l.roles y) ≡ spoilt l.xs y (role_at l.initial.roles y))
