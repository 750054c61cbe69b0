use Rattle.std.proofs.Common.{◌≡◌, ◌<◌, ℕ, length, drop}
use Rattle.mid_code.specs.Functions.{nodes}
use Rattle.mid_scalars.specs.inner.Purposes.{role_in, role_at}
use Rattle.mid_scalars.proofs.walk.+roles.Given as goal

abbrev pub invariant-nodes_roles-loop-n : goal.invariant-nodes_roles-loop-n
invariant-nodes_roles-loop-n l = (length l.roles ≡ length l.initial.roles) × ((y : ℕ) → y < length l.roles → role_in y (nodes (drop l.n-index l.ns)) (role_at l.roles y) ≡ role_in y (nodes l.ns) (role_at l.initial.roles y))
