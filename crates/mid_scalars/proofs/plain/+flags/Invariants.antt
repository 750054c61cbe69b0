use Rattle.std.proofs.Common.{◌≡◌, ◌<◌, ◌&&◌, ℕ, length, drop}
use Rattle.mid_code.specs.Functions.{nodes}
use Rattle.mid_scalars.specs.inner.Table.{all_nodes}
use Rattle.mid_scalars.specs.inner.Purposes.{takes_by, role_at}
use Rattle.mid_scalars.specs.inner.Flags.{flag_at}
use Rattle.mid_scalars.proofs.plain.+flags.Given as goal

abbrev pub invariant-nodes_flags-loop-n : goal.invariant-nodes_flags-loop-n
invariant-nodes_flags-loop-n l = (length l.plain ≡ length l.initial.plain) × ((k : ℕ) → k < length l.plain → (flag_at l.plain k && all_nodes (takes_by (role_at l.roles) k) (nodes (drop l.n-index l.ns))) ≡ (flag_at l.initial.plain k && all_nodes (takes_by (role_at l.roles) k) (nodes l.ns)))
