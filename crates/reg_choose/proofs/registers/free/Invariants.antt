use Rattle.std.proofs.Common.{◌≡◌, ◌≤◌}
use Rattle.reg_choose.specs.inner.Scan.{free}
use Rattle.reg_choose.specs.inner.Handing.{freed_at}
use Rattle.reg_choose.proofs.registers.free.Given as goal

abbrev pub invariant-loop-n : goal.invariant-loop-n
invariant-loop-n l = (l.n ≤ 9) × (free (freed_at l.tenants) l.place l.n ≡ free (freed_at l.tenants) l.place 9)

abbrev pub decreases-loop-n : goal.decreases-loop-n
decreases-loop-n l = l.n
