use Rattle.std.proofs.Common.{◌<◌, ◌≤◌, ◌-◌}
use Rattle.reg_choose.proofs.registers.last_to_end.Given as goal

abbrev pub invariant-loop-r : goal.invariant-loop-r
invariant-loop-r l = (l.best < 9) × (l.r ≤ 9)

abbrev pub decreases-loop-r : goal.decreases-loop-r
decreases-loop-r l = 9 - l.r
