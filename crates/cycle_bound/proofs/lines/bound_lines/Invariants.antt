use Rattle.std.proofs.Common.{◌≡◌, ◌++◌, length}
use Rattle.cycle_bound.specs.Lines.{bound_lines}
use Rattle.cycle_bound.proofs.lines.bound_lines.Given as goal

abbrev pub invariant-each : goal.invariant-each
invariant-each l = l.lines.items ++ bound_lines l.left l.bounds_left ≡ bound_lines l.names l.bounds

abbrev pub decreases-each : goal.decreases-each
decreases-each l = length l.left
