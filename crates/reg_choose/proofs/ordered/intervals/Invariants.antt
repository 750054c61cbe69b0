use Rattle.std.proofs.Common.{◌≡◌, ◌-◌, ◌≤◌, ◌<◌, ◌++◌, length, drop, map}
use Rattle.std.specs.List.{All}
use Rattle.reg_choose.specs.declared.interval.Interval.{Interval}
use Rattle.reg_choose.specs.inner.Handing.{span, spans_from}
use Rattle.reg_choose.proofs.ordered.intervals.Given as goal

abbrev pub invariant-loop-x : goal.invariant-loop-x
invariant-loop-x l = (l.x ≤ length l.trails) × (map span l.found.items ++ spans_from l.x (drop l.x l.trails) ≡ spans_from 0 l.trails) × All (λ (s : Interval). s.temp < length l.trails) l.found.items

abbrev pub decreases-loop-x : goal.decreases-loop-x
decreases-loop-x l = length l.trails - l.x
