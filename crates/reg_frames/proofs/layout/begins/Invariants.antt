use Rattle.std.proofs.Common.{◌≡◌, ◌+◌, ◌++◌, ◌<◌, ◌^◌, length, sum}
use Rattle.reg_frames.specs.inner.Placing.{begins_from}
use Rattle.reg_frames.proofs.layout.begins.Given as goal

abbrev pub invariant-loop-size : goal.invariant-loop-size
invariant-loop-size l = (l.from + sum l.rest < 2 ^ 32) × (l.found.items ++ begins_from l.from l.rest ≡ begins_from l.first l.sizes)

abbrev pub decreases-loop-size : goal.decreases-loop-size
decreases-loop-size l = length l.rest
