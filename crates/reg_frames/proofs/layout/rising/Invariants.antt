use Rattle.std.proofs.Common.{◌≡◌, ◌+◌, ◌++◌}
use Rattle.reg_frames.specs.inner.Placing.{rising}
use Rattle.reg_frames.proofs.layout.rising.Given as goal

abbrev pub invariant-loop-left : goal.invariant-loop-left
invariant-loop-left l = (l.from + l.left ≡ l.count) × (l.found.items ++ rising l.from l.left ≡ rising 0 l.count)

abbrev pub decreases-loop-left : goal.decreases-loop-left
decreases-loop-left l = l.left
