use Rattle.std.proofs.Common.{◌≡◌, ◌+◌, length, sum}
use Rattle.reg_frames.proofs.layout.total.Given as goal

abbrev pub invariant-loop-size : goal.invariant-loop-size
invariant-loop-size l = l.total + sum l.rest ≡ sum l.sizes

abbrev pub decreases-loop-size : goal.decreases-loop-size
decreases-loop-size l = length l.rest
