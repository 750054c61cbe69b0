use Rattle.std.proofs.Common.{length, ◌-◌, ◌≡◌, ℕ, ◌<◌, ◌≤◌}
use Rattle.reg_choose.specs.inner.Trails.{trail_at}
use Rattle.reg_choose.specs.inner.Seen.{seen}
use Rattle.reg_choose.proofs.gather.tell_crossing.Given as goal

abbrev pub invariant-loop-i : goal.invariant-loop-i
invariant-loop-i l = (length l.trails ≡ length l.initial.trails) × (l.i ≤ length l.trails) × ((y : ℕ) → y < l.i → trail_at l.trails y ≡ seen l.initial.trails l.crossed y) × ((y : ℕ) → l.i ≤ y → trail_at l.trails y ≡ trail_at l.initial.trails y)

abbrev pub decreases-loop-i : goal.decreases-loop-i
decreases-loop-i l = length l.trails - l.i
