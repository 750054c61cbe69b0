use Rattle.std.proofs.Common.{◌≡◌, ◌≢◌, ℕ, ◌<◌, ◌≤◌, ◌-◌, length, true, Some}
use Rattle.mid_live.specs.Sets.{on}
use Rattle.reg_choose.specs.inner.Holding.{number_at}
use Rattle.reg_choose.proofs.target.slots.Given as goal

abbrev pub invariant-loop-r : goal.invariant-loop-r
invariant-loop-r l = (l.r ≤ 9) × ((y : ℕ) → y < length l.at → on l.s y ≡ true → l.t ≢ Some y → number_at l.at y < l.r → ⊥)

abbrev pub decreases-loop-r : goal.decreases-loop-r
decreases-loop-r l = 9 - l.r
