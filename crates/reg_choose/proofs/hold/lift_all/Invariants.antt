use Rattle.std.proofs.Common.{◌≡◌, ℕ, ◌<◌, ◌&&◌, not, length, drop}
use Rattle.mid_code.specs.Live.{is_among}
use Rattle.mid_live.specs.Sets.{on}
use Rattle.reg_choose.specs.inner.Holding.{Stands}
use Rattle.reg_choose.proofs.hold.lift_all.Given as goal

abbrev pub invariant-loop-x : goal.invariant-loop-x
invariant-loop-x l = (length l.s ≡ length l.initial.s) × ((y : ℕ) → y < length l.at → (on l.s y && not (is_among (drop l.x-index l.xs) y)) ≡ (on l.initial.s y && not (is_among l.xs y))) × Stands l.at l.s l.hs
