use Rattle.std.proofs.Common.{◌≡◌, ℕ, ◌<◌, ◌||◌, length, drop}
use Rattle.mid_code.specs.Live.{is_among}
use Rattle.mid_live.specs.Sets.{on}
use Rattle.reg_choose.specs.inner.Holding.{Stands}
use Rattle.reg_choose.proofs.hold.lay_all.Given as goal

abbrev pub invariant-loop-x : goal.invariant-loop-x
invariant-loop-x l = (length l.s ≡ length l.initial.s) × ((y : ℕ) → y < length l.at → (is_among (drop l.x-index l.xs) y || on l.s y) ≡ (is_among l.xs y || on l.initial.s y)) × Stands l.at l.s l.hs
