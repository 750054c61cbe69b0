use Rattle.std.proofs.Common.{◌≡◌, ℕ, ◌<◌, ◌||◌, length, drop}
use Rattle.mid_code.specs.Live.{is_among}
use Rattle.mid_live.specs.Sets.{on, room}
use Rattle.mid_live.proofs.operations.put_all.Given as goal

abbrev pub invariant-loop-x : goal.invariant-loop-x
invariant-loop-x l = (length l.s ≡ length l.initial.s) × ((y : ℕ) → y < room l.s → (is_among (drop l.x-index l.xs) y || on l.s y) ≡ (is_among l.xs y || on l.initial.s y))
