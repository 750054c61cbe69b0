use Rattle.std.proofs.Common.{length, drop, ◌≡◌, ℕ, ◌<◌, ◌&&◌, not}
use Rattle.mid_live.specs.Sets.{on, room}
use Rattle.mid_live.specs.inner.Words.{some, IsHeld}
use Rattle.mid_live.proofs.marked.leave_words.Given as goal

abbrev pub invariant-loop-e : goal.invariant-loop-e
invariant-loop-e l = (length l.words.items ≡ length l.initial.words.items) × IsHeld l.words.items l.marks × ((y : ℕ) → y < room l.words.items → (on l.words.items y && not (some (drop l.e-index l.es) y)) ≡ (on l.initial.words.items y && not (some l.es y)))
