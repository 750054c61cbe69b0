use Rattle.std.proofs.Common.{◌≡◌, ℕ, ◌||◌, ◌&&◌, not, drop}
use Rattle.mid_live.specs.Sets.{on}
use Rattle.mid_code.specs.Live.{is_among}
use Rattle.mid_live.specs.inner.Words.{some}
use Rattle.mid_live.proofs.words.push_gone.Given as goal

abbrev pub invariant-loop-e : goal.invariant-loop-e
invariant-loop-e l = (y : ℕ) → (is_among l.found.items y || (some (drop l.e-index l.es) y && not (on l.words y))) ≡ (is_among l.initial.found.items y || (some l.es y && not (on l.words y)))
