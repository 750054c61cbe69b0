use Rattle.std.proofs.Common.{drop, ◌≡◌}
use Rattle.mid_live.specs.inner.Words.{IsHeld, spread}
use Rattle.mid_live.proofs.marked.write_words.Given as goal

abbrev pub invariant-loop-e : goal.invariant-loop-e
invariant-loop-e l = IsHeld l.words.items l.marks × (spread l.words.items (drop l.e-index l.es) ≡ spread l.initial.words.items l.es)
