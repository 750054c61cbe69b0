use Rattle.std.proofs.Common.{drop}
use Rattle.asm_emit.specs.inner.Words.{AreWords}
use Rattle.asm_emit.proofs.words.sizes_are_words.Given as goal

abbrev pub invariant-loop-size : goal.invariant-loop-size
invariant-loop-size l = AreWords (drop l.size-index l.sizes) → AreWords l.sizes
