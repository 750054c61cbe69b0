use Rattle.std.proofs.Common.{drop}
use Rattle.asm_emit.specs.inner.Words.{AreWords}
use Rattle.asm_emit.proofs.words.bytes.Given as goal

abbrev pub invariant-loop-b : goal.invariant-loop-b
invariant-loop-b l = AreWords (drop l.b-index l.text) → AreWords l.text
