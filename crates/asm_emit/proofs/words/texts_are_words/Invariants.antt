use Rattle.std.proofs.Common.{drop}
use Rattle.asm_emit.specs.inner.Words.{TextsAreWords}
use Rattle.asm_emit.proofs.words.texts_are_words.Given as goal

abbrev pub invariant-loop-text : goal.invariant-loop-text
invariant-loop-text l = TextsAreWords (drop l.text-index l.texts) → TextsAreWords l.texts
