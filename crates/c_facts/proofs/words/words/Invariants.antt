use Rattle.std.proofs.Common.{drop}
use Rattle.c_facts.specs.Words.{AreWords}
use Rattle.c_facts.proofs.words.words.Given as goal

abbrev pub invariant-loop-number : goal.invariant-loop-number
invariant-loop-number l = AreWords (drop l.number-index l.numbers) → AreWords l.numbers
