use Rattle.std.proofs.Common.{map, drop}
use Rattle.c_types.specs.View.{tinit, tinits}
use Rattle.c_facts.specs.Words.{AllFillInWords}
use Rattle.c_facts.proofs.words.+initialisers.Given as goal

abbrev pub invariant-initialisers-loop-i : goal.invariant-initialisers-loop-i
invariant-initialisers-loop-i l = AllFillInWords (tinits (map tinit (drop l.i-index l.items))) → AllFillInWords (tinits (map tinit l.items))
