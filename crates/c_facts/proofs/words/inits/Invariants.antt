use Rattle.std.proofs.Common.{map, drop}
use Rattle.c_types.specs.View.{tstmt}
use Rattle.c_facts.specs.Words.{FillInWords}
use Rattle.c_facts.proofs.words.inits.Given as goal

abbrev pub invariant-loop-s : goal.invariant-loop-s
invariant-loop-s l = FillInWords (map tstmt (drop l.s-index l.all)) → FillInWords (map tstmt l.all)
