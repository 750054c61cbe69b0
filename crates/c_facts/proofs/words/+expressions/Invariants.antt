use Rattle.std.proofs.Common.{map, drop}
use Rattle.c_types.specs.View.{texpr, texprs}
use Rattle.c_facts.specs.Words.{AllInWords}
use Rattle.c_facts.proofs.words.+expressions.Given as goal

abbrev pub invariant-expressions-loop-x : goal.invariant-expressions-loop-x
invariant-expressions-loop-x l = AllInWords (texprs (map texpr (drop l.x-index l.xs))) → AllInWords (texprs (map texpr l.xs))
