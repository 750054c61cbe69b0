use Rattle.std.proofs.Common.{map, drop}
use Rattle.c_types.specs.View.{function}
use Rattle.c_facts.specs.Words.{FunctionsInWords}
use Rattle.c_facts.proofs.words.functions.Given as goal

abbrev pub invariant-loop-f : goal.invariant-loop-f
invariant-loop-f l = FunctionsInWords (map function (drop l.f-index l.all)) → FunctionsInWords (map function l.all)
