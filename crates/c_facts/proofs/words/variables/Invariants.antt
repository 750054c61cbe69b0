use Rattle.std.proofs.Common.{map, drop}
use Rattle.c_types.specs.View.{tvar}
use Rattle.c_facts.specs.Words.{VariablesInWords}
use Rattle.c_facts.proofs.words.variables.Given as goal

abbrev pub invariant-loop-v : goal.invariant-loop-v
invariant-loop-v l = VariablesInWords (map tvar (drop l.v-index l.vars)) → VariablesInWords (map tvar l.vars)
