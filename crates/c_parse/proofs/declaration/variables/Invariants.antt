use Rattle.std.proofs.Common.{length, map, ◌-◌}
use Rattle.c_tree.specs.View.{var}
use Rattle.c_parse.specs.Tok.{toks}
use Rattle.c_parse.specs.inner.View.{context}
use Rattle.c_parse.specs.inner.ReadingDeclarations.{vars_at}
use Rattle.c_parse.proofs.VarLoops.{VarsGo}
use Rattle.c_parse.proofs.declaration.variables.Given as goal

abbrev pub invariant-variables : goal.invariant-variables
invariant-variables l = VarsGo (context l.scope) (l.room - 1) (toks l.tokens) (map var l.found.items) (toks l.rest) (vars_at (context l.scope) l.room (toks l.tokens))

abbrev pub decreases-variables : goal.decreases-variables
decreases-variables l = length (toks l.rest)
