use Rattle.std.proofs.Common.{length, map, ◌-◌}
use Rattle.c_tree.specs.View.{var}
use Rattle.c_parse.specs.Tok.{toks}
use Rattle.c_parse.specs.inner.View.{context}
use Rattle.c_parse.proofs.VarLoops.{FieldsGo}
use Rattle.c_parse.proofs.declaration.member.Given as goal

abbrev pub invariant-fields : goal.invariant-fields
invariant-fields l = FieldsGo (context l.scope) (l.room - 1) (toks l.tokens) (map var l.fn.before.items) (map var l.found.items) (toks l.rest)

abbrev pub decreases-fields : goal.decreases-fields
decreases-fields l = length (toks l.rest)
