use Rattle.std.proofs.Common.{length, map}
use Rattle.c_tree.specs.View.{var}
use Rattle.c_parse.specs.Tok.{toks}
use Rattle.c_parse.specs.inner.View.{context}
use Rattle.c_parse.specs.inner.ReadingDeclarations.{members_turn, members_at}
use Rattle.c_parse.proofs.Loops.{Goes}
use Rattle.c_parse.proofs.declaration.members.Given as goal

abbrev pub invariant-members : goal.invariant-members
invariant-members l = Goes (members_turn (context l.scope) l.room) (map var l.found.items) (toks l.rest) (members_at (context l.scope) l.room (toks l.tokens))

abbrev pub decreases-members : goal.decreases-members
decreases-members l = length (toks l.rest)
