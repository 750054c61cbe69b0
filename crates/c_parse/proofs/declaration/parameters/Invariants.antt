use Rattle.std.proofs.Common.{length, map}
use Rattle.c_tree.specs.View.{var}
use Rattle.c_parse.specs.Tok.{toks}
use Rattle.c_parse.specs.inner.View.{context}
use Rattle.c_parse.specs.inner.ReadingLists.{comma_turn, separated}
use Rattle.c_parse.specs.inner.ReadingDeclarations.{param_at}
use Rattle.c_parse.proofs.Loops.{Goes}
use Rattle.c_parse.proofs.declaration.parameters.Given as goal

abbrev pub invariant-parameters : goal.invariant-parameters
invariant-parameters l = Goes (comma_turn (param_at (context l.scope) l.room)) (map var l.found.items) (toks l.rest) (separated (param_at (context l.scope) l.room) (toks l.tokens))

abbrev pub decreases-parameters : goal.decreases-parameters
decreases-parameters l = length (toks l.rest)
