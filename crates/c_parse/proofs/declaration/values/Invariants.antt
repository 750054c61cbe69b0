use Rattle.std.proofs.Common.{length, map, option_map}
use Rattle.c_tree.specs.View.{expr}
use Rattle.c_parse.specs.Tok.{toks}
use Rattle.c_parse.specs.inner.View.{context}
use Rattle.c_parse.specs.inner.ReadingLists.{more_turn, listed}
use Rattle.c_parse.specs.inner.ReadingDeclarations.{value}
use Rattle.c_parse.proofs.Loops.{Goes}
use Rattle.c_parse.proofs.declaration.values.Given as goal

abbrev pub invariant-values : goal.invariant-values
invariant-values l = Goes (more_turn (value (context l.scope) l.room)) (map (λ v. (v.0, option_map expr v.1)) l.found.items) (toks l.rest) (listed (value (context l.scope) l.room) (toks l.tokens))

abbrev pub decreases-values : goal.decreases-values
decreases-values l = length (toks l.rest)
