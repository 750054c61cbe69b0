use Rattle.std.proofs.Common.{length, map, ◌-◌}
use Rattle.c_tree.specs.View.{init}
use Rattle.c_parse.specs.Tok.{toks}
use Rattle.c_parse.specs.inner.View.{context}
use Rattle.c_parse.specs.inner.Reader.{behind}
use Rattle.c_parse.specs.inner.ReadingLists.{more_turn, listed}
use Rattle.c_parse.specs.inner.ReadingDeclarations.{init_at}
use Rattle.c_parse.proofs.Loops.{Goes}
use Rattle.c_parse.proofs.declaration.+initials.Given as goal

abbrev pub decreases-initial : goal.decreases-initial
decreases-initial l = l.room

abbrev pub invariant-initials : goal.invariant-initials
invariant-initials l = Goes (more_turn (λ us. init_at (context l.scope) (l.room - 1) us)) (map init l.found.items) (toks l.rest) (listed (λ us. init_at (context l.scope) (l.room - 1) us) (behind (toks l.tokens)))

abbrev pub decreases-initials : goal.decreases-initials
decreases-initials l = length (toks l.rest)
