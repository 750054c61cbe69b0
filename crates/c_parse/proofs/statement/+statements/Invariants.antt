use Rattle.std.proofs.Common.{length, map, ◌+◌, ◌*◌}
use Rattle.c_tree.specs.View.{stmt, arm}
use Rattle.c_parse.specs.Tok.{toks}
use Rattle.c_parse.specs.inner.View.{context}
use Rattle.c_parse.specs.inner.ReadingLists.{brace_turn, braced}
use Rattle.c_parse.specs.inner.ReadingStatements.{bodies}
use Rattle.c_parse.proofs.Loops.{Goes}
use Rattle.c_parse.proofs.statement.+statements.Given as goal

abbrev pub decreases-statement : goal.decreases-statement
decreases-statement l = 4 * l.room

abbrev pub decreases-block : goal.decreases-block
decreases-block l = 4 * l.room + 2

abbrev pub decreases-inner : goal.decreases-inner
decreases-inner l = 4 * l.room + 1

abbrev pub decreases-guarded : goal.decreases-guarded
decreases-guarded l = 4 * l.room + 2

abbrev pub decreases-otherwise : goal.decreases-otherwise
decreases-otherwise l = 4 * l.room + 2

abbrev pub decreases-switch_body : goal.decreases-switch_body
decreases-switch_body l = 4 * l.room + 2

abbrev pub decreases-while_statement : goal.decreases-while_statement
decreases-while_statement l = 4 * l.room + 3

abbrev pub decreases-do_statement : goal.decreases-do_statement
decreases-do_statement l = 4 * l.room + 1

abbrev pub decreases-switch_statement : goal.decreases-switch_statement
decreases-switch_statement l = 4 * l.room + 3

abbrev pub decreases-if_statement : goal.decreases-if_statement
decreases-if_statement l = 4 * l.room + 3

abbrev pub decreases-for_statement : goal.decreases-for_statement
decreases-for_statement l = 4 * l.room + 2

abbrev pub decreases-statements : goal.decreases-statements
decreases-statements l = 4 * l.room + 1

abbrev pub decreases-arm : goal.decreases-arm
decreases-arm l = 4 * l.room

abbrev pub decreases-arms : goal.decreases-arms
decreases-arms l = 4 * l.room + 1

abbrev pub invariant-statements-statements : goal.invariant-statements-statements
invariant-statements-statements l = Goes (brace_turn (bodies (context l.scope) l.room).stmt) (map stmt l.found.items) (toks l.rest) (braced (bodies (context l.scope) l.room).stmt (toks l.tokens))

abbrev pub decreases-statements-statements : goal.decreases-statements-statements
decreases-statements-statements l = length (toks l.rest)

abbrev pub invariant-arms-arms : goal.invariant-arms-arms
invariant-arms-arms l = Goes (brace_turn (bodies (context l.scope) l.room).arm) (map arm l.found.items) (toks l.rest) (braced (bodies (context l.scope) l.room).arm (toks l.tokens))

abbrev pub decreases-arms-arms : goal.decreases-arms-arms
decreases-arms-arms l = length (toks l.rest)
