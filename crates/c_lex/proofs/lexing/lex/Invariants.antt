use Rattle.std.proofs.Common.{◌≡◌, ◌++◌, length}
use Rattle.c_lex.specs.Reading.{Reads, found}
use Rattle.c_lex.proofs.lexing.lex.Given as goal

-- the list so far and the tokens left are those of the text
abbrev pub invariant-each : goal.invariant-each
invariant-each l = Reads l.file l.bytes (found (l.list.items ++ l.left))

abbrev pub decreases-each : goal.decreases-each
decreases-each l = length l.left
