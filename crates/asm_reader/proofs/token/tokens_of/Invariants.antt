use Rattle.std.proofs.Common.{◌≡◌, ◌++◌, length}
use Rattle.asm_reader.specs.Tokens.{tokens_of}
use Rattle.asm_reader.proofs.token.tokens_of.Given as goal

-- the tokens so far and those of the rest are those of the line
abbrev pub invariant-each : goal.invariant-each
invariant-each l = l.tokens.items ++ tokens_of l.rest ≡ tokens_of l.line

abbrev pub decreases-each : goal.decreases-each
decreases-each l = length l.rest
