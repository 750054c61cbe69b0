use Rattle.std.proofs.Common.{◌≡◌, ◌≤◌, ◌+◌, length}
use Rattle.c_lex.specs.Found.{reading_of}
use Rattle.c_lex.proofs.Steps.{Continues}
use Rattle.c_lex.proofs.lexing.read_tokens.Given as goal

abbrev pub invariant-each : goal.invariant-each
invariant-each l = record {
  byte : l.place.byte + length l.rest ≡ length l.bytes;
  line : l.place.line ≤ l.place.byte + 1;
  reads : Continues l.place l.rest (reading_of l.file l.bytes);
}

abbrev pub decreases-each : goal.decreases-each
decreases-each l = length l.rest
