use Rattle.std.proofs.Common.{◌≡◌, ◌≤◌, ◌+◌, length}
use Rattle.c_lex.specs.Gaps.{gap_len}
use Rattle.c_lex.specs.Found.{reading_from}
use Rattle.c_lex.proofs.lexing.past_gaps.Given as goal

abbrev pub invariant-each : goal.invariant-each
invariant-each l = record {
  same : reading_from 0 l.at l.rest ≡ reading_from 0 l.fn.place l.bytes;
  size : l.gap ≡ gap_len l.rest;
  within : l.gap ≤ length l.rest;
  byte : l.at.byte + length l.rest ≡ l.fn.place.byte + length l.bytes;
  line : l.at.line ≤ l.at.byte + 1;
}

abbrev pub decreases-each : goal.decreases-each
decreases-each l = length l.rest
