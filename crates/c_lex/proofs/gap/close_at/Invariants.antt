use Rattle.std.proofs.Common.{length, ◌≡◌, ◌+◌}
use Rattle.c_lex.specs.Gaps.{close_at}
use Rattle.c_lex.proofs.Closing.{shifted}
use Rattle.c_lex.proofs.gap.close_at.Given as goal

abbrev pub invariant-each : goal.invariant-each
invariant-each l = (l.at + length l.rest ≡ length l.bytes) × (shifted l.at (close_at l.rest) ≡ close_at l.bytes)

abbrev pub decreases-each : goal.decreases-each
decreases-each l = length l.rest
