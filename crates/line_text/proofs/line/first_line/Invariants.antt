use Rattle.std.proofs.Common.{length}
use Rattle.line_text.proofs.Splitting.{Within}
use Rattle.line_text.proofs.line.first_line.Given as goal

abbrev pub invariant-each : goal.invariant-each
invariant-each l = Within l.bytes l.at l.rest

abbrev pub decreases-each : goal.decreases-each
decreases-each l = length l.rest
