use Rattle.std.proofs.Common.{◌≡◌, ◌≤◌, ◌+◌, length}
use Rattle.project_text.specs.Reading.{read_from, project_of}
use Rattle.line_text.specs.Lines.{lines_of}
use Rattle.project_text.proofs.reading.project_of.Given as goal

abbrev pub invariant-each : goal.invariant-each
invariant-each l = record {
  number : l.number + length l.rest ≤ length l.bytes + 1;
  reads : read_from l.number l.state (lines_of l.rest) ≡ project_of l.bytes;
}

abbrev pub decreases-each : goal.decreases-each
decreases-each l = length l.rest
