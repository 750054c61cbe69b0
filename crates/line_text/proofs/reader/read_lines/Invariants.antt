use Rattle.std.proofs.Common.{◌≡◌, ◌≤◌, ◌+◌, length}
use Rattle.line_text.specs.Reading.{read_from}
use Rattle.line_text.specs.Lines.{lines_of}
use Rattle.line_text.proofs.Stepping.{Taken}
use Rattle.line_text.proofs.reader.read_lines.Given as goal

abbrev pub invariant-each : goal.invariant-each
invariant-each g l = record {
  number : l.number + length l.rest ≤ length l.bytes + 1;
  reads : read_from g.R.LineReader.step l.number l.reader (lines_of l.rest) ≡ read_from g.R.LineReader.step 1 l.fn.reader (lines_of l.bytes);
  taken : Taken g.R.LineReader.step l.fn.reader (lines_of l.bytes) l.number l.reader (lines_of l.rest);
}

abbrev pub decreases-each : goal.decreases-each
decreases-each g l = length l.rest
