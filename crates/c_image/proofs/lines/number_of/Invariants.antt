use Rattle.std.proofs.Common.{◌≡◌, ◌+◌, length}
use Rattle.c_image.specs.Lines.{number_of}
use Rattle.c_image.proofs.lines.number_of.Given as goal

abbrev pub invariant-each : goal.invariant-each
invariant-each l = record {
  number : l.number + number_of l.name l.rest ≡ number_of l.name l.files;
  room : l.number + length l.rest ≡ length l.files;
}

abbrev pub decreases-each : goal.decreases-each
decreases-each l = length l.rest
