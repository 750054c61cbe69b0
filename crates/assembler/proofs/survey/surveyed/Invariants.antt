use Rattle.std.proofs.Common.{◌≡◌, ◌+◌, ◌*◌, ◌≤◌, [], length}
use Rattle.assembler.specs.Faults.{twice_from}
use Rattle.assembler.specs.inner.Survey.{collected, names_of, or_later}
use Rattle.assembler.proofs.survey.surveyed.Given as goal

abbrev pub invariant-each : goal.invariant-each
invariant-each l = record {
  number : l.number + length l.rest ≡ length l.items;
  address : l.address ≤ 0x20000000 + 2 * l.number;
  labels : collected l.address l.survey.labels l.rest ≡ collected 0x20000000 [] l.items;
  twice : or_later l.survey.twice (twice_from (l.number + 1) (names_of l.survey.labels) l.rest) ≡ twice_from 1 [] l.items;
}

abbrev pub decreases-each : goal.decreases-each
decreases-each l = length l.rest
