use Rattle.std.proofs.Common.{◌≡◌, ◌+◌, length}
use Rattle.assembler.specs.Faults.{unknown_from}
use Rattle.assembler.proofs.naming.first_unknown.Given as goal

abbrev pub invariant-each : goal.invariant-each
invariant-each l = record {
  number : l.number + length l.rest ≡ length l.items;
  unknown : unknown_from (l.number + 1) l.labels l.rest ≡ unknown_from 1 l.labels l.items;
}

abbrev pub decreases-each : goal.decreases-each
decreases-each l = length l.rest
