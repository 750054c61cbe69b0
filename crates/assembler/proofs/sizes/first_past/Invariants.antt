use Rattle.std.proofs.Common.{◌≡◌, ◌+◌, ◌≤◌, length}
use Rattle.assembler.specs.Faults.{past_from}
use Rattle.assembler.proofs.sizes.first_past.Given as goal

abbrev pub invariant-each : goal.invariant-each
invariant-each l = record {
  number : l.number + length l.rest ≡ length l.items;
  words : l.words ≤ 33554432;
  past : past_from (l.number + 1) l.words l.rest ≡ past_from 1 0 l.items;
}

abbrev pub decreases-each : goal.decreases-each
decreases-each l = length l.rest
