use Rattle.std.proofs.Common.{◌≡◌, ◌+◌, ◌++◌, ◌≤◌, length}
use Rattle.assembler.specs.Placed.{labels_from}
use Rattle.assembler.specs.Sizes.{total_size}
use Rattle.assembler.proofs.placement.labels_of.Given as goal

abbrev pub invariant-each : goal.invariant-each
invariant-each l = record {
  fits : l.address + total_size l.rest ≤ 570425344;
  labels : l.labels.items ++ labels_from l.address l.rest ≡ labels_from 0x20000000 l.items;
}

abbrev pub decreases-each : goal.decreases-each
decreases-each l = length l.rest
