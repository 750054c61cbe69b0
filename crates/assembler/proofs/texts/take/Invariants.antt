use Rattle.std.proofs.Common.{◌≡◌, ◌+◌, ◌++◌, ◌≤◌, length}
use Rattle.assembler.specs.Placed.{labels_from}
use Rattle.assembler.specs.inner.Parts.{parts_of}
use Rattle.assembler.proofs.texts.take.Given as goal

abbrev pub invariant-each : goal.invariant-each
invariant-each l = record {
  words : l.parts.words.items ++ parts_of l.rest ≡ l.initial.parts.words.items ++ parts_of l.items;
  labels : l.parts.labels.items ++ labels_from (0x20000000 + length l.parts.words.items) l.rest
      ≡ l.initial.parts.labels.items ++ labels_from (0x20000000 + length l.initial.parts.words.items) l.items;
  few : length l.parts.words.items ≤ 33554432;
}

abbrev pub decreases-each : goal.decreases-each
decreases-each l = length l.rest
