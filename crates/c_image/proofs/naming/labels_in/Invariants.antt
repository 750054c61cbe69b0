use Rattle.std.proofs.Common.{◌≡◌, true, [], drop}
use Rattle.assembler.specs.Labels.{are_words}
use Rattle.c_image.specs.inner.Labels.{added}
use Rattle.c_image.proofs.naming.labels_in.Given as goal

abbrev pub invariant-each : goal.invariant-each
invariant-each l = record {
  labels : added l.table (drop l.label-index l.labels) ≡ added [] l.labels;
  words : are_words l.table ≡ true;
}
