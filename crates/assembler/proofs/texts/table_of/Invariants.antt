use Rattle.std.proofs.Common.{◌≡◌, [], length}
use Rattle.assembler.specs.inner.Parts.{filled}
use Rattle.assembler.proofs.texts.table_of.Given as goal

abbrev pub invariant-each : goal.invariant-each
invariant-each l = filled l.table l.rest ≡ filled [] l.labels

abbrev pub decreases-each : goal.decreases-each
decreases-each l = length l.rest
