use Rattle.std.proofs.Common.{◌≡◌, [], length}
use Rattle.assembler.specs.inner.Parts.{words_on}
use Rattle.assembler.proofs.texts.placed_words.Given as goal

abbrev pub invariant-each : goal.invariant-each
invariant-each l = words_on l.labels l.words.items l.rest ≡ words_on l.labels [] l.parts

abbrev pub decreases-each : goal.decreases-each
decreases-each l = length l.rest
