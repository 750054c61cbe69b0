use Rattle.std.proofs.Common.{◌+◌, ◌≤◌, length}
use Rattle.std.specs.Prelude.{option_map}
use Rattle.std.specs.Option.{option_map_or}
use Rattle.assembler.specs.inner.Parts.{Goes}
use Rattle.assembler.proofs.texts.parts_of_text.Given as goal

-- with what the text left gives, the parts so far are those of the text
abbrev pub invariant-each : goal.invariant-each
invariant-each l = record {
  goes : Goes l.text (option_map (λ r. r.now) l.left) l.parts.words.items l.parts.labels.items;
  few : length l.parts.words.items ≤ 33554432;
}

abbrev pub decreases-each : goal.decreases-each
decreases-each l = option_map_or (λ r. length r.now + 1) l.left 0
