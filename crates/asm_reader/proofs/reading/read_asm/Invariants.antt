use Rattle.std.proofs.Common.{◌≡◌, ◌≤◌, ◌+◌, [], length}
use Rattle.std.specs.Option.{option_map_or}
use Rattle.asm_reader.specs.Parted.{parted}
use Rattle.asm_reader.specs.Reading.{before_items, is_newline, read, read_from}
use Rattle.asm_reader.proofs.reading.read_asm.Given as goal

-- what the lines left give, behind the items so far, is what the text gives
abbrev pub invariant-each : goal.invariant-each
invariant-each l = record {
  so_far : before_items l.items.items (read_from l.number (option_map_or (λ r. parted is_newline r.now) l.left [])) ≡ read l.bytes;
  counted : l.number + option_map_or (λ r. length r.now + 1) l.left 0 ≤ length l.bytes + 2;
}

abbrev pub decreases-each : goal.decreases-each
decreases-each l = option_map_or (λ r. length r.now + 1) l.left 0
