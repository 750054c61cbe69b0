use Rattle.std.proofs.Common.{◌≡◌, take}
use Rattle.std.specs.List.{flat_map}
use Rattle.asm_items.specs.Written.{item_line}
use Rattle.asm_items.proofs.writing.write_asm.Given as goal

abbrev pub invariant-each : goal.invariant-each
invariant-each l = l.out.items ≡ flat_map item_line (take l.item-index l.items)
