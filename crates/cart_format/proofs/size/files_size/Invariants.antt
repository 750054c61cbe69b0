use Rattle.std.proofs.Common.{◌≡◌, ◌-◌, ◌^◌, length, take, min}
use Rattle.std.specs.List.{flat_map}
use Rattle.cart_format.specs.Table.{name_text}
use Rattle.cart_format.proofs.size.files_size.Given as goal

abbrev pub invariant-each : goal.invariant-each
invariant-each l = l.size ≡ min (length (flat_map name_text (take l.name-index l.files))) (2 ^ 64 - 1)
