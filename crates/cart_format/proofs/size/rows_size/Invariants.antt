use Rattle.std.proofs.Common.{◌≡◌, ◌-◌, ◌^◌, length, take, min}
use Rattle.std.specs.List.{flat_map}
use Rattle.cart_format.specs.Table.{row_text}
use Rattle.cart_format.proofs.size.rows_size.Given as goal

abbrev pub invariant-each : goal.invariant-each
invariant-each l = l.size ≡ min (length (flat_map row_text (take l.row-index l.rows))) (2 ^ 64 - 1)
