use Rattle.std.proofs.Common.{◌≡◌, ◌++◌, take}
use Rattle.std.specs.List.{flat_map, AllByRecursion}
use Rattle.cart_format.specs.Table.{row_text}
use Rattle.cart_format.specs.Cartridge.{IsRow}
use Rattle.cart_format.proofs.writing.put_rows.Given as goal

abbrev pub invariant-each : goal.invariant-each
invariant-each l = record {
  text : l.out.items ≡ l.fn.out.items ++ flat_map row_text (take l.row-index l.rows);
  fits : AllByRecursion IsRow (take l.row-index l.rows);
}
