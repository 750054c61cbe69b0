use Rattle.std.proofs.Common.{◌≡◌, ◌++◌, take}
use Rattle.std.specs.List.{flat_map}
use Rattle.cart_format.specs.Table.{name_text}
use Rattle.cart_format.proofs.writing.put_names.Given as goal

abbrev pub invariant-each : goal.invariant-each
invariant-each l = l.out.items ≡ l.fn.out.items ++ flat_map name_text (take l.name-index l.names)
