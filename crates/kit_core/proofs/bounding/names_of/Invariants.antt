use Rattle.std.proofs.Common.{◌≡◌, map, take}
use Rattle.kit_core.proofs.bounding.names_of.Given as goal

abbrev pub invariant-rows : goal.invariant-rows
invariant-rows l = l.names.items ≡ map (λ row. row.0) (take l.row-index l.rows)
