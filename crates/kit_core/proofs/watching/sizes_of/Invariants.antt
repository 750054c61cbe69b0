use Rattle.std.proofs.Common.{◌≡◌, map, take}
use Rattle.kit_core.proofs.watching.sizes_of.Given as goal

abbrev pub invariant-rows : goal.invariant-rows
invariant-rows l = l.sizes.items ≡ map (λ row. row.2) (take l.row-index l.rows)
