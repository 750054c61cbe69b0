use Rattle.std.proofs.Common.{◌≡◌, ◌++◌, map, drop}
use Rattle.obj_mem.specs.declared.cell.Cell.TheVariants.{Num}
use Rattle.obj_mem.proofs.opening.text_cells.Given as goal

abbrev pub invariant-bytes : goal.invariant-bytes
invariant-bytes l = l.cells.items ++ map Num (drop l.byte-index l.text) ≡ map Num l.text
