use Rattle.std.proofs.Common.{◌≡◌, ◌++◌, map, drop}
use Rattle.obj_mem.specs.declared.cell.Cell.TheVariants.{Num}
use Rattle.obj_mem.proofs.opening.word_cells.Given as goal

abbrev pub invariant-words : goal.invariant-words
invariant-words l = l.cells.items ++ map Num (drop l.word-index l.words) ≡ map Num l.words
