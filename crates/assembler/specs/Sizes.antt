-- The words of items together.
use Rattle.std.specs.Prelude.{ℕ, ◌+◌, List, [], ◌∷◌}
use Rattle.asm_items.specs.declared.item.AsmItem.{AsmItem}
use Rattle.assembler.specs.Placed.{item_size}

unfoldable pub total_size : List AsmItem → ℕ
total_size [] = 0
total_size (item ∷ items) = item_size item + total_size items
