-- The words of an item among those of its program.
use Rattle.std.specs.Prelude.{ℕ, ◌≡◌, List, ◌++◌, length}
use Rattle.asm_items.specs.declared.item.AsmItem.{AsmItem}
use Rattle.asm_items.specs.Words.{item_words}
use Rattle.assembler.specs.Labels.{address_in}

-- so many words stand before those of the item
pub record Stands (labels : List (List ℕ × ℕ)) (item : AsmItem) (place : ℕ) (words : List ℕ) : Type 0 where
  pub before : List ℕ
  pub after : List ℕ
  pub words_are : words ≡ before ++ (item_words (address_in labels) item ++ after)
  pub place_is : length before ≡ place
