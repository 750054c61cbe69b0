-- Where the items of a program stand, and their words. The first item's address is 0x20000000.
use Rattle.std.specs.Prelude.{ℕ, ◌≡◌, ◌+◌, List, [], ◌∷◌, ◌++◌, length}
use Rattle.asm_items.specs.declared.item.AsmItem.{AsmItem}
use Rattle.asm_items.specs.declared.item.AsmItem.TheVariants.{Label, Op, Integer, Pointer}
use Rattle.asm_items.specs.Words.{item_words, words_of_items}
use Rattle.assembler.specs.Labels.{address_in}

-- the number of an item's words, wherever labels stand
abbrev pub item_size : AsmItem → ℕ
item_size item = length (item_words (λ name. 0) item)

-- a label is the address of the item after it
abbrev pub label_at : ℕ → AsmItem → List (List ℕ × ℕ)
label_at address (Label name) = (name, address) ∷ []
label_at address (Op i) = []
label_at address (Integer w) = []
label_at address (Pointer name) = []

-- the labels of items that stand from an address on: each item stands after the words of those before it
unfoldable pub labels_from : ℕ → List AsmItem → List (List ℕ × ℕ)
labels_from address [] = []
labels_from address (item ∷ items) = label_at address item ++ labels_from (address + item_size item) items

abbrev pub labels_of : List AsmItem → List (List ℕ × ℕ)
labels_of items = labels_from 0x20000000 items

-- the words of the items one after another, each label being its address
pub record Placed (items : List AsmItem) (words : List ℕ) (labels : List (List ℕ × ℕ)) : Type 0 where
  pub labels_are : labels ≡ labels_of items
  pub words_are : words ≡ words_of_items (address_in labels) items
