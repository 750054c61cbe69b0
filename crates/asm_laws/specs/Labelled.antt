-- Labels of items.
use Rattle.std.specs.Prelude.{ℕ, ◌≡◌, List, [], ◌∷◌, ◌⊎◌}
use Rattle.asm_items.specs.declared.item.AsmItem.{AsmItem}
use Rattle.asm_items.specs.declared.item.AsmItem.TheVariants.{Label}

-- a function's label is f_ and its name
abbrev pub label_of_function : List ℕ → List ℕ
label_of_function name = 102 ∷ 95 ∷ name

-- a label stands among items
abbrev pub HasLabel : List AsmItem → List ℕ → Type 0
HasLabel [] name = ⊥
HasLabel (Label l ∷ items) name = (name ≡ l) ⊎ HasLabel items name
HasLabel (_ ∷ items) name = HasLabel items name
