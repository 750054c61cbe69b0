-- The first pass, as a plain program.
use Rattle.std.specs.Prelude.{ℕ, ◌+◌, List, [], ◌∷◌, map, Bool, false, Option, Some, None, if◌then◌else◌}
use Rattle.asm_items.specs.declared.item.AsmItem.{AsmItem}
use Rattle.assembler.specs.Labels.{has_label, with_label}
use Rattle.assembler.specs.Placed.{item_size}
use Rattle.assembler.specs.Faults.{label_in}

-- with the label that an item is, unless there is one of that name
abbrev pub with_item : List (List ℕ × ℕ) → Option (List ℕ) → ℕ → List (List ℕ × ℕ)
with_item labels None address = labels
with_item labels (Some name) address = with_label labels name address

-- the labels after items that stand from an address on
unfoldable pub collected : ℕ → List (List ℕ × ℕ) → List AsmItem → List (List ℕ × ℕ)
collected address labels [] = labels
collected address labels (item ∷ items) = collected (address + item_size item) (with_item labels (label_in item) address) items

-- whether an item is a label of that name already
abbrev pub has_item : List (List ℕ × ℕ) → Option (List ℕ) → Bool
has_item labels None = false
has_item labels (Some name) = has_label labels name

-- the first number that was noted, else this one where it is to be
abbrev pub or_twice : Option ℕ → Bool → ℕ → Option ℕ
or_twice (Some twice) known number = Some twice
or_twice None known number = if known then Some number else None

abbrev pub names_of : List (List ℕ × ℕ) → List (List ℕ)
names_of labels = map (λ e. e.0) labels

-- the first of two, where there is one
abbrev pub or_later : Option ℕ → Option ℕ → Option ℕ
or_later (Some twice) later = Some twice
or_later None later = later
