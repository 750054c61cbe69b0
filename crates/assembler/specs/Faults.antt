-- The first fault of a list of items, with the item's number, counted from 1.
use Rattle.std.specs.Prelude.{ℕ, ◌≡◌, ◌+◌, List, [], ◌∷◌, ◌++◌, Bool, false, Option, Some, None, option_map, if◌then◌else◌, nat_lt, bytes_eq}
use Rattle.std.specs.List.{list_any}
use Rattle.asm_items.specs.declared.item.AsmItem.{AsmItem}
use Rattle.asm_items.specs.declared.item.AsmItem.TheVariants.{Label, Op, Integer, Pointer}
use Rattle.assembler.specs.Naming.{is_known}
use Rattle.assembler.specs.Placed.{item_size, labels_of}
use Rattle.asm_reader.specs.declared.error.AsmFault.{AsmFault}

-- the name of a label
abbrev pub label_in : AsmItem → Option (List ℕ)
label_in (Label name) = Some name
label_in (Op i) = None
label_in (Integer w) = None
label_in (Pointer name) = None

abbrev pub is_among : List (List ℕ) → Option (List ℕ) → Bool
is_among names None = false
is_among names (Some name) = list_any (bytes_eq name) names

abbrev pub with_name : List (List ℕ) → Option (List ℕ) → List (List ℕ)
with_name names None = names
with_name names (Some name) = names ++ name ∷ []

-- the first label, counted from `number`, that is one of the labels before it
unfoldable pub twice_from : ℕ → List (List ℕ) → List AsmItem → Option ℕ
twice_from number before [] = None
twice_from number before (item ∷ items) =
    if is_among before (label_in item) then Some number else twice_from (number + 1) (with_name before (label_in item)) items

-- the first item, counted from `number`, that takes the address of what is no label of the program
unfoldable pub unknown_from : ℕ → List (List ℕ × ℕ) → List AsmItem → Option ℕ
unknown_from number labels [] = None
unknown_from number labels (item ∷ items) = if is_known labels item then unknown_from (number + 1) labels items else Some number

-- the first item, counted from `number`, that ends past the 33,554,432nd word, after so many words
unfoldable pub past_from : ℕ → ℕ → List AsmItem → Option ℕ
past_from number words [] = None
past_from number words (item ∷ items) =
    if nat_lt 33554432 (words + item_size item) then Some number else past_from (number + 1) (words + item_size item) items

-- a code and an item's number
abbrev pub fault_at : (code item : ℕ) → AsmFault
fault_at code item = record { code = code; at = item }

-- 64 for a label that stands twice, 65 for an unknown label: the first faulty item decides
abbrev pub naming_fault : Option ℕ → Option ℕ → Option AsmFault
naming_fault None None = None
naming_fault (Some twice) None = Some (fault_at 64 twice)
naming_fault None (Some unknown) = Some (fault_at 65 unknown)
naming_fault (Some twice) (Some unknown) = if nat_lt twice unknown then Some (fault_at 64 twice) else Some (fault_at 65 unknown)

-- 66 only where there is neither
abbrev pub or_past : Option AsmFault → Option ℕ → Option AsmFault
or_past (Some fault) past = Some fault
or_past None past = option_map (λ item. fault_at 66 item) past

unfoldable pub fault_of : List AsmItem → Option AsmFault
fault_of items = or_past (naming_fault (twice_from 1 [] items) (unknown_from 1 (labels_of items) items)) (past_from 1 0 items)

-- a refusal is the first fault
abbrev pub IsRefusal : List AsmItem → AsmFault → Type 0
IsRefusal items fault = fault_of items ≡ Some fault
