-- What stands for the words of a program while its labels have no addresses yet, and a text in pieces.
use Rattle.std.specs.Prelude.{ℕ, ◌≡◌, ◌≤◌, ◌+◌, List, [], ◌∷◌, ◌++◌, length, Option, Some, None, option_and_then, if◌then◌else◌, Ok, get_or, option_to_list}
use Rattle.std.specs.List.{flat_map}
use Rattle.either.specs.declared.Either.TheVariants.{Left, Right}
use Rattle.v32_isa.specs.Table.{spelling}
use Rattle.v32_isa.specs.declared.instruction.Instr.{Instr}
use Rattle.asm_items.specs.declared.item.AsmItem.{AsmItem}
use Rattle.asm_items.specs.declared.item.AsmItem.TheVariants.{Label, Op, Integer, Pointer}
use Rattle.asm_items.specs.Items.{Imm, instr_with}
use Rattle.asm_items.specs.Words.{imm_word}
use Rattle.asm_reader.specs.Reading.{read}
use Rattle.assembler.specs.Labels.{address_of, has_label}
use Rattle.assembler.specs.Naming.{immediate}
use Rattle.assembler.specs.Placed.{labels_from, labels_of}

-- the first word of an instruction, wherever labels stand
abbrev pub first_word : Instr Imm → ℕ
first_word i = get_or (spelling (instr_with (imm_word (λ name. 0)) i)) 0 0

-- a word of its own, or the label whose address it is
abbrev pub item_parts : AsmItem → List Imm
item_parts (Label name) = []
item_parts (Op i) = Left (first_word i) ∷ option_to_list (immediate i)
item_parts (Integer w) = Left w ∷ []
item_parts (Pointer name) = Right name ∷ []

abbrev pub parts_of : List AsmItem → List Imm
parts_of items = flat_map item_parts items

-- with the items of a piece more
pub record AreMore (words : List Imm) (labels : List (List ℕ × ℕ)) (items : List AsmItem) (new_words : List Imm)
    (new_labels : List (List ℕ × ℕ)) : Type 0 where
  pub words_are : new_words ≡ words ++ parts_of items
  pub labels_are : new_labels ≡ labels ++ labels_from (0x20000000 + length words) items
  pub few : length new_words ≤ 33554432

-- likewise, and the piece reads as these items
pub record ReadsMore (piece : List ℕ) (words : List Imm) (labels : List (List ℕ × ℕ)) (new_words : List Imm) (new_labels : List (List ℕ × ℕ)) : Type 0 where
  pub items : List AsmItem
  pub reads : read piece ≡ Ok items
  pub more : AreMore words labels items new_words new_labels

-- the parts and the labels of a text's items
pub record AreOf (text : List ℕ) (words : List Imm) (labels : List (List ℕ × ℕ)) : Type 0 where
  pub items : List AsmItem
  pub reads : read text ≡ Ok items
  pub words_are : words ≡ parts_of items
  pub labels_are : labels ≡ labels_of items

-- With what is left of it they will be.
abbrev pub Goes : (text : List ℕ) → (left : Option (List ℕ)) → List Imm → List (List ℕ × ℕ) → Type 0
Goes text None words labels = AreOf text words labels
Goes text (Some rest) words labels =
    (more : List AsmItem) → read rest ≡ Ok more → AreOf text (words ++ parts_of more) (labels ++ labels_from (0x20000000 + length words) more)

-- the table of labels, unless one of them stands twice
unfoldable pub filled : List (List ℕ × ℕ) → List (List ℕ × ℕ) → Option (List (List ℕ × ℕ))
filled table [] = Some table
filled table (l ∷ ls) = if has_label table l.0 then None else filled (table ++ (l.0, l.1) ∷ []) ls

abbrev pub part_word : List (List ℕ × ℕ) → Imm → Option ℕ
part_word labels (Left w) = Some w
part_word labels (Right name) = address_of labels name

-- the words of parts behind these words, unless a label is unknown
unfoldable pub words_on : List (List ℕ × ℕ) → List ℕ → List Imm → Option (List ℕ)
words_on labels words [] = Some words
words_on labels words (p ∷ ps) = option_and_then (λ w. words_on labels (words ++ w ∷ []) ps) (part_word labels p)
