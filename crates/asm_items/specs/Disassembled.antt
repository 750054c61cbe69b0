-- Words as items: from the first word on, the instruction that the next one or two words spell, else one word.
use Rattle.std.specs.Prelude.{ℕ, List, [], ◌∷◌, drop, Option, Some, None, is_some, Bool, if◌then◌else◌}
use Rattle.v32_isa.specs.declared.instruction.Instr.{Instr}
use Rattle.v32_isa.specs.Table.{row_of}
use Rattle.v32_isa.specs.Decoding.{decoded}
use Rattle.asm_items.specs.declared.item.AsmItem.{AsmItem}
use Rattle.asm_items.specs.declared.item.AsmItem.TheVariants.{Op, Integer}
use Rattle.asm_items.specs.Items.{literal, instr_with}

-- whether its spelling has a second word
abbrev pub has_immediate : Instr ℕ → Bool
has_immediate i = is_some (row_of i).immediate

-- the first item, before those of the words after the first word, or of those after the second
abbrev pub with_first : ℕ → Option (Instr ℕ) → List AsmItem → List AsmItem → List AsmItem
with_first word None after_one after_two = Integer word ∷ after_one
with_first word (Some i) after_one after_two = Op (instr_with literal i) ∷ (if has_immediate i then after_two else after_one)

unfoldable pub disassembled : List ℕ → List AsmItem
disassembled [] = []
disassembled (word ∷ []) = with_first word (decoded word None) [] []
disassembled (word ∷ next ∷ rest) = with_first word (decoded word (Some next)) (disassembled (next ∷ rest)) (disassembled rest)

-- step by step: the item of the first word, and the words after that item, of those after the first word
abbrev pub first_item : ℕ → Option (Instr ℕ) → AsmItem
first_item word None = Integer word
first_item word (Some i) = Op (instr_with literal i)

abbrev pub after_first : Option (Instr ℕ) → List ℕ → List ℕ
after_first None after = after
after_first (Some i) after = if has_immediate i then drop 1 after else after
