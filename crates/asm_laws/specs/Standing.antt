-- Items that stand among the words of a program, each label being an address.
use Rattle.std.specs.Prelude.{ℕ, ◌≡◌, List, [], ◌∷◌}
use Rattle.asm_laws.specs.Placing.{WordsAt, Line}
use Rattle.asm_items.specs.declared.item.AsmItem.{AsmItem}
use Rattle.asm_items.specs.declared.item.AsmItem.TheVariants.{Label, Op, Integer, Pointer}
use Rattle.asm_items.specs.Items.{instr_with}
use Rattle.asm_items.specs.Words.{imm_word}

abbrev pub ItemAt : List ℕ → (List ℕ → ℕ) → ℕ → AsmItem → ℕ → Type 0
ItemAt words address pc (Label name) next = (address name ≡ pc) × (next ≡ pc)
ItemAt words address pc (Op i) next = Line words pc (instr_with (imm_word address) i) next
ItemAt words address pc (Integer w) next = WordsAt words pc (w ∷ []) next
ItemAt words address pc (Pointer name) next = WordsAt words pc (address name ∷ []) next

-- items stand from an address to another
abbrev pub Stand : List ℕ → (List ℕ → ℕ) → ℕ → List AsmItem → ℕ → Type 0
Stand words address pc [] e = pc ≡ e
Stand words address pc (item ∷ items) e = (next : ℕ) × ItemAt words address pc item next × Stand words address next items e
