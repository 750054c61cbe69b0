-- The words of items, where the address of each label is known.
use Rattle.std.specs.Prelude.{ℕ, List, [], ◌∷◌}
use Rattle.std.specs.List.{flat_map}
use Rattle.either.specs.declared.Either.TheVariants.{Left, Right}
use Rattle.v32_isa.specs.Table.{spelling}
use Rattle.asm_items.specs.declared.item.AsmItem.{AsmItem}
use Rattle.asm_items.specs.declared.item.AsmItem.TheVariants.{Label, Op, Integer, Pointer}
use Rattle.asm_items.specs.Items.{Imm, instr_with}

-- the word of an immediate
abbrev pub imm_word : (List ℕ → ℕ) → Imm → ℕ
imm_word address (Left w) = w
imm_word address (Right name) = address name

-- a label has no words, an operation the words that spell it, each datum one word
abbrev pub item_words : (List ℕ → ℕ) → AsmItem → List ℕ
item_words address (Label name) = []
item_words address (Op i) = spelling (instr_with (imm_word address) i)
item_words address (Integer w) = w ∷ []
item_words address (Pointer name) = address name ∷ []

abbrev pub words_of_items : (List ℕ → ℕ) → List AsmItem → List ℕ
words_of_items address items = flat_map (item_words address) items
