-- Items that assembly text can spell: labels are words that stand for nothing else, numbers are words, and
-- registers and ports are those of the console.
use Rattle.std.specs.Prelude.{◌≡◌, ℕ, ◌<◌, ◌^◌, List, true}
use Rattle.std.specs.List.{All}
use Rattle.either.specs.declared.Either.TheVariants.{Left, Right}
use Rattle.asm_items.specs.declared.item.AsmItem.{AsmItem}
use Rattle.asm_items.specs.declared.item.AsmItem.TheVariants.{Label, Op, Integer, Pointer}
use Rattle.asm_items.specs.Items.{Imm}
use Rattle.asm_items.specs.Operands.{Operand, Register, Immediate, AtRegister, AtImmediate, AtOffset, AtPort, operands}
use Rattle.asm_items.specs.Vocabulary.{is_label_word}

abbrev pub IsName : List ℕ → Type 0
IsName name = is_label_word name ≡ true

abbrev pub IsValue : Imm → Type 0
IsValue (Left n) = n < 2 ^ 32
IsValue (Right name) = IsName name

abbrev pub IsArgument : Operand → Type 0
IsArgument (Register a) = a < 16
IsArgument (Immediate i) = IsValue i
IsArgument (AtRegister b) = b < 16
IsArgument (AtImmediate i) = IsValue i
IsArgument (AtOffset b i) = (b < 16) × IsValue i
IsArgument (AtPort p) = p < 16384

abbrev pub IsReadable : AsmItem → Type 0
IsReadable (Label name) = IsName name
IsReadable (Op i) = All IsArgument (operands i)
IsReadable (Integer w) = w < 2 ^ 32
IsReadable (Pointer name) = IsName name

abbrev pub AreReadable : List AsmItem → Type 0
AreReadable items = All IsReadable items
