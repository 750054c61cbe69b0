-- The one written form of a list of items: a line per item, each ended by LF.
use Rattle.std.specs.Prelude.{ℕ, ◌/◌, ◌%◌, List, [], ◌∷◌, ◌++◌, codes, nat_lt, if◌then◌else◌}
use Rattle.std.specs.List.{flat_map}
use Rattle.kit_base.specs.Digits.{hex_digit, word_digits}
use Rattle.either.specs.declared.Either.TheVariants.{Left, Right}
use Rattle.v32_isa.specs.declared.instruction.Instr.{Instr}
use Rattle.asm_items.specs.declared.item.AsmItem.{AsmItem}
use Rattle.asm_items.specs.declared.item.AsmItem.TheVariants.{Label, Op, Integer, Pointer}
use Rattle.asm_items.specs.Items.{Imm}
use Rattle.asm_items.specs.Mnemonics.{mnemonic, register_name}
use Rattle.asm_items.specs.Operands.{Operand, Register, Immediate, AtRegister, AtImmediate, AtOffset, AtPort, operands}

-- `0x` and eight upper-case digits
unfoldable pub number_text : ℕ → List ℕ
number_text n = codes "0x" ++ word_digits n

-- `0x` and three upper-case digits, or four from 0x1000 on
unfoldable pub port_text : ℕ → List ℕ
port_text n =
    if nat_lt n 0x1000
    then codes "0x" ++ hex_digit (n / 0x100 % 16) ∷ hex_digit (n / 0x10 % 16) ∷ hex_digit (n % 16) ∷ []
    else codes "0x" ++ hex_digit (n / 0x1000 % 16) ∷ hex_digit (n / 0x100 % 16) ∷ hex_digit (n / 0x10 % 16) ∷ hex_digit (n % 16) ∷ []

-- a number, or a label's name
abbrev pub imm_text : Imm → List ℕ
imm_text (Left n) = number_text n
imm_text (Right name) = name

abbrev pub operand_text : Operand → List ℕ
operand_text (Register a) = register_name a
operand_text (Immediate i) = imm_text i
operand_text (AtRegister b) = codes "[" ++ register_name b ++ codes "]"
operand_text (AtImmediate i) = codes "[" ++ imm_text i ++ codes "]"
operand_text (AtOffset b i) = codes "[" ++ register_name b ++ codes "+" ++ imm_text i ++ codes "]"
operand_text (AtPort p) = port_text p

-- a space before the first operand, a comma and a space before each further one
abbrev pub operand_list : List Operand → List ℕ
operand_list [] = []
operand_list (o ∷ os) = codes " " ++ operand_text o ++ flat_map (λ x. codes ", " ++ operand_text x) os

unfoldable pub operation_text : Instr Imm → List ℕ
operation_text i = mnemonic i ++ operand_list (operands i)

abbrev pub item_text : AsmItem → List ℕ
item_text (Label name) = name ++ codes ":"
item_text (Op i) = operation_text i
item_text (Integer w) = codes "integer " ++ number_text w
item_text (Pointer name) = codes "pointer " ++ name

abbrev pub item_line : AsmItem → List ℕ
item_line item = item_text item ++ codes "\n"

abbrev pub written : List AsmItem → List ℕ
written items = flat_map item_line items
