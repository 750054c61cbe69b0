-- Why an operation with well parted operands is no instruction: the assembly page, "What is refused".
use Rattle.std.specs.Prelude.{◌≡◌, List, map, true, false, Some}
use Rattle.std.specs.List.{list_all}
use Rattle.v32_isa.specs.declared.instruction.Instr.{Instr}
use Rattle.asm_items.specs.Items.{Imm}
use Rattle.asm_items.specs.declared.vocabulary.Operation.{Operation}
use Rattle.asm_reader.specs.declared.value.Value.{Value}
use Rattle.asm_reader.specs.declared.value.Value.TheVariants.{Number, Label}
use Rattle.asm_reader.specs.declared.value.Written.{Written}
use Rattle.asm_reader.specs.declared.value.Written.TheVariants as w
use Rattle.asm_reader.specs.Forms.{fits_some}
use Rattle.asm_reader.specs.Grammar.{IsForm}

-- with 0 in place of a number, which is in every range
abbrev pub zeroed_value : Value → Value
zeroed_value (Number negative magnitude) = Number false (Some 0)
zeroed_value (Label name) = Label name

abbrev pub zeroed : Written → Written
zeroed (w.Register a) = w.Register a
zeroed (w.Port p) = w.Port p
zeroed (w.Value v) = w.Value (zeroed_value v)
zeroed (w.AtRegister b) = w.AtRegister b
zeroed (w.AtValue v) = w.AtValue (zeroed_value v)
zeroed (w.AtOffset b v) = w.AtOffset b (zeroed_value v)

-- an instruction with that mnemonic takes these operands
pub record HasForm (operation : Operation) (xs : List Written) : Type 0 where
  pub instruction : Instr Imm
  pub is_form : IsForm operation xs instruction

-- The range of a number alone is at fault: no instruction takes these operands, and one would with other numbers.
pub record IsOutOfRange (operation : Operation) (xs : List Written) : Type 0 where
  pub none : HasForm operation xs → ⊥
  pub otherwise : HasForm operation (map zeroed xs)

-- Each operand is one of some instruction, and no instruction with that mnemonic takes them so, whatever the numbers.
pub record IsNoForm (operation : Operation) (xs : List Written) : Type 0 where
  pub fit : list_all fits_some xs ≡ true
  pub none : HasForm operation (map zeroed xs) → ⊥
