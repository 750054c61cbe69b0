-- The grammar of operands and of instructions, as what each is spelled from (the assembly guide). What is
-- read is what is spelled so, both ways.
use Rattle.std.specs.Prelude.{◌≡◌, ◌⊎◌, ℕ, ◌<◌, List, [], ◌∷◌, ◌++◌, length, Bool, true, not, Some, Ok}
use Rattle.std.specs.List.{list_all}
use Rattle.v32_isa.specs.declared.instruction.Instr.{Instr}
use Rattle.v32_isa.specs.declared.instruction.Instr.TheVariants as instr
use Rattle.asm_items.specs.Items.{Imm}
use Rattle.asm_items.specs.Operands.{Operand, Register, Immediate, AtRegister, AtImmediate, AtOffset, AtPort, operands}
use Rattle.asm_items.specs.declared.vocabulary.Operation.{Operation}
use Rattle.asm_items.specs.declared.vocabulary.Operation.TheVariants as o
use Rattle.asm_reader.specs.declared.token.Token.{Token}
use Rattle.asm_reader.specs.declared.token.Token.TheVariants as t
use Rattle.asm_reader.specs.declared.value.Value.{Value}
use Rattle.asm_reader.specs.declared.value.Value.TheVariants.{Number, Label}
use Rattle.asm_reader.specs.declared.value.Written.{Written}
use Rattle.asm_reader.specs.declared.value.Written.TheVariants as w
use Rattle.asm_reader.specs.Forms.{immediate, port_of}

abbrev pub value_token : Value → Token
value_token (Number negative magnitude) = t.Number negative magnitude
value_token (Label name) = t.Label name

-- `[B-n]`, with a blank behind the `-` or another `-`, or with neither: the offset is the number's negative
abbrev pub IsTaken : List Token → ℕ → Value → Type 0
IsTaken tokens b (Number negative magnitude) =
    (tokens ≡ t.Open ∷ t.Register b ∷ t.Minus ∷ t.Number (not negative) magnitude ∷ t.Close ∷ [])
    ⊎ ((negative ≡ true) × (tokens ≡ t.Open ∷ t.Register b ∷ t.Number true magnitude ∷ t.Close ∷ []))
IsTaken tokens b (Label name) = ⊥

-- the tokens spell the operand
abbrev pub IsOperand : List Token → Written → Type 0
IsOperand tokens (w.Register a) = tokens ≡ t.Register a ∷ []
IsOperand tokens (w.Port p) = tokens ≡ t.Port p ∷ []
IsOperand tokens (w.Value v) = tokens ≡ value_token v ∷ []
IsOperand tokens (w.AtRegister b) = tokens ≡ t.Open ∷ t.Register b ∷ t.Close ∷ []
IsOperand tokens (w.AtValue v) = tokens ≡ t.Open ∷ value_token v ∷ t.Close ∷ []
IsOperand tokens (w.AtOffset b v) =
    (tokens ≡ t.Open ∷ t.Register b ∷ t.Plus ∷ value_token v ∷ t.Close ∷ []) ⊎ IsTaken tokens b v

-- What is written is that operand of an instruction: a number in range where an immediate is wanted, or
-- where a port is.
abbrev pub Writes : Written → Operand → Type 0
Writes (w.Register a) (Register b) = a ≡ b
Writes (w.Value v) (Immediate i) = immediate v ≡ Ok i
Writes (w.Value (Number negative magnitude)) (AtPort p) = port_of negative magnitude ≡ Some p
Writes (w.Port p) (AtPort q) = p ≡ q
Writes (w.AtRegister a) (AtRegister b) = a ≡ b
Writes (w.AtValue v) (AtImmediate i) = immediate v ≡ Ok i
Writes (w.AtOffset a v) (AtOffset b i) = (a ≡ b) × (immediate v ≡ Ok i)
Writes _ _ = ⊥

abbrev pub WritesAll : List Written → List Operand → Type 0
WritesAll [] [] = Unit {0}
WritesAll (x ∷ xs) (y ∷ ys) = Writes x y × WritesAll xs ys
WritesAll _ _ = ⊥

-- what the mnemonic of the instruction stands for
abbrev pub operation_of : {I : Type 0} → Instr I → Operation
operation_of (instr.Plain p) = o.Plain p
operation_of (instr.Go g s) = o.Go g
operation_of (instr.Branch b a s) = o.Branch b
operation_of (instr.Two two a s) = o.Two two
operation_of (instr.One one a) = o.One one
operation_of (instr.Mov m) = o.Mov
operation_of (instr.Lea a b i) = o.Lea
operation_of (instr.In a p) = o.In
operation_of (instr.Out p s) = o.Out

-- the mnemonic is that of the instruction, and its operands are written so
pub record IsForm (operation : Operation) (xs : List Written) (i : Instr Imm) : Type 0 where
  pub named : operation ≡ operation_of i
  pub written : WritesAll xs (operands i)

-- the parts with the mark between them
abbrev pub joined : {A : Type 0} → A → List (List A) → List A
joined mark [] = []
joined mark (part ∷ []) = part
joined mark (part ∷ next ∷ parts) = part ++ mark ∷ joined mark (next ∷ parts)

abbrev pub is_free : {A : Type 0} → (A → Bool) → List A → Bool
is_free is_mark part = list_all (λ x. not (is_mark x)) part

-- The list is these parts with the mark between them, one part at least, and no part holds the mark.
pub record IsParted {A : Type 0} (is_mark : A → Bool) (mark : A) (xs : List A) (parts : List (List A)) : Type 0 where
  pub some : 0 < length parts
  pub free : list_all (is_free is_mark) parts ≡ true
  pub whole : xs ≡ joined mark parts
