-- The forms of instructions: which operands each mnemonic takes, and in what range its numbers are
-- (the table of instruction forms, and the assembly guide).
use Rattle.std.specs.Prelude.{ℕ, ◌^◌, List, [], ◌∷◌, Bool, true, false, ◌&&◌, if◌then◌else◌, nat_le, nat_lt, ◌==◌, Option, Some, None, is_some}
use Rattle.std.specs.Prelude.{Result, Ok, Err}
use Rattle.std.specs.List.{list_all}
use Rattle.kit_base.specs.Word.{negated}
use Rattle.either.specs.declared.Either.TheVariants.{Left, Right}
use Rattle.v32_isa.specs.declared.instruction.Src.{Src}
use Rattle.v32_isa.specs.declared.instruction.Src.TheVariants as src
use Rattle.v32_isa.specs.declared.instruction.Mov.TheVariants.{RegImm, RegReg, RegAt, RegAtReg, RegAtOff, AtReg, AtRegReg, AtOffReg}
use Rattle.v32_isa.specs.declared.instruction.Instr.{Instr}
use Rattle.v32_isa.specs.declared.instruction.Instr.TheVariants as instr
use Rattle.asm_items.specs.Items.{Imm}
use Rattle.asm_items.specs.declared.vocabulary.Operation.{Operation}
use Rattle.asm_items.specs.declared.vocabulary.Operation.TheVariants as o
use Rattle.asm_reader.specs.declared.fault.LineFault.{LineFault}
use Rattle.asm_reader.specs.declared.fault.LineFault.TheVariants.{BadLine, NoSuchForm, NumberTooLarge}
use Rattle.asm_reader.specs.declared.value.Value.{Value}
use Rattle.asm_reader.specs.declared.value.Value.TheVariants.{Number, Label}
use Rattle.asm_reader.specs.declared.value.Written.{Written}
use Rattle.asm_reader.specs.declared.value.Written.TheVariants as w
use Rattle.asm_reader.specs.Faults.{◌>>=◌}

-- the word of a number from -2,147,483,648 to 4,294,967,295
unfoldable pub word_of : Bool → Option ℕ → Option ℕ
word_of negative None = None
word_of false (Some n) = Some n
word_of true (Some n) = if nat_le n (2 ^ 31) then Some (negated n) else None

abbrev pub in_range : {A : Type 0} → Option A → Result A LineFault
in_range None = Err NumberTooLarge
in_range (Some x) = Ok x

abbrev pub as_word : Option ℕ → Result Imm LineFault
as_word None = Err NumberTooLarge
as_word (Some n) = Ok (Left n)

-- an immediate
unfoldable pub immediate : Value → Result Imm LineFault
immediate (Number negative magnitude) = as_word (word_of negative magnitude)
immediate (Label name) = Ok (Right name)

-- the number of a port, from 0 to 16,383
unfoldable pub port_of : Bool → Option ℕ → Option ℕ
port_of negative None = None
port_of false (Some n) = if nat_lt n 16384 then Some n else None
port_of true (Some n) = if n == 0 then Some 0 else None

unfoldable pub port : Written → Result ℕ LineFault
port (w.Port p) = Ok p
port (w.Value (Number negative magnitude)) = in_range (port_of negative magnitude)
port (w.Value (Label name)) = Err NoSuchForm
port _ = Err NoSuchForm

-- `A`
unfoldable pub register : Written → Result ℕ LineFault
register (w.Register a) = Ok a
register _ = Err NoSuchForm

-- `B` or `i`
unfoldable pub source : Written → Result (Src Imm) LineFault
source (w.Register b) = Ok (src.Reg b)
source (w.Value v) = immediate v >>= λ i. Ok (src.Imm i)
source _ = Err NoSuchForm

-- MOV to a register
unfoldable pub move_to : ℕ → Written → Result (Instr Imm) LineFault
move_to a (w.Value v) = immediate v >>= λ i. Ok (instr.Mov (RegImm a i))
move_to a (w.Register b) = Ok (instr.Mov (RegReg a b))
move_to a (w.AtValue v) = immediate v >>= λ i. Ok (instr.Mov (RegAt a i))
move_to a (w.AtRegister b) = Ok (instr.Mov (RegAtReg a b))
move_to a (w.AtOffset b v) = immediate v >>= λ i. Ok (instr.Mov (RegAtOff a b i))
move_to a (w.Port p) = Err NoSuchForm

-- MOV from register b
unfoldable pub move_from : ℕ → Written → Result (Instr Imm) LineFault
move_from b (w.AtValue v) = immediate v >>= λ i. Ok (instr.Mov (AtReg i b))
move_from b (w.AtRegister a) = Ok (instr.Mov (AtRegReg a b))
move_from b (w.AtOffset a v) = immediate v >>= λ i. Ok (instr.Mov (AtOffReg a i b))
move_from b (w.Value v) = Err NoSuchForm
move_from b (w.Register a) = Err NoSuchForm
move_from b (w.Port p) = Err NoSuchForm

unfoldable pub moved : Written → Written → Result (Instr Imm) LineFault
moved (w.Register a) second = move_to a second
moved first second = register second >>= λ b. move_from b first

unfoldable pub load_address : ℕ → Written → Result (Instr Imm) LineFault
load_address a (w.AtRegister b) = Ok (instr.Lea a b None)
load_address a (w.AtOffset b v) = immediate v >>= λ i. Ok (instr.Lea a b (Some i))
load_address a _ = Err NoSuchForm

-- OUT has two numbers: both must fit the form before their ranges are asked
abbrev pub is_port : Written → Bool
is_port (w.Port p) = true
is_port (w.Value (Number negative magnitude)) = true
is_port _ = false

abbrev pub is_source : Written → Bool
is_source (w.Register b) = true
is_source (w.Value v) = true
is_source _ = false

unfoldable pub output : Written → Written → Result (Instr Imm) LineFault
output first second =
    if is_port first && is_source second then (port first >>= λ p. source second >>= λ s. Ok (instr.Out p s)) else Err NoSuchForm

-- without operands, with one, and with two
unfoldable pub with_none : Operation → Result (Instr Imm) LineFault
with_none (o.Plain p) = Ok (instr.Plain p)
with_none _ = Err NoSuchForm

unfoldable pub with_one : Operation → Written → Result (Instr Imm) LineFault
with_one (o.Go g) x = source x >>= λ s. Ok (instr.Go g s)
with_one (o.One one) x = register x >>= λ a. Ok (instr.One one a)
with_one _ x = Err NoSuchForm

unfoldable pub with_two : Operation → Written → Written → Result (Instr Imm) LineFault
with_two (o.Branch b) x y = register x >>= λ a. source y >>= λ s. Ok (instr.Branch b a s)
with_two (o.Two two) x y = register x >>= λ a. source y >>= λ s. Ok (instr.Two two a s)
with_two o.Mov x y = moved x y
with_two o.Lea x y = register x >>= λ a. load_address a y
with_two o.In x y = register x >>= λ a. port y >>= λ p. Ok (instr.In a p)
with_two o.Out x y = output x y
with_two _ x y = Err NoSuchForm

unfoldable pub formed : Operation → List Written → Result (Instr Imm) LineFault
formed operation [] = with_none operation
formed operation (x ∷ []) = with_one operation x
formed operation (x ∷ y ∷ []) = with_two operation x y
formed operation (x ∷ y ∷ z ∷ more) = Err NoSuchForm

-- an operand that fits some form: its number, where it has one, is that of a word
abbrev pub fits : Value → Bool
fits (Label name) = true
fits (Number negative magnitude) = is_some (word_of negative magnitude)

abbrev pub fits_some : Written → Bool
fits_some (w.Value v) = fits v
fits_some (w.AtValue v) = fits v
fits_some (w.AtOffset b v) = fits v
fits_some _ = true

-- where no form fits, the line is bad unless each operand is well formed
abbrev pub judged : List Written → Result (Instr Imm) LineFault → Result (Instr Imm) LineFault
judged xs (Err NoSuchForm) = if list_all fits_some xs then Err NoSuchForm else Err BadLine
judged xs r = r

unfoldable pub instruction : Operation → List Written → Result (Instr Imm) LineFault
instruction operation xs = judged xs (formed operation xs)
