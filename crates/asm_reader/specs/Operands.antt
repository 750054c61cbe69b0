-- The operands of a line, as they are written (the assembly guide, sections on the instructions).
use Rattle.std.specs.Prelude.{ℕ, List, [], ◌∷◌, Bool, true, false, not, Result, Ok, Err}
use Rattle.asm_reader.specs.declared.fault.LineFault.{LineFault}
use Rattle.asm_reader.specs.declared.fault.LineFault.TheVariants.{BadLine}
use Rattle.asm_reader.specs.declared.token.Token.{Token}
use Rattle.asm_reader.specs.declared.token.Token.TheVariants as t
use Rattle.asm_reader.specs.declared.value.Value.{Value}
use Rattle.asm_reader.specs.declared.value.Value.TheVariants.{Number, Label}
use Rattle.asm_reader.specs.declared.value.Written.{Written}
use Rattle.asm_reader.specs.declared.value.Written.TheVariants as w
use Rattle.asm_reader.specs.Faults.{◌>>=◌}
use Rattle.asm_reader.specs.Parted.{parted}

abbrev pub is_comma : Token → Bool
is_comma t.Comma = true
is_comma _ = false

abbrev pub is_open : Token → Bool
is_open t.Open = true
is_open _ = false

abbrev pub is_close : Token → Bool
is_close t.Close = true
is_close _ = false

-- a number or a label
unfoldable pub value_of : Token → Result Value LineFault
value_of (t.Number negative magnitude) = Ok (Number negative magnitude)
value_of (t.Label name) = Ok (Label name)
value_of _ = Err BadLine

-- an operand of one token: `A`, a port's name, a number or a label
unfoldable pub plain : Token → Result Written LineFault
plain (t.Register a) = Ok (w.Register a)
plain (t.Port p) = Ok (w.Port p)
plain (t.Number negative magnitude) = Ok (w.Value (Number negative magnitude))
plain (t.Label name) = Ok (w.Value (Label name))
plain _ = Err BadLine

-- one token between brackets: `[B]`, `[i]`
unfoldable pub inside_one : Token → Result Written LineFault
inside_one (t.Register b) = Ok (w.AtRegister b)
inside_one (t.Number negative magnitude) = Ok (w.AtValue (Number negative magnitude))
inside_one (t.Label name) = Ok (w.AtValue (Label name))
inside_one _ = Err BadLine

-- two: `[B-n]`, where the `-` stands directly before the number
abbrev pub joined_to : ℕ → Token → Result Written LineFault
joined_to b (t.Number true magnitude) = Ok (w.AtOffset b (Number true magnitude))
joined_to b _ = Err BadLine

unfoldable pub inside_two : Token → Token → Result Written LineFault
inside_two (t.Register b) offset = joined_to b offset
inside_two _ offset = Err BadLine

-- three: `[B+i]`, and `[B-n]` with a number n
abbrev pub added_to : ℕ → Token → Result Written LineFault
added_to b (t.Number negative magnitude) = Ok (w.AtOffset b (Number negative magnitude))
added_to b (t.Label name) = Ok (w.AtOffset b (Label name))
added_to b _ = Err BadLine

abbrev pub taken_from : ℕ → Token → Result Written LineFault
taken_from b (t.Number negative magnitude) = Ok (w.AtOffset b (Number (not negative) magnitude))
taken_from b _ = Err BadLine

abbrev pub signed_to : ℕ → Token → Token → Result Written LineFault
signed_to b t.Plus offset = added_to b offset
signed_to b t.Minus offset = taken_from b offset
signed_to b _ offset = Err BadLine

unfoldable pub inside_three : Token → Token → Token → Result Written LineFault
inside_three (t.Register b) sign offset = signed_to b sign offset
inside_three _ sign offset = Err BadLine

-- what stands behind an open bracket, up to the closing one at the end
abbrev pub closed_by : Token → Result Written LineFault → Result Written LineFault
closed_by t.Close inside = inside
closed_by _ inside = Err BadLine

unfoldable pub bracketed : List Token → Result Written LineFault
bracketed [] = Err BadLine
bracketed (x ∷ []) = Err BadLine
bracketed (x ∷ y ∷ []) = closed_by y (inside_one x)
bracketed (x ∷ y ∷ z ∷ []) = closed_by z (inside_two x y)
bracketed (x ∷ y ∷ z ∷ u ∷ []) = closed_by u (inside_three x y z)
bracketed (x ∷ y ∷ z ∷ u ∷ v ∷ more) = Err BadLine

abbrev pub opened_by : Token → Result Written LineFault → Result Written LineFault
opened_by t.Open inside = inside
opened_by _ inside = Err BadLine

unfoldable pub operand : List Token → Result Written LineFault
operand [] = Err BadLine
operand (x ∷ []) = plain x
operand (x ∷ y ∷ more) = opened_by x (bracketed (y ∷ more))

unfoldable pub operands_in : List (List Token) → Result (List Written) LineFault
operands_in [] = Ok []
operands_in (part ∷ parts) = operand part >>= λ first. operands_in parts >>= λ others. Ok (first ∷ others)

-- none, or operands parted by commas
unfoldable pub operands_of : List Token → Result (List Written) LineFault
operands_of [] = Ok []
operands_of (x ∷ more) = operands_in (parted is_comma (x ∷ more))
