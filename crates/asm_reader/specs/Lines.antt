-- The items of a line: an optional label, then an operation with its operands, or data, or nothing.
use Rattle.std.specs.Prelude.{ℕ, List, [], ◌∷◌, ◌++◌, length, drop, map, Bool, true, false, ◌&&◌, if◌then◌else◌, nat_lt, Option, Some, None, Result, Ok, Err}
use Rattle.std.specs.List.{list_all}
use Rattle.asm_items.specs.declared.item.AsmItem.{AsmItem}
use Rattle.asm_items.specs.declared.item.AsmItem.TheVariants as item
use Rattle.v32_isa.specs.declared.instruction.Instr.{Instr}
use Rattle.asm_items.specs.Items.{Imm}
use Rattle.asm_items.specs.declared.vocabulary.Operation.{Operation}
use Rattle.asm_items.specs.declared.vocabulary.DataWord.{DataWord}
use Rattle.asm_items.specs.declared.vocabulary.DataWord.TheVariants as d
use Rattle.asm_reader.specs.declared.fault.LineFault.{LineFault}
use Rattle.asm_reader.specs.declared.fault.LineFault.TheVariants.{BadLine, FloatInstruction, NumberTooLarge}
use Rattle.asm_reader.specs.declared.token.Token.{Token}
use Rattle.asm_reader.specs.declared.token.Token.TheVariants as t
use Rattle.asm_reader.specs.declared.value.Value.TheVariants.{Number, Label}
use Rattle.asm_reader.specs.declared.value.Written.{Written}
use Rattle.asm_reader.specs.declared.value.Written.TheVariants as w
use Rattle.asm_reader.specs.Faults.{◌>>=◌}
use Rattle.asm_reader.specs.Operands.{operands_of}
use Rattle.asm_reader.specs.Forms.{fits_some, instruction, word_of}

-- `integer n, n`
abbrev pub is_number : Written → Bool
is_number (w.Value (Number negative magnitude)) = true
is_number _ = false

abbrev pub word_or_zero : Option ℕ → ℕ
word_or_zero None = 0
word_or_zero (Some n) = n

abbrev pub integer_of : Written → AsmItem
integer_of (w.Value (Number negative magnitude)) = item.Integer (word_or_zero (word_of negative magnitude))
integer_of _ = item.Integer 0

unfoldable pub integers : List Written → Result (List AsmItem) LineFault
integers xs =
    if nat_lt 0 (length xs) && list_all is_number xs then (if list_all fits_some xs then Ok (map integer_of xs) else Err NumberTooLarge)
    else Err BadLine

-- `pointer label, label`
abbrev pub is_name : Written → Bool
is_name (w.Value (Label name)) = true
is_name _ = false

abbrev pub pointer_of : Written → AsmItem
pointer_of (w.Value (Label name)) = item.Pointer name
pointer_of _ = item.Pointer []

unfoldable pub pointers : List Written → Result (List AsmItem) LineFault
pointers xs = if nat_lt 0 (length xs) && list_all is_name xs then Ok (map pointer_of xs) else Err BadLine

-- `string "text"`: each byte of the text, and a 0
unfoldable pub text_items : List Token → Result (List AsmItem) LineFault
text_items (t.Text bytes ∷ []) = Ok (map item.Integer bytes ++ item.Integer 0 ∷ [])
text_items _ = Err BadLine

unfoldable pub data_items : DataWord → List Token → Result (List AsmItem) LineFault
data_items d.Integers tokens = operands_of tokens >>= integers
data_items d.Pointers tokens = operands_of tokens >>= pointers
data_items d.Text tokens = text_items tokens

abbrev pub instruction_of : Operation → List Token → Result (Instr Imm) LineFault
instruction_of operation tokens = operands_of tokens >>= instruction operation

-- an operation or data, or nothing
unfoldable pub statement_items : List Token → Result (List AsmItem) LineFault
statement_items [] = Ok []
statement_items (t.Operation operation ∷ more) = instruction_of operation more >>= λ i. Ok (item.Op i ∷ [])
statement_items (t.Data data_word ∷ more) = data_items data_word more
statement_items _ = Err BadLine

-- a colon stands second
abbrev pub is_colon : Token → Bool
is_colon t.Colon = true
is_colon _ = false

unfoldable pub has_label : List Token → Bool
has_label [] = false
has_label (x ∷ []) = false
has_label (x ∷ y ∷ more) = is_colon y

unfoldable pub label_items : List Token → Result (List AsmItem) LineFault
label_items (t.Label name ∷ more) = Ok (item.Label name ∷ [])
label_items _ = Err BadLine

-- the mnemonic is that of a float instruction
unfoldable pub begins_float : List Token → Bool
begins_float (t.Float ∷ more) = true
begins_float _ = false

abbrev pub label_part : Bool → List Token → Result (List AsmItem) LineFault
label_part true tokens = label_items tokens
label_part false tokens = Ok []

abbrev pub statement_part : Bool → List Token → List Token
statement_part true tokens = drop 2 tokens
statement_part false tokens = tokens

abbrev pub both : Result (List AsmItem) LineFault → Result (List AsmItem) LineFault → Result (List AsmItem) LineFault
both label statement = label >>= λ xs. statement >>= λ ys. Ok (xs ++ ys)

unfoldable pub parts_items : Bool → List Token → Result (List AsmItem) LineFault
parts_items labelled tokens =
    if begins_float (statement_part labelled tokens) then Err FloatInstruction
    else both (label_part labelled tokens) (statement_items (statement_part labelled tokens))

unfoldable pub line_items : List Token → Result (List AsmItem) LineFault
line_items tokens = parts_items (has_label tokens) tokens
