-- The items of a text, line by line, or its first faulty line.
use Rattle.std.specs.Prelude.{ℕ, ◌+◌, List, [], ◌∷◌, ◌++◌, Bool, ◌==◌, Result, Ok, Err}
use Rattle.asm_items.specs.declared.item.AsmItem.{AsmItem}
use Rattle.asm_reader.specs.declared.error.AsmFault.{AsmFault}
use Rattle.asm_reader.specs.declared.fault.LineFault.{LineFault}
use Rattle.asm_reader.specs.Faults.{code_of}
use Rattle.asm_reader.specs.Lines.{line_items}
use Rattle.asm_reader.specs.Parted.{parted}
use Rattle.asm_reader.specs.Tokens.{tokens_of}

abbrev pub is_newline : ℕ → Bool
is_newline b = b == 10

-- the items, or a code and the number of a line
abbrev pub Text : Type 0
Text = Result (List AsmItem) AsmFault

abbrev pub before_items : List AsmItem → Text → Text
before_items items (Ok more) = Ok (items ++ more)
before_items items (Err e) = Err e

-- the fault of the line of that number
abbrev pub fault_at : LineFault → ℕ → AsmFault
fault_at fault number = record { code = code_of fault; at = number }

abbrev pub at_line : ℕ → Result (List AsmItem) LineFault → Text → Text
at_line number (Err fault) rest = Err (fault_at fault number)
at_line number (Ok items) rest = before_items items rest

-- the number is that of the first of the lines
unfoldable pub read_from : ℕ → List (List ℕ) → Text
read_from number [] = Ok []
read_from number (line ∷ lines) = at_line number (line_items (tokens_of line)) (read_from (number + 1) lines)

-- lines are parted by LF, and count from 1
unfoldable pub read : List ℕ → Text
read bytes = read_from 1 (parted is_newline bytes)
