-- The line of a run that ended by a fault or at an undecodable word. (The command line, the lines that are put.)
use Rattle.std.specs.Prelude.{ℕ, ◌+◌, List, [], ◌∷◌, ◌++◌, length, codes, get_or, Bool, ◌&&◌, nat_le, nat_lt, Option, Some, None, if◌then◌else◌}
use Rattle.std.specs.Fmt.{decimal}
use Rattle.cart_format.specs.declared.row.LineRow.{LineRow}
use Rattle.cart_format.specs.Cartridge.{Cartridge}
use Rattle.cart_format.specs.Parts.{files_of, rows_of}
use Rattle.kit_base.specs.Digits.{word_digits}
use Rattle.v32_console.specs.declared.frame_end.FrameEnd.{FrameEnd}
use Rattle.v32_console.specs.declared.frame_end.FrameEnd.TheVariants.{Full, Waited, Halted, Fault, Undecodable}

-- what tells the place of an address: the length of the program in words, and the files and rows of the line table, none
-- where there is none
pub record Lines : Type 0 where
  pub words : ℕ
  pub files : List (List ℕ)
  pub rows : List LineRow

abbrev pub lines_of : Cartridge → Lines
lines_of cart = record { words = length cart.program; files = files_of cart.table; rows = rows_of cart.table }

-- whether the address lies in the program, which stands at 0x20000000
abbrev pub is_in_program : ℕ → ℕ → Bool
is_in_program words address = nat_le 0x20000000 address && nat_lt address (0x20000000 + words)

-- the later of two rows, where there is one
abbrev pub or_before : Option LineRow → Option LineRow → Option LineRow
or_before (Some later) before = Some later
or_before None before = before

-- the last row whose address is not above that one
unfoldable pub last_row : ℕ → List LineRow → Option LineRow
last_row address [] = None
last_row address (row ∷ rows) = or_before (last_row address rows) (if nat_le row.address address then Some row else None)

-- the function, the file and the line of a row
abbrev pub row_text : List (List ℕ) → LineRow → List ℕ
row_text files row = codes " in " ++ row.name ++ (codes " at " ++ get_or files row.file [] ++ (codes ":" ++ decimal row.line))

abbrev pub found_text : List (List ℕ) → Option LineRow → List ℕ
found_text files None = []
found_text files (Some row) = row_text files row

-- where an address of the program is from, by the line table
unfoldable pub place_text : Lines → ℕ → List ℕ
place_text lines address = if is_in_program lines.words address then found_text lines.files (last_row address lines.rows) else []

abbrev pub fault_text : ℕ → ℕ → List ℕ
fault_text number address = codes "fault " ++ decimal number ++ codes " at 0x" ++ word_digits address

abbrev pub undecodable_text : ℕ → List ℕ
undecodable_text address = codes "undecodable at 0x" ++ word_digits address

-- the line of an end, with LF; none where the run ended by a halt, or did not end
abbrev pub end_text : Lines → FrameEnd → List ℕ
end_text lines Full = []
end_text lines Waited = []
end_text lines Halted = []
end_text lines (Fault number address) = fault_text number address ++ place_text lines address ++ 10 ∷ []
end_text lines (Undecodable address) = undecodable_text address ++ place_text lines address ++ 10 ∷ []
