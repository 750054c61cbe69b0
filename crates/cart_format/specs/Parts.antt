-- The files and rows of a cartridge, none where it has no line table.
use Rattle.std.specs.Prelude.{ℕ, List, [], Option, Some, None}
use Rattle.cart_format.specs.declared.row.LineRow.{LineRow}
use Rattle.cart_format.specs.declared.row.LineTable.{LineTable}

abbrev pub files_of : Option LineTable → List (List ℕ)
files_of None = []
files_of (Some t) = t.files

abbrev pub rows_of : Option LineTable → List LineRow
rows_of None = []
rows_of (Some t) = t.rows
