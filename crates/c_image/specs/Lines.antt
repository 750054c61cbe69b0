-- The line table of a program (the kit's page on cartridge files): a row for each function, at the file and line where its definition begins.
use Rattle.std.specs.Prelude.{ℕ, suc, List, [], ◌∷◌, ◌++◌, Bool, bytes_eq, if◌then◌else◌}
use Rattle.std.specs.List.{list_any}
use Rattle.c_types.specs.Programs.{TFunctionT}
use Rattle.c_front.specs.Places.{Place}
use Rattle.cart_format.specs.declared.row.LineRow.{LineRow}
use Rattle.cart_format.specs.declared.row.LineTable.{LineTable}
use Rattle.asm_laws.specs.Labelled.{label_of_function}

-- ---- files, each once, in the order of first use

abbrev pub has_file : List ℕ → List (List ℕ) → Bool
has_file name files = list_any (λ file. bytes_eq file name) files

abbrev pub with_file : List (List ℕ) → List ℕ → List (List ℕ)
with_file files name = if has_file name files then files else files ++ name ∷ []

abbrev pub files_behind : List (List ℕ) → List Place → List (List ℕ)
files_behind files [] = files
files_behind files (o ∷ os) = files_behind (with_file files o.0) os

-- the number of a file among these
abbrev pub number_of : List ℕ → List (List ℕ) → ℕ
number_of name [] = 0
number_of name (file ∷ files) = if bytes_eq file name then 0 else suc (number_of name files)

-- ---- rows

abbrev pub rows_of : (address : List ℕ → ℕ) → (files : List (List ℕ)) → List TFunctionT → List Place → List LineRow
rows_of address files [] os = []
rows_of address files (f ∷ fs) [] = []
rows_of address files (f ∷ fs) (o ∷ os) = record {
  address = address (label_of_function f.name);
  file = number_of o.0 files;
  line = o.1;
  name = f.name;
} ∷ rows_of address files fs os

abbrev pub table_of : (address : List ℕ → ℕ) → List TFunctionT → List Place → LineTable
table_of address fs os = record { files = files_behind [] os; rows = rows_of address (files_behind [] os) fs os }
