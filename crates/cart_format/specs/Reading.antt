-- The cartridge that bytes are, or the first test that fails: the header's, then 83 with the index of
-- the first section that is not of its grammar, then 82 where the sections end before the total.
use Rattle.std.specs.Prelude.{ℕ, zero, suc, ◌+◌, List, [], ◌∷◌, length, take, drop, codes, bytes_eq, ◌||◌, ◌==◌, not, nat_lt, if◌then◌else◌}
use Rattle.std.specs.Prelude.{Option, Some, None, Result, Ok, Err}
use Rattle.std.specs.List.{list_all}
use Rattle.kit_base.specs.declared.failure.Failure.{Failure}
use Rattle.kit_base.specs.declared.failure.Failure.TheVariants as failures
use Rattle.asset_pack.specs.declared.kind.Kind.TheVariants as kinds
use Rattle.asset_pack.specs.declared.error.AssetFault.{AssetFault}
use Rattle.asset_pack.specs.Words.{word_at}
use Rattle.asset_pack.specs.Texts.{Image}
use Rattle.asset_pack.specs.Reading.{words_at, texture_at}
use Rattle.cart_format.specs.declared.row.LineRow.{LineRow}
use Rattle.cart_format.specs.declared.row.LineTable.{LineTable}
use Rattle.cart_format.specs.declared.error.CartFault.{CartFault}
use Rattle.cart_format.specs.declared.error.CartFault.TheVariants as faults
use Rattle.cart_format.specs.Table.{padding, is_table}
use Rattle.cart_format.specs.Cartridge.{Cartridge}
use Rattle.cart_format.specs.Tests.{is_zero, title_at, header_fault}

infixl 10 ◌>>=◌
abbrev pub ◌>>=◌ : {A B : Type 0} → Result A CartFault → (A → Result B CartFault) → Result B CartFault
(Ok x) >>= f = f x
(Err e) >>= f = Err e

-- a section that is not of its grammar
abbrev pub section : {A : Type 0} → ℕ → Result A AssetFault → Result A CartFault
section index (Ok x) = Ok x
section index (Err e) = Err (faults.BadSection index)

abbrev pub in_section : ℕ → Failure AssetFault → Failure CartFault
in_section index failures.Memory = failures.Memory
in_section index (failures.Cause fault) = failures.Cause (faults.BadSection index)

-- a program of so many words
abbrev pub counted : ℕ → List ℕ × List ℕ → Result (List ℕ × List ℕ) CartFault
counted words x = if length x.0 == words then Ok x else Err (faults.BadSection 0)

unfoldable pub program_at : ℕ → List ℕ → Result (List ℕ × List ℕ) CartFault
program_at words bytes = section 0 (words_at kinds.Words bytes) >>= counted words

-- so many items, one directly after the other: the first has that index, the next one's is a step on
unfoldable pub many : {X : Type 0} → (ℕ → List ℕ → Result (X × List ℕ) CartFault) → ℕ → ℕ → ℕ → List ℕ → Result (List X × List ℕ) CartFault
many item step index zero bytes = Ok ([], bytes)
many item step index (suc n) bytes = do
  first ← item index bytes
  others ← many item step (index + step) n first.1
  Ok (first.0 ∷ others.0, others.1)

abbrev pub texture_section : ℕ → List ℕ → Result (Image × List ℕ) CartFault
texture_section index bytes = section index (texture_at bytes)

abbrev pub sound_section : ℕ → List ℕ → Result (List ℕ × List ℕ) CartFault
sound_section index bytes = section index (words_at kinds.Sound bytes)

-- in the section of that index, the next word
unfoldable pub number_at : ℕ → List ℕ → Result (ℕ × List ℕ) CartFault
number_at index bytes = if nat_lt (length bytes) 4 then Err (faults.BadSection index) else Ok (word_at 0 bytes, drop 4 bytes)

unfoldable pub name_at : ℕ → List ℕ → Result (List ℕ × List ℕ) CartFault
name_at index bytes = do
  n ← number_at index bytes
  if nat_lt (length n.1) (n.0 + padding n.0) || not (list_all is_zero (take (padding n.0) (drop n.0 n.1)))
      then Err (faults.BadSection index) else Ok (take n.0 n.1, drop (n.0 + padding n.0) n.1)

unfoldable pub row_at : ℕ → List ℕ → Result (LineRow × List ℕ) CartFault
row_at index bytes = do
  address ← number_at index bytes
  file ← number_at index address.1
  line ← number_at index file.1
  name ← name_at index line.1
  Ok (record { address = address.0; file = file.0; line = line.0; name = name.0 }, name.1)

abbrev pub begins : ℕ → List ℕ → Result (List ℕ) CartFault
begins index bytes =
    if nat_lt (length bytes) 8 || not (bytes_eq (take 8 bytes) (codes "KIT-LINE")) then Err (faults.BadSection index) else Ok (drop 8 bytes)

-- few enough files and rows
abbrev pub few : ℕ → ℕ → ℕ → List ℕ → Result (List ℕ) CartFault
few index files rows bytes = if nat_lt 40000 files || nat_lt 40000 rows then Err (faults.BadSection index) else Ok bytes

abbrev pub checked : ℕ → ℕ → LineTable → List ℕ → Result (LineTable × List ℕ) CartFault
checked index words t bytes = if is_table words t then Ok (t, bytes) else Err (faults.BadSection index)

unfoldable pub table_at : ℕ → ℕ → List ℕ → Result (LineTable × List ℕ) CartFault
table_at index words bytes = do
  front ← begins index bytes
  files ← number_at index front
  rows ← number_at index files.1
  rest ← few index files.0 rows.0 rows.1
  fs ← many name_at 0 index files.0 rest
  rs ← many row_at 0 index rows.0 fs.1
  checked index words (record { files = fs.0; rows = rs.0 }) rs.1

-- the line table, which the second revision alone has
unfoldable pub tail_at : ℕ → ℕ → ℕ → List ℕ → Result (Option LineTable × List ℕ) CartFault
tail_at revision index words bytes =
    if revision == 1 then Ok (None, bytes) else (table_at index words bytes >>= λ x. Ok (Some x.0, x.1))

-- the sections of a revision with so many words, textures and sounds, to the end of the bytes
unfoldable pub parts_of : (revision words textures sounds : ℕ) → List ℕ → Result (List ℕ × List Image × List (List ℕ) × Option LineTable) CartFault
parts_of revision words textures sounds bytes = do
  p ← program_at words bytes
  ts ← many texture_section 1 1 textures p.1
  ss ← many sound_section 1 (1 + textures) sounds ts.1
  t ← tail_at revision (1 + textures + sounds) words ss.1
  if length t.1 == 0 then Ok (p.0, ts.0, ss.0, t.0) else Err (faults.At 82)

abbrev pub titled : List ℕ → List ℕ × List Image × List (List ℕ) × Option LineTable → Cartridge
titled title x = record { title = title; program = x.0; textures = x.1; sounds = x.2; table = x.3 }

unfoldable pub sections_of : List ℕ → Result Cartridge CartFault
sections_of bytes =
    parts_of (word_at 8 bytes) (word_at 16 bytes) (word_at 20 bytes) (word_at 24 bytes) (drop 128 bytes) >>= λ x. Ok (titled (title_at bytes) x)

abbrev pub unless : {A : Type 0} → Option CartFault → Result A CartFault → Result A CartFault
unless None read = read
unless (Some e) read = Err e

unfoldable pub cart_of : List ℕ → Result Cartridge CartFault
cart_of bytes = unless (header_fault bytes) (sections_of bytes)
