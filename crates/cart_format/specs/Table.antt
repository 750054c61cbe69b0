-- The line table of a cartridge: names of files, and rows that say which function, file and line the
-- code from an address on stands for. Hold it against the kit's page on cartridge files.
use Rattle.std.specs.Prelude.{ℕ, ◌+◌, ◌-◌, ◌%◌, List, [], ◌∷◌, ◌++◌, length, replicate, codes, Bool, true, false, ◌&&◌, ◌||◌, ◌==◌, nat_lt, nat_le}
use Rattle.std.specs.List.{flat_map, list_all}
use Rattle.std.specs.Char.{is_ascii_alphabetic, is_ascii_alphanumeric}
use Rattle.std.specs.Str.{is_utf8}
use Rattle.asset_pack.specs.Words.{word_text}
use Rattle.cart_format.specs.declared.row.LineRow.{LineRow}
use Rattle.cart_format.specs.declared.row.LineTable.{LineTable}

-- the zeros up to a whole word
abbrev pub padding : ℕ → ℕ
padding n = (4 - n % 4) % 4

-- the length of a name in bytes, its bytes, zeros up to a whole word
unfoldable pub name_text : List ℕ → List ℕ
name_text name = word_text (length name) ++ name ++ replicate (padding (length name)) 0

unfoldable pub row_text : LineRow → List ℕ
row_text r = word_text r.address ++ word_text r.file ++ word_text r.line ++ name_text r.name

unfoldable pub table_text : LineTable → List ℕ
table_text t = codes "KIT-LINE" ++ word_text (length t.files) ++ word_text (length t.rows) ++ flat_map name_text t.files ++ flat_map row_text t.rows

-- a name of C: a letter or an underscore, then letters, digits and underscores
abbrev pub begins_name : ℕ → Bool
begins_name b = is_ascii_alphabetic b || b == 95

abbrev pub continues_name : ℕ → Bool
continues_name b = is_ascii_alphanumeric b || b == 95

unfoldable pub is_name : List ℕ → Bool
is_name [] = false
is_name (b ∷ bs) = begins_name b && list_all continues_name bs

-- a row of one of so many files, at an address from the least on and below the end
unfoldable pub is_row : ℕ → ℕ → ℕ → LineRow → Bool
is_row files least end r = nat_le least r.address && (nat_lt r.address end && (nat_lt r.file files && (nat_le 1 r.line && is_name r.name)))

-- the addresses rise strictly
unfoldable pub are_rows : ℕ → ℕ → ℕ → List LineRow → Bool
are_rows files least end [] = true
are_rows files least end (r ∷ rs) = is_row files least end r && are_rows files (r.address + 1) end rs

-- a table of a program of so many words, which stands at 0x20000000
unfoldable pub is_table : ℕ → LineTable → Bool
is_table words t =
    nat_le (length t.files) 40000 && (nat_le (length t.rows) 40000
    && (list_all is_utf8 t.files && are_rows (length t.files) 0x2000_0000 (0x2000_0000 + words) t.rows))
