-- Cartridges and the one text of each. Hold it against the kit's page on cartridge files.
use Rattle.std.specs.Prelude.{◌≡◌, ℕ, ◌+◌, ◌-◌, ◌<◌, ◌^◌, List, [], ◌++◌, length, replicate, codes, Bool, true, ◌&&◌, nat_le, Option, Some, None, IfSome}
use Rattle.std.specs.List.{flat_map, list_all, AllByRecursion}
use Rattle.asset_pack.specs.Words.{word_text, AreWords}
use Rattle.asset_pack.specs.Texts.{Image, IsTexture, IsSound, words_file_text, texture_text, sound_text}
use Rattle.cart_format.specs.declared.row.LineRow.{LineRow}
use Rattle.cart_format.specs.declared.row.LineTable.{LineTable}
use Rattle.cart_format.specs.Table.{table_text, is_table}

-- a cartridge of the first revision has no line table, one of the second has one
pub record Cartridge : Type 0 where
  pub title : List ℕ
  pub program : List ℕ
  pub textures : List Image
  pub sounds : List (List ℕ)
  pub table : Option LineTable

abbrev pub revision : Option LineTable → ℕ
revision None = 1
revision (Some t) = 2

abbrev pub tail_text : Option LineTable → List ℕ
tail_text None = []
tail_text (Some t) = table_text t

-- the program, the textures, the sounds and the line table, one directly after the other
unfoldable pub sections_text : Cartridge → List ℕ
sections_text c = words_file_text c.program ++ flat_map texture_text c.textures ++ flat_map sound_text c.sounds ++ tail_text c.table

-- the bytes of the whole file
abbrev pub total : Cartridge → ℕ
total c = 128 + length (sections_text c)

abbrev pub title_text : List ℕ → List ℕ
title_text title = title ++ replicate (64 - length title) 0

-- 128 bytes: the signature, five words, the title in 64 bytes, 36 zeros
unfoldable pub header_text : ℕ → ℕ → ℕ → ℕ → ℕ → List ℕ → List ℕ
header_text revision total words textures sounds title =
    codes "KIT-CART" ++ word_text revision ++ word_text total ++ word_text words ++ word_text textures ++ word_text sounds
    ++ title_text title ++ replicate 36 0

unfoldable pub cart_text : Cartridge → List ℕ
cart_text c =
    header_text (revision c.table) (total c) (length c.program) (length c.textures) (length c.sounds) c.title ++ sections_text c

-- printable ASCII
abbrev pub is_printable : ℕ → Bool
is_printable b = nat_le 0x20 b && nat_le b 0x7e

unfoldable pub is_title : List ℕ → Bool
is_title title = nat_le 1 (length title) && (nat_le (length title) 63 && list_all is_printable title)

abbrev pub is_tail : ℕ → Option LineTable → Bool
is_tail words None = true
is_tail words (Some t) = is_table words t

-- within the limits and of the right form
unfoldable pub is_cart : Cartridge → Bool
is_cart c =
    is_title c.title && (nat_le 1 (length c.program) && (nat_le (length c.program) 33554432 && (nat_le (length c.textures) 256
    && (nat_le (length c.sounds) 1024 && (is_tail (length c.program) c.table && nat_le (total c) 268435456)))))

-- what has a text: its words are words
pub record IsRow (r : LineRow) : Type 0 where
  pub address : r.address < 2 ^ 32
  pub file : r.file < 2 ^ 32
  pub line : r.line < 2 ^ 32

abbrev pub HasRows : LineTable → Type 0
HasRows t = AllByRecursion IsRow t.rows

pub record IsCartridge (c : Cartridge) : Type 0 where
  pub limits : is_cart c ≡ true
  pub program : AreWords c.program
  pub textures : AllByRecursion IsTexture c.textures
  pub sounds : AllByRecursion IsSound c.sounds
  pub table : IfSome c.table HasRows
