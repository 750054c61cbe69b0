-- The sizes of texts.
use Rattle.std.proofs.Common.{◌≡◌, ℕ, ◌+◌, ◌*◌, ◌<◌, List, [], ◌∷◌, ◌++◌, length, get_or, take, replicate, append-nil, ap, ◌∙◌, arith}
use Rattle.std.specs.List.{flat_map}
use Rattle.std.proofs.lemmas.List.{length-append, length-replicate, take_more}
use Rattle.std.proofs.lemmas.List.Concat.{flat_map-cons}
use Rattle.std.proofs.lemmas.Grind.{flat_map-append}
use Rattle.asset_pack.specs.Texts.{Image, words_file_text, texture_text, sound_text}
use Rattle.asset_pack.proofs.Chunks.{length-words_text}
use Rattle.cart_format.specs.declared.row.LineRow.{LineRow}
use Rattle.cart_format.specs.declared.row.LineTable.{LineTable}
use Rattle.cart_format.specs.Table.{padding, name_text, row_text, table_text}
use Rattle.cart_format.specs.Cartridge.{Cartridge, sections_text, tail_text}

pub texture_size : (t : Image) → length (texture_text t) ≡ 16 + 4 * length t.pixels
unfolding texture_text
texture_size t = let len = length-words_text t.pixels in omega arith

pub sound_size : (samples : List ℕ) → length (sound_text samples) ≡ 12 + 4 * length samples
unfolding sound_text
sound_size samples = let len = length-words_text samples in omega arith

pub program_size : (words : List ℕ) → length (words_file_text words) ≡ 12 + 4 * length words
unfolding words_file_text
program_size words = let len = length-words_text words in omega arith

pub name_size : (name : List ℕ) → length (name_text name) ≡ 4 + length name + padding (length name)
unfolding name_text
name_size name = omega (arith, length-append name (replicate (padding (length name)) 0), length-replicate {A = ℕ} (padding (length name)) 0)

pub row_size : (r : LineRow) → length (row_text r) ≡ 12 + length (name_text r.name)
unfolding row_text
row_size r = omega arith

pub table_size : (t : LineTable) → length (table_text t) ≡ 16 + length (flat_map name_text t.files) + length (flat_map row_text t.rows)
unfolding table_text
table_size t = omega (arith, length-append (flat_map name_text t.files) (flat_map row_text t.rows))

pub sections_size : (c : Cartridge) → length (sections_text c) ≡ 12 + 4 * length c.program + length (flat_map texture_text c.textures) + length (flat_map sound_text c.sounds) + length (tail_text c.table)
unfolding sections_text
sections_size c =
    let p = program_size c.program in
    omega (
      arith,
      length-append (words_file_text c.program ++ flat_map texture_text c.textures ++ flat_map sound_text c.sounds) (tail_text c.table),
      length-append (words_file_text c.program ++ flat_map texture_text c.textures) (flat_map sound_text c.sounds),
      length-append (words_file_text c.program) (flat_map texture_text c.textures),
    )

-- one more text
grown : {X : Type 0} (f : X → List ℕ) (xs : List X) (i : ℕ) (d : X) → i < length xs → length (flat_map f (take (i + 1) xs)) ≡ length (flat_map f (take i xs)) + length (f (get_or xs i d))
grown f xs i d lt =
    let one : flat_map f (get_or xs i d ∷ []) ≡ f (get_or xs i d) = flat_map-cons f (get_or xs i d) [] ∙ append-nil (f (get_or xs i d)) in
    let all : flat_map f (take (i + 1) xs) ≡ flat_map f (take i xs) ++ f (get_or xs i d) =
    ap (flat_map f) (take_more xs i d lt) ∙ flat_map-append f (take i xs) (get_or xs i d ∷ []) ∙ ap (λ (x : List ℕ). flat_map f (take i xs) ++ x) one in
    ap length all ∙ length-append (flat_map f (take i xs)) (f (get_or xs i d))

pub texture_grown : (ts : List Image) (i : ℕ) (d : Image) → i < length ts → length (flat_map texture_text (take (i + 1) ts)) ≡ length (flat_map texture_text (take i ts)) + (16 + 4 * length (get_or ts i d).pixels)
texture_grown ts i d lt = grown texture_text ts i d lt ∙ ap (λ (n : ℕ). length (flat_map texture_text (take i ts)) + n) (texture_size (get_or ts i d))

pub sound_grown : (ss : List (List ℕ)) (i : ℕ) (d : List ℕ) → i < length ss → length (flat_map sound_text (take (i + 1) ss)) ≡ length (flat_map sound_text (take i ss)) + (12 + 4 * length (get_or ss i d))
sound_grown ss i d lt = grown sound_text ss i d lt ∙ ap (λ (n : ℕ). length (flat_map sound_text (take i ss)) + n) (sound_size (get_or ss i d))

pub row_grown : (rs : List LineRow) (i : ℕ) (d : LineRow) → i < length rs → length (flat_map row_text (take (i + 1) rs)) ≡ length (flat_map row_text (take i rs)) + (12 + length (name_text (get_or rs i d).name))
row_grown rs i d lt = grown row_text rs i d lt ∙ ap (λ (n : ℕ). length (flat_map row_text (take i rs)) + n) (row_size (get_or rs i d))

pub lines_size : (files : List (List ℕ)) (rows : List LineRow) → length (table_text (record { files = files; rows = rows })) ≡ 16 + length (flat_map name_text files) + length (flat_map row_text rows)
lines_size files rows = table_size (record { files = files; rows = rows })
