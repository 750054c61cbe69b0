-- What the limits of a cartridge say of its parts.
use Rattle.std.proofs.Common.{◌≡◌, ℕ, ◌+◌, ◌-◌, ◌^◌, ◌<◌, ◌≤◌, true, List, [], ◌∷◌, length, min, ap, ◌∙◌, arith}
use Rattle.std.specs.List.{flat_map}
use Rattle.std.proofs.lemmas.List.{length-append}
use Rattle.std.proofs.lemmas.List.Concat.{flat_map-cons}
use Rattle.std.specs.Prelude.{Option}
use Rattle.asset_pack.specs.Texts.{Image}
use Rattle.cart_format.specs.declared.row.LineRow.{LineRow}
use Rattle.cart_format.specs.declared.row.LineTable.{LineTable}
use Rattle.cart_format.specs.Table.{name_text, row_text}
use Rattle.cart_format.specs.Cartridge.{Cartridge, is_cart, total, tail_text}
use Rattle.cart_format.proofs.Carts.{limits}
use Rattle.cart_format.proofs.Headers.{title_is}
use Rattle.cart_format.proofs.Sizes.{sections_size}

pub same_parts : (c : Cartridge) (program : List ℕ) (textures : List Image) (sounds : List (List ℕ)) (table : Option LineTable) → program ≡ c.program → textures ≡ c.textures → sounds ≡ c.sounds → table ≡ c.table
    → record { title = c.title; program = program; textures = textures; sounds = sounds; table = table } ≡ c
same_parts c program textures sounds table p q r s =
    ap (λ (x : List ℕ). record { title = c.title; program = x; textures = textures; sounds = sounds; table = table }) p
    ∙ ap (λ (x : List Image). record { title = c.title; program = c.program; textures = x; sounds = sounds; table = table }) q
    ∙ ap (λ (x : List (List ℕ)). record { title = c.title; program = c.program; textures = c.textures; sounds = x; table = table }) r
    ∙ ap (λ (x : Option LineTable). record { title = c.title; program = c.program; textures = c.textures; sounds = c.sounds; table = x }) s

pub size_is : (c : Cartridge) (size : ℕ) (program : List ℕ) (textures : List Image) (sounds : List (List ℕ)) (table : Option LineTable) → program ≡ c.program → textures ≡ c.textures → sounds ≡ c.sounds → table ≡ c.table
    → size ≡ min (total (record { title = c.title; program = program; textures = textures; sounds = sounds; table = table })) (2 ^ 64 - 1) → is_cart c ≡ true → (size ≡ total c) × (size ≤ 268435456)
size_is c size program textures sounds table p q r s e h =
    let same : record { title = c.title; program = program; textures = textures; sounds = sounds; table = table } ≡ c = same_parts c program textures sounds table p q r s in
    let whole : size ≡ min (total c) (2 ^ 64 - 1) = e ∙ ap (λ (x : Cartridge). min (total x) (2 ^ 64 - 1)) same in
    let small = (limits c h).size in
    (omega arith, omega arith)

pub short_title : (c : Cartridge) → is_cart c ≡ true → length c.title ≤ 63
short_title c h = (title_is c.title (limits c h).title).few

pub short_program : (c : Cartridge) → is_cart c ≡ true → length c.program ≤ 33554432
short_program c h = (limits c h).words

pub few_textures : (c : Cartridge) → is_cart c ≡ true → length c.textures ≤ 256
few_textures c h = (limits c h).textures

pub few_sounds : (c : Cartridge) → is_cart c ≡ true → length c.sounds ≤ 1024
few_sounds c h = (limits c h).sounds

pub short_tail : (c : Cartridge) → is_cart c ≡ true → length (tail_text c.table) < 2 ^ 32
short_tail c h = let small = (limits c h).size in omega (arith, sections_size c)

names_at_least : (names : List (List ℕ)) → length names ≤ length (flat_map name_text names)
unfolding name_text
names_at_least [] = omega arith
names_at_least (n ∷ ns) =
    let more = names_at_least ns in
    let all : length (flat_map name_text (n ∷ ns)) ≡ length (name_text n) + length (flat_map name_text ns) = ap length (flat_map-cons name_text n ns) ∙ length-append (name_text n) (flat_map name_text ns) in
    omega arith

rows_at_least : (rows : List LineRow) → length rows ≤ length (flat_map row_text rows)
unfolding row_text
rows_at_least [] = omega arith
rows_at_least (r ∷ rs) =
    let more = rows_at_least rs in
    let all : length (flat_map row_text (r ∷ rs)) ≡ length (row_text r) + length (flat_map row_text rs) = ap length (flat_map-cons row_text r rs) ∙ length-append (row_text r) (flat_map row_text rs) in
    omega arith

pub count_files : (names : List (List ℕ)) → length (flat_map name_text names) < 2 ^ 32 → length names < 2 ^ 32
count_files names small = let more = names_at_least names in omega arith

pub count_rows : (rows : List LineRow) → length (flat_map row_text rows) < 2 ^ 32 → length rows < 2 ^ 32
count_rows rows small = let more = rows_at_least rows in omega arith

pub ruleset short = (short_title, few_textures, few_sounds, short_program)
