-- What is packed is within the limits of a cartridge, but for its size.
use Rattle.std.proofs.Common.{ℕ, ◌≡◌, ◌≤◌, ◌<◌, ◌+◌, true, false, List, length, take, get_or, refl, sym, ◌∙◌, arith}
use Rattle.std.specs.Prelude.{Some, nat_le}
use Rattle.std.specs.List.{AllByRecursion}
use Rattle.std.proofs.lemmas.Bool.Decides.{nat_tests}
use Rattle.asset_pack.specs.Texts.{Image, HasSides, HasSamples}
use Rattle.project_text.specs.Grammar.{IsText}
use Rattle.cart_format.specs.Cartridge.{Cartridge, is_cart, is_title, total}
use Rattle.cart_format.specs.Table.{is_table}
use Rattle.cart_format.specs.declared.row.LineTable.{LineTable}
use Rattle.cart_format.proofs.Laid.{all_more}

le_true : (a b : ℕ) → a ≤ b → nat_le a b ≡ true
le_true a b h = grind (arith, nat_tests)

pub le_so : (a b : ℕ) → nat_le a b ≡ true → a ≤ b
le_so a b h = grind (arith, nat_tests)

le_false : (a b : ℕ) → nat_le a b ≡ false → b < a
le_false a b h = grind (arith, nat_tests)

title_fits : (title : List ℕ) → IsText 63 title → is_title title ≡ true
unfolding is_title
title_fits title h = rw (le_true 1 (length title) h.some, le_true (length title) 63 h.few, h.printable) refl

abbrev cartridge : (title words : List ℕ) → List Image → List (List ℕ) → LineTable → Cartridge
cartridge title words ts ss table = record { title = title; program = words; textures = ts; sounds = ss; table = Some table }

size_alone : (title words : List ℕ) (ts : List Image) (ss : List (List ℕ)) (table : LineTable) → IsText 63 title → 1 ≤ length words → length words ≤ 33554432 → length ts ≤ 256 → length ss ≤ 1024 → is_table (length words) table ≡ true
    → is_cart (cartridge title words ts ss table) ≡ nat_le (total (cartridge title words ts ss table)) 268435456
unfolding is_cart
size_alone title words ts ss table t some few textures sounds fits =
    rw (title_fits title t, le_true 1 (length words) some, le_true (length words) 33554432 few, le_true (length ts) 256 textures, le_true (length ss) 1024 sounds, fits) refl

-- what is no cartridge is too large
pub too_large : (title words : List ℕ) (ts : List Image) (ss : List (List ℕ)) (table : LineTable) → IsText 63 title → 1 ≤ length words → length words ≤ 33554432 → length ts ≤ 256 → length ss ≤ 1024 → is_table (length words) table ≡ true
    → is_cart (cartridge title words ts ss table) ≡ false → 268435456 < total (cartridge title words ts ss table)
too_large title words ts ss table t some few textures sounds fits none =
    le_false (total (cartridge title words ts ss table)) 268435456 (sym (size_alone title words ts ss table t some few textures sounds fits) ∙ none)

-- ---- one more texture or sound

pub sides_more : (ts : List Image) (i : ℕ) (t : Image) → i < length ts → t ≡ get_or ts i t → AllByRecursion HasSides (take i ts) → HasSides t → AllByRecursion HasSides (take (i + 1) ts)
sides_more = all_more HasSides

pub samples_more : (ss : List (List ℕ)) (i : ℕ) (s : List ℕ) → i < length ss → s ≡ get_or ss i s → AllByRecursion HasSamples (take i ss) → HasSamples s → AllByRecursion HasSamples (take (i + 1) ss)
samples_more = all_more HasSamples
