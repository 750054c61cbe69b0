-- The header: what its tests show, and the header of a text.
use Rattle.std.proofs.Common.{◌≡◌, ℕ, suc, ◌+◌, ◌-◌, ◌^◌, ◌<◌, ◌≤◌, Bool, true, false, cond, not, ltb, leb, eqb, List, [], ◌∷◌, ◌++◌, length, take, drop, replicate, refl, sym, ap, ◌∙◌, append_assoc, arith}
use Rattle.std.specs.Prelude.{Option, Some, None, codes, bytes_eq}
use Rattle.std.specs.List.{list_all}
use Rattle.std.proofs.lemmas.Bool.{ltb-false, le-ltb, leb-true, le-leb, not-false, and_parts, and_from, ne_eqb}
use Rattle.std.proofs.lemmas.List.{take_at, drop_at, take-append-drop, drop-drop, length-append, length-take, length-drop, length-replicate}
use Rattle.std.proofs.lemmas.Nat.{from_le_bytes-to_le_bytes_4}
use Rattle.std.proofs.lemmas.Slice.Eq.{bytes_eq-Decides}
use Rattle.asset_pack.specs.Words.{IsBytes, word_at}
use Rattle.asset_pack.proofs.Bytes.{word_back}
use Rattle.cart_format.specs.declared.error.CartFault.{CartFault}
use Rattle.cart_format.specs.Cartridge.{header_text, title_text, is_title, is_printable}
use Rattle.cart_format.specs.Tests.{is_zero, until_zero, title_at, is_title_field, is_in_range, is_revision, header_fault}
use Rattle.cart_format.proofs.Tables.{zeros_are, are_zeros}
use Rattle.cart_format.proofs.Titles.{until_zero_within}

guard_none : (b : Bool) (e : CartFault) (o : Option CartFault) → cond b (Some e) o ≡ None → (b ≡ false) × (o ≡ None)
guard_none true e o h = absurd cc
guard_none false e o h = (refl, h)

pub record Headed (bytes : List ℕ) : Type 0 where
  pub size : length bytes ≤ 268435456
  pub long : 128 ≤ length bytes
  pub signed : take 8 bytes ≡ codes "KIT-CART"
  pub revised : is_revision (word_at 8 bytes) ≡ true
  pub ranged : is_in_range bytes ≡ true
  pub total : word_at 12 bytes ≡ length bytes

pub headed : (bytes : List ℕ) → header_fault bytes ≡ None → Headed bytes
unfolding header_fault
headed bytes e =
    let a = guard_none (ltb 268435456 (length bytes)) _ _ e in
    let b = guard_none (ltb (length bytes) 128) _ _ a.1 in
    let c = guard_none (not (bytes_eq (take 8 bytes) (codes "KIT-CART"))) _ _ b.1 in
    let d = guard_none (not (is_revision (word_at 8 bytes))) _ _ c.1 in
    let f = guard_none (not (is_in_range bytes)) _ _ d.1 in
    let g = guard_none (ltb (length bytes) (word_at 12 bytes)) _ _ f.1 in
    let h = guard_none (ltb (word_at 12 bytes) (length bytes)) _ _ g.1 in
    let low = ltb-false _ _ g.0 in
    let high = ltb-false _ _ h.0 in
    record {
      size = ltb-false _ _ a.0;
      long = ltb-false _ _ b.0;
      signed = (bytes_eq-Decides (take 8 bytes) (codes "KIT-CART")).0 (not-false _ c.0);
      revised = not-false _ d.0;
      ranged = not-false _ f.0;
      total = omega arith;
    }

pub heads : (bytes : List ℕ) → Headed bytes → header_fault bytes ≡ None
unfolding header_fault
heads bytes h =
    let size = h.size in
    let long = h.long in
    let total = h.total in
    let same : bytes_eq (take 8 bytes) (codes "KIT-CART") ≡ true = (bytes_eq-Decides (take 8 bytes) (codes "KIT-CART")).1 h.signed in
    rw (le-ltb 268435456 (length bytes) size, le-ltb (length bytes) 128 long, same, h.revised, h.ranged, le-ltb (length bytes) (word_at 12 bytes) (omega arith), le-ltb (word_at 12 bytes) (length bytes) (omega arith)) refl

pub record Ranges (bytes : List ℕ) : Type 0 where
  pub some : 1 ≤ word_at 16 bytes
  pub words : word_at 16 bytes ≤ 33554432
  pub textures : word_at 20 bytes ≤ 256
  pub sounds : word_at 24 bytes ≤ 1024
  pub title : is_title_field (take 64 (drop 28 bytes)) ≡ true
  pub zeros : list_all is_zero (take 36 (drop 92 bytes)) ≡ true

pub ranges : (bytes : List ℕ) → is_in_range bytes ≡ true → Ranges bytes
unfolding is_in_range
ranges bytes h =
    let a = and_parts _ _ h in
    let b = and_parts _ _ a.1 in
    let c = and_parts _ _ b.1 in
    let d = and_parts _ _ c.1 in
    let f = and_parts _ _ d.1 in
    record { some = leb-true _ _ a.0; words = leb-true _ _ b.0; textures = leb-true _ _ c.0; sounds = leb-true _ _ d.0; title = f.0; zeros = f.1 }

pub range : (bytes : List ℕ) → Ranges bytes → is_in_range bytes ≡ true
unfolding is_in_range
range bytes r =
    and_from (leb 1 (word_at 16 bytes)) _ (le-leb _ _ r.some) (and_from (leb (word_at 16 bytes) 33554432) _ (le-leb _ _ r.words) (and_from (leb (word_at 20 bytes) 256) _ (le-leb _ _ r.textures)
    (and_from (leb (word_at 24 bytes) 1024) _ (le-leb _ _ r.sounds) (and_from (is_title_field (take 64 (drop 28 bytes))) _ r.title r.zeros))))

-- what the clauses of the reader's parts ask
pub within : (bytes : List ℕ) → header_fault bytes ≡ None → (128 ≤ length bytes) × (word_at 16 bytes ≤ 33554432) × (word_at 20 bytes ≤ 256) × (word_at 24 bytes ≤ 1024)
within bytes e =
    let h = headed bytes e in
    let r = ranges bytes h.ranged in
    (h.long, r.words, r.textures, r.sounds)

-- ---- the title

until_zero_front : (bytes : List ℕ) → take (length (until_zero bytes)) bytes ≡ until_zero bytes
unfolding until_zero
until_zero_front [] = refl
until_zero_front (b ∷ bs) = elim (eqb b 0) as (λ t. take (length (cond t [] (b ∷ until_zero bs))) (b ∷ bs) ≡ cond t [] (b ∷ until_zero bs)) [
  | true ↦ refl
  | false ↦ ap (λ (x : List ℕ). b ∷ x) (until_zero_front bs)
]

field_takes : (field : List ℕ) → length field ≡ 64 → is_title_field field ≡ true → (is_title (until_zero field) ≡ true) × (field ≡ title_text (until_zero field))
unfolding is_title_field
field_takes field len h =
    let title = until_zero field in
    let a = and_parts (is_title title) _ h in
    let fits = until_zero_within field in
    let zero_len : length (drop (length title) field) ≡ 64 - length title = omega (arith, length-drop (length title) field) in
    let zeros : drop (length title) field ≡ replicate (64 - length title) 0 = zeros_are (drop (length title) field) a.1 ∙ ap (λ (n : ℕ). replicate n 0) zero_len in
    (a.0, sym (take-append-drop (length title) field) ∙ ap (λ (x : List ℕ). x ++ drop (length title) field) (until_zero_front field) ∙ ap (λ (x : List ℕ). title ++ x) zeros)

until_again : (title rest : List ℕ) → list_all is_printable title ≡ true → until_zero (title ++ 0 ∷ rest) ≡ title
unfolding until_zero
until_again [] rest h = refl
until_again (b ∷ bs) rest h =
    let p = and_parts (is_printable b) (list_all is_printable bs) h in
    let low : 32 ≤ b = leb-true _ _ (and_parts _ _ p.0).0 in
    rw (ne_eqb b 0 (λ e. omega arith)) (ap (λ (x : List ℕ). b ∷ x) (until_again bs rest p.1))

pub record IsTitle (title : List ℕ) : Type 0 where
  pub some : 1 ≤ length title
  pub few : length title ≤ 63
  pub printable : list_all is_printable title ≡ true

pub title_is : (title : List ℕ) → is_title title ≡ true → IsTitle title
unfolding is_title
title_is title h =
    let a = and_parts _ _ h in
    let b = and_parts _ _ a.1 in
    record { some = leb-true _ _ a.0; few = leb-true _ _ b.0; printable = b.1 }

pub until_title : (title : List ℕ) → is_title title ≡ true → until_zero (title_text title) ≡ title
until_title title h =
    let t = title_is title h in
    let few = t.few in
    let more : 64 - length title ≡ suc (63 - length title) = omega arith in
    ap (λ (n : ℕ). until_zero (title ++ replicate n 0)) more ∙ until_again title (replicate (63 - length title) 0) t.printable

pub length-title_text : (title : List ℕ) → is_title title ≡ true → length (title_text title) ≡ 64
length-title_text title h =
    let few = (title_is title h).few in
    omega (arith, length-append title (replicate (64 - length title) 0), length-replicate {A = ℕ} (64 - length title) 0)

field_again : (title : List ℕ) → is_title title ≡ true → is_title_field (title_text title) ≡ true
unfolding is_title_field
field_again title h =
    let back : drop (length title) (title_text title) ≡ replicate (64 - length title) 0 = drop_at title (replicate (64 - length title) 0) (length title) refl in
    let zeros : list_all is_zero (drop (length title) (title_text title)) ≡ true = ap (list_all is_zero) back ∙ are_zeros (64 - length title) in
    rw (until_title title h, zeros, h) refl

-- ---- the header of bytes

fields : (bytes : List ℕ) → bytes ≡ (take 8 bytes ++ take 4 (drop 8 bytes) ++ take 4 (drop 12 bytes) ++ take 4 (drop 16 bytes) ++ take 4 (drop 20 bytes) ++ take 4 (drop 24 bytes) ++ take 64 (drop 28 bytes) ++ take 36 (drop 92 bytes)) ++ drop 128 bytes
fields bytes =
    sym (step (take 8 bytes ++ take 4 (drop 8 bytes) ++ take 4 (drop 12 bytes) ++ take 4 (drop 16 bytes) ++ take 4 (drop 20 bytes) ++ take 4 (drop 24 bytes) ++ take 64 (drop 28 bytes)) 92 36 bytes
    ∙ step (take 8 bytes ++ take 4 (drop 8 bytes) ++ take 4 (drop 12 bytes) ++ take 4 (drop 16 bytes) ++ take 4 (drop 20 bytes) ++ take 4 (drop 24 bytes)) 28 64 bytes
    ∙ step (take 8 bytes ++ take 4 (drop 8 bytes) ++ take 4 (drop 12 bytes) ++ take 4 (drop 16 bytes) ++ take 4 (drop 20 bytes)) 24 4 bytes
    ∙ step (take 8 bytes ++ take 4 (drop 8 bytes) ++ take 4 (drop 12 bytes) ++ take 4 (drop 16 bytes)) 20 4 bytes
    ∙ step (take 8 bytes ++ take 4 (drop 8 bytes) ++ take 4 (drop 12 bytes)) 16 4 bytes
    ∙ step (take 8 bytes ++ take 4 (drop 8 bytes)) 12 4 bytes
    ∙ step (take 8 bytes) 8 4 bytes
    ∙ take-append-drop 8 bytes)
  where
    step : (front : List ℕ) (at n : ℕ) (bytes : List ℕ) → (front ++ take n (drop at bytes)) ++ drop (at + n) bytes ≡ front ++ drop at bytes
    step front at n bytes =
        append_assoc front (take n (drop at bytes)) (drop (at + n) bytes)
        ∙ ap (λ (x : List ℕ). front ++ (take n (drop at bytes) ++ x)) (sym (drop-drop n at bytes)) ∙ ap (λ (x : List ℕ). front ++ x) (take-append-drop n (drop at bytes))

pub header_takes : (bytes : List ℕ) → IsBytes bytes → Headed bytes
    → (is_title (title_at bytes) ≡ true) × (bytes ≡ header_text (word_at 8 bytes) (word_at 12 bytes) (word_at 16 bytes) (word_at 20 bytes) (word_at 24 bytes) (title_at bytes) ++ drop 128 bytes)
unfolding header_text
header_takes bytes fits h =
    let long = h.long in
    let r = ranges bytes h.ranged in
    let field_len : length (take 64 (drop 28 bytes)) ≡ 64 = omega (arith, length-take 64 (drop 28 bytes), length-drop 28 bytes) in
    let pad_len : length (take 36 (drop 92 bytes)) ≡ 36 = omega (arith, length-take 36 (drop 92 bytes), length-drop 92 bytes) in
    let title = field_takes (take 64 (drop 28 bytes)) field_len r.title in
    let zeros : take 36 (drop 92 bytes) ≡ replicate 36 0 = zeros_are (take 36 (drop 92 bytes)) r.zeros ∙ ap (λ (n : ℕ). replicate n 0) pad_len in
    (title.0, fields bytes ∙ same (drop 128 bytes) h.signed (word_back 8 bytes fits (omega arith)) (word_back 12 bytes fits (omega arith)) (word_back 16 bytes fits (omega arith)) (word_back 20 bytes fits (omega arith)) (word_back 24 bytes fits (omega arith)) title.1 zeros)
  where
    same : {s a b c d f t z s' a' b' c' d' f' t' z' : List ℕ} (rest : List ℕ) → s ≡ s' → a' ≡ a → b' ≡ b → c' ≡ c → d' ≡ d → f' ≡ f → t ≡ t' → z ≡ z'
        → (s ++ a ++ b ++ c ++ d ++ f ++ t ++ z) ++ rest ≡ (s' ++ a' ++ b' ++ c' ++ d' ++ f' ++ t' ++ z') ++ rest
    same rest p0 p1 p2 p3 p4 p5 p6 p7 = cc

-- the header of a text
pub header_again : (revision total words textures sounds : ℕ) (title rest : List ℕ) → revision < 2 ^ 32 → total < 2 ^ 32 → is_title title ≡ true → is_revision revision ≡ true
    → total ≡ 128 + length rest → total ≤ 268435456 → 1 ≤ words → words ≤ 33554432 → textures ≤ 256 → sounds ≤ 1024
    → let text = header_text revision total words textures sounds title ++ rest in
    Headed text × (word_at 8 text ≡ revision) × (word_at 16 text ≡ words) × (word_at 20 text ≡ textures) × (word_at 24 text ≡ sounds) × (title_at text ≡ title) × (drop 128 text ≡ rest)
unfolding header_text
header_again revision total words textures sounds title rest r-fits t-fits titled revised sized small some words-few textures-few sounds-few =
    let text : List ℕ = header_text revision total words textures sounds title ++ rest in
    let w8 : word_at 8 text ≡ revision = from_le_bytes-to_le_bytes_4 revision r-fits in
    let w12 : word_at 12 text ≡ total = from_le_bytes-to_le_bytes_4 total t-fits in
    let w16 : word_at 16 text ≡ words = from_le_bytes-to_le_bytes_4 words (omega arith) in
    let w20 : word_at 20 text ≡ textures = from_le_bytes-to_le_bytes_4 textures (omega arith) in
    let w24 : word_at 24 text ≡ sounds = from_le_bytes-to_le_bytes_4 sounds (omega arith) in
    let behind : List ℕ = replicate 36 0 ++ rest in
    let field : drop 28 text ≡ title_text title ++ behind = append_assoc (title_text title) (replicate 36 0) rest in
    let field_len : length (title_text title) ≡ 64 = length-title_text title titled in
    let front : take 64 (drop 28 text) ≡ title_text title = ap (take 64) field ∙ take_at (title_text title) behind 64 field_len in
    let past : drop 92 text ≡ behind = sym (drop-drop 64 28 text) ∙ ap (drop 64) field ∙ drop_at (title_text title) behind 64 field_len in
    let zeros : list_all is_zero (take 36 (drop 92 text)) ≡ true = ap (λ (x : List ℕ). list_all is_zero (take 36 x)) past in
    let last : drop 128 text ≡ rest = sym (drop-drop 36 92 text) ∙ ap (drop 36) past in
    let len : length text ≡ 28 + length (title_text title ++ behind) = omega (arith, ap length field) in
    let all : length text ≡ 128 + length rest = omega (arith, len, length-append (title_text title) behind) in
    let titled_field : is_title_field (take 64 (drop 28 text)) ≡ true = ap is_title_field front ∙ field_again title titled in
    let in_range : Ranges text = record { some = omega arith; words = omega arith; textures = omega arith; sounds = omega arith; title = titled_field; zeros = zeros } in (
      record { size = omega arith; long = omega arith; signed = refl; revised = ap is_revision w8 ∙ revised; ranged = range text in_range; total = omega arith },
      w8,
      w16,
      w20,
      w24,
      ap until_zero front ∙ until_title title titled,
      last,
    )

pub long_enough : (bytes : List ℕ) → header_fault bytes ≡ None → 128 ≤ length bytes
long_enough bytes e = (within bytes e).0

pub few_words : (bytes : List ℕ) → header_fault bytes ≡ None → word_at 16 bytes ≤ 33554432
few_words bytes e = (within bytes e).1

pub few_textures : (bytes : List ℕ) → header_fault bytes ≡ None → word_at 20 bytes ≤ 256
few_textures bytes e = (within bytes e).2

pub few_sounds : (bytes : List ℕ) → header_fault bytes ≡ None → word_at 24 bytes ≤ 1024
few_sounds bytes e = (within bytes e).3

pub ruleset counted = (long_enough, few_words, few_textures, few_sounds)
