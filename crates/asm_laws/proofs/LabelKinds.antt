-- The names of labels: those of jumps, of functions and of literals, and ranges of them.
use Rattle.std.proofs.Common.{◌≡◌, ℕ, ◌/◌, ◌%◌, ◌^◌, ◌<◌, ◌≤◌, List, [], length, refl, sym, ap, ◌∙◌, arith}
use Rattle.std.specs.Prelude.{get_or}
use Rattle.std.proofs.lemmas.Bool.Decides.{nat_tests}
use Rattle.kit_base.specs.Digits.{hex_digit, word_digits}
use Rattle.asm_items.specs.Written.{number_text}
use Rattle.asm_laws.specs.Names.{jump_label, literal_label, function_label}

-- the names of functions differ
abbrev pub Differ : List (List ℕ) → Type 0
Differ names = (f g : ℕ) → f < length names → g < length names → get_or names f [] ≡ get_or names g [] → f ≡ g

-- ---- numbers in hexadecimal

hex_same : (d e : ℕ) → d < 16 → e < 16 → hex_digit d ≡ hex_digit e → d ≡ e
hex_same d e a b h = grind (arith, nat_tests)

digit_same : (n m : ℕ) → hex_digit (n % 16) ≡ hex_digit (m % 16) → n % 16 ≡ m % 16
digit_same n m h = hex_same (n % 16) (m % 16) (omega arith) (omega arith) h

number_same : (n m : ℕ) → n < 2 ^ 32 → m < 2 ^ 32 → number_text n ≡ number_text m → n ≡ m
unfolding number_text word_digits
number_same n m a b h =
    let d7 = digit_same (n / 0x10000000) (m / 0x10000000) cc in
    let d6 = digit_same (n / 0x1000000) (m / 0x1000000) cc in
    let d5 = digit_same (n / 0x100000) (m / 0x100000) cc in
    let d4 = digit_same (n / 0x10000) (m / 0x10000) cc in
    let d3 = digit_same (n / 0x1000) (m / 0x1000) cc in
    let d2 = digit_same (n / 0x100) (m / 0x100) cc in
    let d1 = digit_same (n / 0x10) (m / 0x10) cc in
    let d0 = digit_same n m cc in
    let e7 : n / 0x10000000 ≡ m / 0x10000000 = omega (arith, a, b, d7) in
    let e6 : n / 0x1000000 ≡ m / 0x1000000 = omega (arith, e7, d6) in
    let e5 : n / 0x100000 ≡ m / 0x100000 = omega (arith, e6, d5) in
    let e4 : n / 0x10000 ≡ m / 0x10000 = omega (arith, e5, d4) in
    let e3 : n / 0x1000 ≡ m / 0x1000 = omega (arith, e4, d3) in
    let e2 : n / 0x100 ≡ m / 0x100 = omega (arith, e3, d2) in
    let e1 : n / 0x10 ≡ m / 0x10 = omega (arith, e2, d1) in
    omega (arith, e1, d0)

-- ---- the kinds of labels

pub data Kind : Type 0 where
  Jump : ℕ → Kind
  Fun : ℕ → Kind
  Text : ℕ → Kind

abbrev pub name_of : List (List ℕ) → Kind → List ℕ
name_of names (Jump k) = jump_label k
name_of names (Fun f) = function_label names f
name_of names (Text k) = literal_label k

abbrev kind_letter : Kind → ℕ
kind_letter (Jump k) = 108
kind_letter (Fun f) = 102
kind_letter (Text k) = 116

abbrev pub Valid : List (List ℕ) → Kind → Type 0
Valid names (Jump k) = k < 2 ^ 32
Valid names (Fun f) = f < length names
Valid names (Text k) = k < 2 ^ 32

-- the letters of the three kinds differ
letter : List ℕ → ℕ
letter w = get_or w 0 0

letters : (u v : List ℕ) (a b : ℕ) → letter u ≡ a → letter v ≡ b → u ≡ v → a ≡ b
letters u v a b x y e = sym x ∙ ap letter e ∙ y

letter_of : (names : List (List ℕ)) (x : Kind) → letter (name_of names x) ≡ kind_letter x
unfolding letter
letter_of names (Jump k) = refl
letter_of names (Fun k) = refl
letter_of names (Text k) = refl

other_letter : (names : List (List ℕ)) (x y : Kind) → name_of names x ≡ name_of names y → kind_letter x ≡ kind_letter y
other_letter names x y e = letters (name_of names x) (name_of names y) _ _ (letter_of names x) (letter_of names y) e

pub kind_same : (names : List (List ℕ)) (x y : Kind) → Differ names → Valid names x → Valid names y → name_of names x ≡ name_of names y → x ≡ y
kind_same names (Jump k) (Jump j) d a b e = ap Jump (number_same k j a b cc)
kind_same names (Jump k) (Fun j) d a b e = let h = other_letter names (Jump k) (Fun j) e in absurd (omega (arith, h))
kind_same names (Jump k) (Text j) d a b e = let h = other_letter names (Jump k) (Text j) e in absurd (omega (arith, h))
kind_same names (Fun k) (Jump j) d a b e = let h = other_letter names (Fun k) (Jump j) e in absurd (omega (arith, h))
kind_same names (Fun k) (Fun j) d a b e = ap Fun (d k j a b cc)
kind_same names (Fun k) (Text j) d a b e = let h = other_letter names (Fun k) (Text j) e in absurd (omega (arith, h))
kind_same names (Text k) (Jump j) d a b e = let h = other_letter names (Text k) (Jump j) e in absurd (omega (arith, h))
kind_same names (Text k) (Fun j) d a b e = let h = other_letter names (Text k) (Fun j) e in absurd (omega (arith, h))
kind_same names (Text k) (Text j) d a b e = ap Text (number_same k j a b cc)

pub record Range : Type 0 where
  pub j0 : ℕ
  pub j1 : ℕ
  pub f0 : ℕ
  pub f1 : ℕ
  pub t0 : ℕ
  pub t1 : ℕ

abbrev pub Box : Range → Kind → Type 0
Box r (Jump k) = (r.j0 ≤ k) × (k < r.j1)
Box r (Fun f) = (r.f0 ≤ f) × (f < r.f1)
Box r (Text k) = (r.t0 ≤ k) × (k < r.t1)

abbrev pub Within : Range → Range → Type 0
Within r s = (x : Kind) → Box r x → Box s x

abbrev pub Aside : Range → Range → Type 0
Aside r s = (x : Kind) → Box r x → Box s x → ⊥

abbrev pub jumps : ℕ → ℕ → Range
jumps lo hi = record { j0 = lo; j1 = hi; f0 = 0; f1 = 0; t0 = 0; t1 = 0 }

pub jumps_within : (lo hi lo' hi' : ℕ) → lo' ≤ lo → hi ≤ hi' → Within (jumps lo hi) (jumps lo' hi')
jumps_within lo hi lo' hi' a b (Jump k) h = (omega (arith, h), omega (arith, h))
jumps_within lo hi lo' hi' a b (Fun k) h = h
jumps_within lo hi lo' hi' a b (Text k) h = h

pub jumps_below : (lo mid mid' hi : ℕ) → mid ≤ mid' → Aside (jumps lo mid) (jumps mid' hi)
jumps_below lo mid mid' hi le (Jump k) h g = omega (arith, h, g)
jumps_below lo mid mid' hi le (Fun k) h g = omega (arith, h)
jumps_below lo mid mid' hi le (Text k) h g = omega (arith, h)

pub jumps_above : (lo mid mid' hi : ℕ) → mid ≤ mid' → Aside (jumps mid' hi) (jumps lo mid)
jumps_above lo mid mid' hi le x h g = jumps_below lo mid mid' hi le x g h
