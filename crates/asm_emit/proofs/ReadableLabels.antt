-- The labels of emitted code are words that stand for nothing else.
use Rattle.std.proofs.Common.{◌≡◌, ℕ, zero, suc, ◌/◌, ◌%◌, ◌^◌, Bool, true, false, ◌&&◌, List, [], ◌∷◌, codes, ◌++◌, refl, ◌∙◌, ap, arith}
use Rattle.std.specs.Prelude.{get_or}
use Rattle.std.specs.List.{list_all}
use Rattle.v32_isa.specs.Ports.{port_named, port_spelled, port_table}
use Rattle.asm_items.specs.Vocabulary.{is_letter, is_word_byte, is_word, is_label, is_label_word, is_spelled, vocabulary, registers, word_kind}
use Rattle.kit_base.specs.Digits.{hex_digit, word_digits}
use Rattle.asm_items.specs.Written.{number_text}
use Rattle.asm_reader.specs.Readable.{IsName}
use Rattle.asm_reader.proofs.DigitLaws.{both, word_number}
use Rattle.asm_laws.specs.Names.{jump_label, literal_label, function_label}

-- ---- numbers are written in word bytes

number_wraps : (n : ℕ) → number_text n ≡ number_text (n % 2 ^ 32)
unfolding number_text word_digits
number_wraps n =
    let d7 : n / 0x10000000 % 16 ≡ n % 2 ^ 32 / 0x10000000 % 16 = omega arith in
    let d6 : n / 0x1000000 % 16 ≡ n % 2 ^ 32 / 0x1000000 % 16 = omega arith in
    let d5 : n / 0x100000 % 16 ≡ n % 2 ^ 32 / 0x100000 % 16 = omega arith in
    let d4 : n / 0x10000 % 16 ≡ n % 2 ^ 32 / 0x10000 % 16 = omega arith in
    let d3 : n / 0x1000 % 16 ≡ n % 2 ^ 32 / 0x1000 % 16 = omega arith in
    let d2 : n / 0x100 % 16 ≡ n % 2 ^ 32 / 0x100 % 16 = omega arith in
    let d1 : n / 0x10 % 16 ≡ n % 2 ^ 32 / 0x10 % 16 = omega arith in
    let d0 : n % 16 ≡ n % 2 ^ 32 % 16 = omega arith in
    λ i. codes "0x" ++ hex_digit (d7 i) ∷ hex_digit (d6 i) ∷ hex_digit (d5 i) ∷ hex_digit (d4 i) ∷ hex_digit (d3 i) ∷ hex_digit (d2 i) ∷ hex_digit (d1 i) ∷ hex_digit (d0 i) ∷ []

number_bytes : (n : ℕ) → list_all is_word_byte (number_text n) ≡ true
number_bytes n = ap (list_all is_word_byte) (number_wraps n) ∙ (word_number (n % 2 ^ 32) (omega arith)).all

-- ---- a word whose second byte is `_` stands for nothing else

after_f : (rest : List ℕ) → is_label (word_kind (102 ∷ 95 ∷ rest)) ≡ true
unfolding word_kind vocabulary registers is_spelled port_named port_spelled port_table
after_f rest = refl

after_l : (rest : List ℕ) → is_label (word_kind (108 ∷ 95 ∷ rest)) ≡ true
unfolding word_kind vocabulary registers is_spelled port_named port_spelled port_table
after_l rest = refl

after_t : (rest : List ℕ) → is_label (word_kind (116 ∷ 95 ∷ rest)) ≡ true
unfolding word_kind vocabulary registers is_spelled port_named port_spelled port_table
after_t rest = refl

label_word : (name : List ℕ) → is_word name ≡ true → is_label (word_kind name) ≡ true → IsName name
unfolding is_label_word
label_word name h k = both (is_word name) (is_label (word_kind name)) h k

pub jump_named : (n : ℕ) → IsName (jump_label n)
jump_named n = label_word (jump_label n) (number_bytes n) (after_l (number_text n))

pub literal_named : (k : ℕ) → IsName (literal_label k)
literal_named k = label_word (literal_label k) (number_bytes k) (after_t (number_text k))

-- ---- functions

first_true : (a b : Bool) → (a && b) ≡ true → a ≡ true
first_true true b h = refl
first_true false b h = cc

second_true : (a b : Bool) → (a && b) ≡ true → b ≡ true
second_true true b h = h
second_true false b h = cc

letter_is_byte : (b : ℕ) → is_letter b ≡ true → is_word_byte b ≡ true
letter_is_byte b h = rw h refl

word_bytes : (name : List ℕ) → is_word name ≡ true → list_all is_word_byte name ≡ true
word_bytes [] h = cc
word_bytes (b ∷ bs) h = both (is_word_byte b) (list_all is_word_byte bs) (letter_is_byte b (first_true (is_letter b) (list_all is_word_byte bs) h)) (second_true (is_letter b) (list_all is_word_byte bs) h)

name_bytes : (names : List (List ℕ)) (f : ℕ) → list_all is_word names ≡ true → list_all is_word_byte (get_or names f []) ≡ true
name_bytes [] f h = refl
name_bytes (n ∷ names) zero h = word_bytes n (first_true (is_word n) (list_all is_word names) h)
name_bytes (n ∷ names) (suc f) h = name_bytes names f (second_true (is_word n) (list_all is_word names) h)

pub function_named : (names : List (List ℕ)) (f : ℕ) → list_all is_word names ≡ true → IsName (function_label names f)
function_named names f h = label_word (function_label names f) (name_bytes names f h) (after_f (get_or names f []))
