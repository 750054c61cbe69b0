-- Numbers are read as those whose digits are written.
use Rattle.std.proofs.Common.{◌≡◌, ℕ, zero, suc, ◌+◌, ◌*◌, ◌/◌, ◌%◌, ◌^◌, ◌<◌, Bool, true, false, cond, ◌&&◌, List, [], ◌∷◌, ◌++◌, length, map, fold, codes, refl, ap, ◌∙◌, arith, lt-ltb, ltb-true, ltb}
use Rattle.std.specs.Prelude.{Some}
use Rattle.std.specs.Char.{is_ascii_hexdigit}
use Rattle.std.specs.List.{list_all}
use Rattle.asm_items.specs.Vocabulary.{is_word_byte}
use Rattle.kit_base.specs.Digits.{digit_value, hex_digit, word_digits}
use Rattle.asm_items.specs.Written.{number_text, port_text}
use Rattle.asm_reader.specs.declared.token.Token.{Token}
use Rattle.asm_reader.specs.declared.token.Token.TheVariants as t
use Rattle.asm_reader.specs.Numbers.{limited, hexadecimal_digits, number_by, number_token}
use Rattle.asm_reader.specs.Tokens.{run_token}

-- letters, digits and `_` that are one token
pub record IsRun (text : List ℕ) (token : Token) : Type 0 where
  pub some : 0 < length text
  pub all : list_all is_word_byte text ≡ true
  pub read : run_token text ≡ token

record IsDigit (b d : ℕ) : Type 0 where
  within : is_word_byte b ≡ true
  digit : is_ascii_hexdigit b ≡ true
  value : digit_value b ≡ d

digit_is : (d : ℕ) → d < 16 → IsDigit (hex_digit d) d
digit_is zero below = record { within = refl; digit = refl; value = refl }
digit_is (suc zero) below = record { within = refl; digit = refl; value = refl }
digit_is (suc (suc zero)) below = record { within = refl; digit = refl; value = refl }
digit_is (suc (suc (suc zero))) below = record { within = refl; digit = refl; value = refl }
digit_is (suc (suc (suc (suc zero)))) below = record { within = refl; digit = refl; value = refl }
digit_is (suc (suc (suc (suc (suc zero))))) below = record { within = refl; digit = refl; value = refl }
digit_is (suc (suc (suc (suc (suc (suc zero)))))) below = record { within = refl; digit = refl; value = refl }
digit_is (suc (suc (suc (suc (suc (suc (suc zero))))))) below = record { within = refl; digit = refl; value = refl }
digit_is (suc (suc (suc (suc (suc (suc (suc (suc zero)))))))) below = record { within = refl; digit = refl; value = refl }
digit_is (suc (suc (suc (suc (suc (suc (suc (suc (suc zero))))))))) below = record { within = refl; digit = refl; value = refl }
digit_is (suc (suc (suc (suc (suc (suc (suc (suc (suc (suc zero)))))))))) below = record { within = refl; digit = refl; value = refl }
digit_is (suc (suc (suc (suc (suc (suc (suc (suc (suc (suc (suc zero))))))))))) below = record { within = refl; digit = refl; value = refl }
digit_is (suc (suc (suc (suc (suc (suc (suc (suc (suc (suc (suc (suc zero)))))))))))) below = record { within = refl; digit = refl; value = refl }
digit_is (suc (suc (suc (suc (suc (suc (suc (suc (suc (suc (suc (suc (suc zero))))))))))))) below = record { within = refl; digit = refl; value = refl }
digit_is (suc (suc (suc (suc (suc (suc (suc (suc (suc (suc (suc (suc (suc (suc zero)))))))))))))) below = record { within = refl; digit = refl; value = refl }
digit_is (suc (suc (suc (suc (suc (suc (suc (suc (suc (suc (suc (suc (suc (suc (suc zero))))))))))))))) below = record { within = refl; digit = refl; value = refl }
digit_is (suc (suc (suc (suc (suc (suc (suc (suc (suc (suc (suc (suc (suc (suc (suc (suc d)))))))))))))))) below = absurd (omega arith)

pub both : (a b : Bool) → a ≡ true → b ≡ true → (a && b) ≡ true
both a b h k = rw (h, k) refl

abbrev AreDigits : List ℕ → Type 0
AreDigits [] = Unit {0}
AreDigits (d ∷ ds) = (d < 16) × AreDigits ds

abbrev digits : List ℕ → List ℕ
digits ds = map hex_digit ds

abbrev spelled : List ℕ → List ℕ
spelled ds = codes "0x" ++ digits ds

-- one digit more
abbrev place : ℕ → ℕ → ℕ
place value d = value * 16 + d

are_word_bytes : (ds : List ℕ) → AreDigits ds → list_all is_word_byte (digits ds) ≡ true
are_word_bytes [] h = refl
are_word_bytes (d ∷ ds) h = both (is_word_byte (hex_digit d)) (list_all is_word_byte (digits ds)) (digit_is d h.0).within (are_word_bytes ds h.1)

are_hexadecimal : (ds : List ℕ) → AreDigits ds → list_all is_ascii_hexdigit (digits ds) ≡ true
are_hexadecimal [] h = refl
are_hexadecimal (d ∷ ds) h = both (is_ascii_hexdigit (hex_digit d)) (list_all is_ascii_hexdigit (digits ds)) (digit_is d h.0).digit (are_hexadecimal ds h.1)

value_is : (start : ℕ) (ds : List ℕ) → AreDigits ds → fold (λ value b. value * 16 + digit_value b) start (digits ds) ≡ fold place start ds
value_is start [] h = refl
value_is start (d ∷ ds) h =
    ap (λ (x : ℕ). fold (λ value b. value * 16 + digit_value b) (start * 16 + x) (digits ds)) (digit_is d h.0).value ∙ value_is (start * 16 + d) ds h.1

hexadecimal : (ds : List ℕ) → 0 < length ds → AreDigits ds → hexadecimal_digits (spelled ds) ≡ Some (digits ds)
unfolding hexadecimal_digits
hexadecimal [] some h = absurd (omega arith)
hexadecimal (d ∷ ds) some h = rw (lt-ltb 0 (length (digits (d ∷ ds))) (omega arith), are_hexadecimal (d ∷ ds) h) refl

in_range : (n : ℕ) → n < 2 ^ 32 → limited n ≡ Some n
unfolding limited
in_range n below = rw (lt-ltb n (2 ^ 32) below) refl

number_read : (ds : List ℕ) (n : ℕ) → 0 < length ds → AreDigits ds → fold place 0 ds ≡ n → n < 2 ^ 32 → run_token (spelled ds) ≡ t.Number false (Some n)
unfolding run_token number_token
number_read ds n some h value below =
    ap (number_by false (spelled ds)) (hexadecimal ds some h)
    ∙ ap (λ (v : ℕ). t.Number false (limited v)) (value_is 0 ds h ∙ value)
    ∙ ap (t.Number false) (in_range n below)

number_run : (ds : List ℕ) (n : ℕ) → 0 < length ds → AreDigits ds → fold place 0 ds ≡ n → n < 2 ^ 32 → IsRun (spelled ds) (t.Number false (Some n))
number_run ds n some h value below = record { some = omega arith; all = are_word_bytes ds h; read = number_read ds n some h value below }

abbrev three : ℕ → List ℕ
three n = n / 0x100 % 16 ∷ n / 0x10 % 16 ∷ n % 16 ∷ []

abbrev four : ℕ → List ℕ
four n = n / 0x1000 % 16 ∷ n / 0x100 % 16 ∷ n / 0x10 % 16 ∷ n % 16 ∷ []

abbrev eight : ℕ → List ℕ
eight n = n / 0x1000_0000 % 16 ∷ n / 0x100_0000 % 16 ∷ n / 0x10_0000 % 16 ∷ n / 0x1_0000 % 16 ∷ n / 0x1000 % 16 ∷ n / 0x100 % 16 ∷ n / 0x10 % 16 ∷ n % 16 ∷ []

three_are : (n : ℕ) → n < 0x1000 → fold place 0 (three n) ≡ n
three_are n below =
    let a : 0 * 16 + n / 0x100 % 16 ≡ n / 0x100 = omega arith in
    let b : n / 0x100 * 16 + n / 0x10 % 16 ≡ n / 0x10 = omega arith in
    let c : n / 0x10 * 16 + n % 16 ≡ n = omega arith in
    rw (a, b) c

four_are : (n : ℕ) → n < 0x1_0000 → fold place 0 (four n) ≡ n
four_are n below =
    let a : 0 * 16 + n / 0x1000 % 16 ≡ n / 0x1000 = omega arith in
    let b : n / 0x1000 * 16 + n / 0x100 % 16 ≡ n / 0x100 = omega arith in
    let c : n / 0x100 * 16 + n / 0x10 % 16 ≡ n / 0x10 = omega arith in
    let d : n / 0x10 * 16 + n % 16 ≡ n = omega arith in
    rw (a, b, c) d

eight_are : (n : ℕ) → n < 2 ^ 32 → fold place 0 (eight n) ≡ n
eight_are n below =
    let a : 0 * 16 + n / 0x1000_0000 % 16 ≡ n / 0x1000_0000 = omega arith in
    let b : n / 0x1000_0000 * 16 + n / 0x100_0000 % 16 ≡ n / 0x100_0000 = omega arith in
    let c : n / 0x100_0000 * 16 + n / 0x10_0000 % 16 ≡ n / 0x10_0000 = omega arith in
    let d : n / 0x10_0000 * 16 + n / 0x1_0000 % 16 ≡ n / 0x1_0000 = omega arith in
    let e : n / 0x1_0000 * 16 + n / 0x1000 % 16 ≡ n / 0x1000 = omega arith in
    let f : n / 0x1000 * 16 + n / 0x100 % 16 ≡ n / 0x100 = omega arith in
    let g : n / 0x100 * 16 + n / 0x10 % 16 ≡ n / 0x10 = omega arith in
    let h : n / 0x10 * 16 + n % 16 ≡ n = omega arith in
    rw (a, b, c, d, e, f, g) h

digit_of : (n : ℕ) → n % 16 < 16
digit_of n = omega arith

three_digits : (n : ℕ) → AreDigits (three n)
three_digits n = (digit_of (n / 0x100), (digit_of (n / 0x10), (digit_of n, tt)))

four_digits : (n : ℕ) → AreDigits (four n)
four_digits n = (digit_of (n / 0x1000), three_digits n)

eight_digits : (n : ℕ) → AreDigits (eight n)
eight_digits n = (digit_of (n / 0x1000_0000), (digit_of (n / 0x100_0000), (digit_of (n / 0x10_0000), (digit_of (n / 0x1_0000), four_digits n))))

pub word_number : (n : ℕ) → n < 2 ^ 32 → IsRun (number_text n) (t.Number false (Some n))
unfolding number_text word_digits
word_number n below = number_run (eight n) n (omega arith) (eight_digits n) (eight_are n below) below

port_by : (n : ℕ) (small : Bool) → ltb n 0x1000 ≡ small → n < 16384 → IsRun (cond small (spelled (three n)) (spelled (four n))) (t.Number false (Some n))
port_by n true is below = number_run (three n) n (omega arith) (three_digits n) (three_are n (ltb-true n 0x1000 is)) (omega arith)
port_by n false is below = number_run (four n) n (omega arith) (four_digits n) (four_are n (omega arith)) (omega arith)

pub port_number : (n : ℕ) → n < 16384 → IsRun (port_text n) (t.Number false (Some n))
unfolding port_text
port_number n below = port_by n (ltb n 0x1000) refl below
