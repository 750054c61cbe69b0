-- Digits: how texts spell a word in upper-case hexadecimal, and the number that digits of a base write.
use Rattle.std.specs.Prelude.{ℕ, ◌+◌, ◌*◌, ◌-◌, ◌/◌, ◌%◌, List, [], ◌∷◌, fold, nat_lt, if◌then◌else◌}

-- '0' to '9', 'A' to 'F'
abbrev pub hex_digit : ℕ → ℕ
hex_digit d = if nat_lt d 10 then 48 + d else 55 + d

-- the eight digits of a word, the highest first
unfoldable pub word_digits : ℕ → List ℕ
word_digits n =
    hex_digit (n / 0x1000_0000 % 16) ∷ hex_digit (n / 0x100_0000 % 16) ∷ hex_digit (n / 0x10_0000 % 16) ∷ hex_digit (n / 0x1_0000 % 16)
    ∷ hex_digit (n / 0x1000 % 16) ∷ hex_digit (n / 0x100 % 16) ∷ hex_digit (n / 0x10 % 16) ∷ hex_digit (n % 16) ∷ []

-- the value of a digit: '0' to '9', 'A' to 'F' and 'a' to 'f'
abbrev pub digit_value : ℕ → ℕ
digit_value b = if nat_lt b 58 then b - 48 else (if nat_lt b 97 then b - 55 else b - 87)

-- the number that digits write in a base
abbrev pub value_in : ℕ → List ℕ → ℕ
value_in base digits = fold (λ value digit. value * base + digit_value digit) 0 digits
