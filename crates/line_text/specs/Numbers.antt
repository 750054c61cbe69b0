-- Numbers and printable texts.
use Rattle.std.specs.Prelude.{ℕ, ◌^◌, List, [], ◌∷◌, length, Bool, false, ◌||◌, ◌&&◌, ◌==◌, not, nat_lt, nat_le, if◌then◌else◌, Option, Some, None}
use Rattle.std.specs.List.{list_all}
use Rattle.kit_base.specs.Digits.{value_in}

-- whether a byte is between two, both included
abbrev pub is_between : ℕ → ℕ → ℕ → Bool
is_between low high b = nat_le low b && nat_le b high

-- '0' to '9'; with 'A' to 'F' and 'a' to 'f'
abbrev pub is_digit : ℕ → Bool
is_digit b = is_between 48 57 b

abbrev pub is_hexadecimal_digit : ℕ → Bool
is_hexadecimal_digit b = is_between 48 57 b || is_between 65 70 b || is_between 97 102 b

-- a needless zero stands first
abbrev pub begins_zero : List ℕ → Bool
begins_zero [] = false
begins_zero (b ∷ []) = false
begins_zero (b ∷ c ∷ bs) = b == 48

abbrev pub below_limit : ℕ → Option ℕ
below_limit n = if nat_lt n (2 ^ 32) then Some n else None

-- the word of a decimal: digits alone, at least one, no needless zero first, below 2 ^ 32
unfoldable pub decimal_word : List ℕ → Option ℕ
decimal_word text =
    if (length text == 0) || (begins_zero text || not (list_all is_digit text)) then None
    else below_limit (value_in 10 text)

-- the word of hexadecimal digits, at least one, below 2 ^ 32
unfoldable pub hexadecimal_word : List ℕ → Option ℕ
hexadecimal_word text =
    if (length text == 0) || not (list_all is_hexadecimal_digit text) then None
    else below_limit (value_in 16 text)

-- printable ASCII
abbrev pub all_printable : List ℕ → Bool
all_printable bytes = list_all (is_between 32 126) bytes

-- 1 to so many bytes of it
abbrev pub is_printable : ℕ → List ℕ → Bool
is_printable most bytes = nat_lt 0 (length bytes) && nat_le (length bytes) most && all_printable bytes
