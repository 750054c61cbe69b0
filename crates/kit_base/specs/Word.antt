-- Words: whole numbers below 2 ^ 32, with their signed reading in two's complement.
use Rattle.std.specs.Prelude.{ℕ, suc, ◌+◌, ◌-◌, ◌*◌, ◌/◌, ◌%◌, ◌^◌, Bool, true, false, if◌then◌else◌, nat_lt, ℤ, pos, negsuc, int_lt, int_div, int_rem}
use Rattle.std.specs.Int.{w32, cast_signed, cast_unsigned}

-- the signed reading
abbrev pub signed : ℕ → ℤ
signed w = cast_signed w32 w

-- the word of a whole number
abbrev pub word : ℤ → ℕ
word z = cast_unsigned w32 z

-- sums, differences and products wrap
abbrev pub add : ℕ → ℕ → ℕ
add a b = (a + b) % 2 ^ 32

abbrev pub sub : ℕ → ℕ → ℕ
sub a b = (a + (2 ^ 32 - b)) % 2 ^ 32

abbrev pub mul : ℕ → ℕ → ℕ
mul a b = (a * b) % 2 ^ 32

-- the signed quotient, towards zero; that of -2 ^ 31 by -1 wraps to -2 ^ 31
unfoldable pub quotient : ℕ → ℕ → ℕ
quotient a b = word (int_div (signed a) (signed b))

-- the signed remainder, with the sign of the dividend
unfoldable pub remainder : ℕ → ℕ → ℕ
remainder a b = word (int_rem (signed a) (signed b))

-- whether a is less than b, signed
unfoldable pub below : ℕ → ℕ → Bool
below a b = int_lt (signed a) (signed b)

-- 1 for yes, 0 for no
abbrev pub bool_word : Bool → ℕ
bool_word false = 0
bool_word true = 1

-- shifted by a signed count: left by 0 to 31, right with zeros by -1 to -31, else 0
abbrev pub shifted_by : ℕ → ℤ → ℕ
shifted_by a (pos k) = if nat_lt k 32 then (a * 2 ^ k) % 2 ^ 32 else 0
shifted_by a (negsuc k) = if nat_lt k 31 then a / 2 ^ suc k else 0

unfoldable pub shifted : ℕ → ℕ → ℕ
shifted a count = shifted_by a (signed count)

-- the lesser and the greater, signed
abbrev pub smaller : ℕ → ℕ → ℕ
smaller a b = if below a b then a else b

abbrev pub larger : ℕ → ℕ → ℕ
larger a b = if below a b then b else a

abbrev pub negated : ℕ → ℕ
negated a = sub 0 a

-- the magnitude; that of -2 ^ 31 is itself
abbrev pub magnitude : ℕ → ℕ
magnitude a = if below a 0 then negated a else a
