-- Numbers: how far one goes, and its value. Decimal digits, or `0x` and hexadecimal digits of either case.
use Rattle.std.specs.Prelude.{ℕ, ◌+◌, List, [], ◌∷◌, length, drop, take_while, Bool, false, ◌&&◌, ◌==◌, if◌then◌else◌}
use Rattle.std.specs.Char.{is_ascii_digit, is_ascii_hexdigit}
use Rattle.kit_base.specs.Digits.{value_in}
use Rattle.c_lex.specs.Bytes.{begins}

-- `0x` directly before a hexadecimal digit
abbrev pub begins_hex : List ℕ → Bool
begins_hex [] = false
begins_hex (z ∷ []) = false
begins_hex (z ∷ x ∷ bs) = (z == 48) && ((x == 120) && begins is_ascii_hexdigit bs)

-- how many bytes at the front are one number, where a digit stands there
unfoldable pub number_len : List ℕ → ℕ
number_len bytes = if begins_hex bytes then 2 + length (take_while is_ascii_hexdigit (drop 2 bytes)) else length (take_while is_ascii_digit bytes)

unfoldable pub number_value : List ℕ → ℕ
number_value text = if begins_hex text then value_in 16 (drop 2 text) else value_in 10 text
