-- Numbers as they are spelled (the assembly guide, section on numbers).
use Rattle.std.specs.Prelude.{ℕ, ◌^◌, List, [], ◌∷◌, length, Bool, ◌&&◌, ◌==◌, nat_lt, if◌then◌else◌, Option, Some, None}
use Rattle.std.specs.Char.{is_ascii_digit, is_ascii_hexdigit}
use Rattle.std.specs.List.{list_all}
use Rattle.kit_base.specs.Digits.{value_in}
use Rattle.asm_reader.specs.declared.token.Token.{Token}
use Rattle.asm_reader.specs.declared.token.Token.TheVariants as t

-- a magnitude below 2 ^ 32; no place takes a greater one
unfoldable pub limited : ℕ → Option ℕ
limited n = if nat_lt n (2 ^ 32) then Some n else None

-- the digits behind `0x`
unfoldable pub hexadecimal_digits : List ℕ → Option (List ℕ)
hexadecimal_digits [] = None
hexadecimal_digits (first ∷ []) = None
hexadecimal_digits (first ∷ x ∷ digits) =
    if (first == 48) && ((x == 120) && (nat_lt 0 (length digits) && list_all is_ascii_hexdigit digits)) then Some digits else None

-- `0x` and hexadecimal digits, or decimal digits alone; a `-` may stand directly before
abbrev pub decimal_token : Bool → List ℕ → Token
decimal_token negative text = if list_all is_ascii_digit text then t.Number negative (limited (value_in 10 text)) else t.Stray

abbrev pub number_by : Bool → List ℕ → Option (List ℕ) → Token
number_by negative text (Some digits) = t.Number negative (limited (value_in 16 digits))
number_by negative text None = decimal_token negative text

unfoldable pub number_token : Bool → List ℕ → Token
number_token negative text = number_by negative text (hexadecimal_digits text)
