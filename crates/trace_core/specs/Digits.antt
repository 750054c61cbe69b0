-- Numbers in upper-case hexadecimal, without the zeros at the front.
use Rattle.std.specs.Prelude.{ℕ, zero, suc, ◌==◌, List, [], ◌∷◌, if◌then◌else◌}
use Rattle.kit_base.specs.Digits.{word_digits}

-- without the zeros at the front, so many of them at most
abbrev pub without_zeros : ℕ → List ℕ → List ℕ
without_zeros zero digits = digits
without_zeros (suc most) [] = []
without_zeros (suc most) (digit ∷ digits) = if digit == 48 then without_zeros most digits else digit ∷ digits

-- the digits of a port's number, at least three
abbrev pub port_digits : ℕ → List ℕ
port_digits port = without_zeros 5 (word_digits port)
