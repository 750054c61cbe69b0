-- The fields of an instruction word (the system specification, section on the instruction word; the order and
-- widths of the fields are this project's choice).
use Rattle.std.specs.Prelude.{ℕ, ◌+◌, ◌*◌, ◌<◌, ◌^◌}

-- from the top bit: opcode 6 bits, immediate flag 1, register one 4, register two 4, mode 3, port 14
abbrev pub word_of : ℕ → ℕ → ℕ → ℕ → ℕ → ℕ → ℕ
word_of opcode flag one two mode port =
    opcode * 2 ^ 26 + flag * 2 ^ 25 + one * 2 ^ 21 + two * 2 ^ 17 + mode * 2 ^ 14 + port

-- each field fits its bits
pub record AreFields (o f a b m p : ℕ) : Type 0 where
  pub opcode : o < 64
  pub flag : f < 2
  pub one : a < 16
  pub two : b < 16
  pub mode : m < 8
  pub port : p < 16384
