-- The number that a name keeps beside its bytes, by which tables find it.
use Rattle.std.specs.Prelude.{ℕ, ◌*◌, ◌%◌, ◌^◌, List, fold, bit_xor}

-- the bytes one after another: each is joined by exclusive or, then all is multiplied, within 64 bits
abbrev pub number_of : List ℕ → ℕ
number_of bytes = fold (λ n b. (bit_xor n b * 1099511628211) % 2 ^ 64) 14695981039346656037 bytes
