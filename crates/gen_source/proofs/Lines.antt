-- One line more.
use Rattle.std.proofs.Common.{◌≡◌, ℕ, suc, ◌+◌, arith, ◌++◌, sym, ap}
use Rattle.gen_source.specs.Source.{function_line, function_lines}

next : (k j : ℕ) → j ≡ suc k → function_lines k ++ function_line (k + 1) k ≡ function_lines j
next k j e = sym (ap function_lines e)

pub one_more : (k : ℕ) → function_lines k ++ function_line (k + 1) k ≡ function_lines (k + 1)
one_more k = next k (k + 1) (omega arith)
