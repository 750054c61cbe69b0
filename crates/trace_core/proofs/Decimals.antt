-- Decimals, digit by digit.
use Rattle.std.proofs.Common.{ℕ, ◌≡◌, ◌<◌, ◌≤◌, ◌+◌, ◌/◌, ◌%◌, ◌^◌, List, [], ◌∷◌, ◌++◌, length, sym, ap, append_assoc, ◌∙◌, arith}
use Rattle.std.specs.Fmt.{decimal}
use Rattle.std.proofs.lemmas.List.{length-append}
use Rattle.std.proofs.lemmas.Fmt.{decimal_step, decimal_digit, length-decimal-le}

more_digits : (n : ℕ) → 10 ≤ n → n < 2 ^ 32 → decimal n ≡ decimal (n / 10) ++ (48 + n % 10) ∷ []
more_digits n h small = decimal_step n h (omega arith)

pub more_length : (n : ℕ) → 10 ≤ n → n < 2 ^ 32 → length (decimal n) ≡ length (decimal (n / 10)) + 1
more_length n h small = ap length (more_digits n h small) ∙ length-append (decimal (n / 10)) ((48 + n % 10) ∷ [])

pub one_digit : (n : ℕ) → n < 10 → decimal n ≡ (48 + n) ∷ []
one_digit n h = decimal_digit n h

pub few_digits : (n : ℕ) → n < 2 ^ 32 → length (decimal n) ≤ 10
few_digits n small = length-decimal-le 10 n (omega arith) (omega arith) (omega arith)

pub one_length : (n : ℕ) → n < 10 → length (decimal n) ≡ 1
one_length n h = ap length (one_digit n h)

-- the last digit behind the others
pub more_laid : (l : List ℕ) (n : ℕ) → 10 ≤ n → n < 2 ^ 32 → l ++ decimal (n / 10) ++ (48 + n % 10) ∷ [] ≡ l ++ decimal n
more_laid l n h small = append_assoc l (decimal (n / 10)) ((48 + n % 10) ∷ []) ∙ ap (λ ds. l ++ ds) (sym (more_digits n h small))

pub ruleset decimals = (one_digit, one_length, more_laid, more_length)
