-- Numbers of digits that are cut at a limit.
use Rattle.std.proofs.Common.{ℕ, ◌≡◌, ◌⊎◌, inl, inr, ◌<◌, ◌≤◌, ◌+◌, ◌*◌, ◌-◌, List, [], ◌∷◌, min, sym, ap, ◌∙◌, arith}
use Rattle.std.proofs.lemmas.Bool.{cases_lt}
use Rattle.std.specs.Prelude.{fold}

abbrev pub with_digit : ℕ → ℕ → ℕ
with_digit number digit = number * 10 + (digit - 48)

grows : (ds : List ℕ) (n : ℕ) → n ≤ fold with_digit n ds
grows [] n = omega arith
grows (d ∷ ds) n = let more = grows ds (with_digit n d) in omega arith

at_least : (ds : List ℕ) (n limit : ℕ) → limit ≤ n → min (fold with_digit n ds) limit ≡ limit
at_least ds n limit h = let more = grows ds n in omega arith

below : (n limit : ℕ) → n < limit → min n limit ≡ n
below n limit h = omega arith

above : (n limit : ℕ) → limit ≤ n → limit ≤ min n limit
above n limit h = omega arith

cut_by : (ds : List ℕ) (n limit : ℕ) → (n < limit) ⊎ (limit ≤ n) → min (fold with_digit (min n limit) ds) limit ≡ min (fold with_digit n ds) limit
cut_by ds n limit (inl h) = ap (λ m. min (fold with_digit m ds) limit) (below n limit h)
cut_by ds n limit (inr h) = at_least ds (min n limit) limit (above n limit h) ∙ sym (at_least ds n limit h)

-- a number over the limit stays so
pub cut_number : (ds : List ℕ) (n limit : ℕ) → min (fold with_digit (min n limit) ds) limit ≡ min (fold with_digit n ds) limit
cut_number ds n limit = cut_by ds n limit (cases_lt n limit)
