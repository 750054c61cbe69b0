-- Counting the places of a span.
use Rattle.std.proofs.Common.{◌≡◌, ℕ, zero, suc, ◌<◌, ◌≤◌, ◌+◌, ◌-◌, min, arith, Bool}
use Rattle.std.specs.Prelude.{if◌then◌else◌, ◌&&◌, nat_le, nat_lt}
use Rattle.gpu_state.specs.Places.{count_below}

one_more : (b : Bool) (n from to rest : ℕ) → from ≤ to → rest ≡ min to n - from → b ≡ (nat_le from n && nat_lt n to) →
    (if b then 1 else 0) + rest ≡ min to (suc n) - from
one_more b n from to rest le e h = rw h (grind arith)

pub count_below_span : (n from to : ℕ) (p : ℕ → Bool) → from ≤ to →
    ((x : ℕ) → x < n → p x ≡ (nat_le from x && nat_lt x to)) → count_below n p ≡ min to n - from
unfolding count_below
count_below_span zero from to p le h = omega arith
count_below_span (suc n) from to p le h =
    one_more (p n) n from to (count_below n p) le (count_below_span n from to p le (λ x k. h x (omega arith))) (h n (omega arith))
