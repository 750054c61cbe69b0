-- What an operation leaves in each lane.
use Rattle.std.proofs.Common.{◌≡◌, ℕ, ◌+◌, ◌-◌, ◌%◌, ◌^◌, ◌<◌, ◌≤◌, List, Bool, false, cond, length, get_or, replicate, min, sym, ap, ◌∙◌, arith, bit_and}
use Rattle.std.specs.Prelude.{nat_lt}
use Rattle.std.specs.Simd.Lanes.{zip2, sel_l}
use Rattle.std.proofs.lemmas.Simd.{length-zip2, get_or-zip2, get_or-replicate, length-replicate, get_or-sel_l}
use Rattle.std.proofs.lemmas.Nat.{and_mask}

pub two_at : (f : ℕ → ℕ → ℕ) (n : ℕ) (a b : List ℕ) (k : ℕ) → length a ≡ n → length b ≡ n → k < n →
    get_or (zip2 f a b) k 0 ≡ f (get_or a k 0) (get_or b k 0)
two_at f n a b k p q h = get_or-zip2 f a b k 0 0 0 (omega arith) (omega arith)

pub splat_at : (f : ℕ → ℕ → ℕ) (n : ℕ) (a : List ℕ) (x k : ℕ) → length a ≡ n → k < n → get_or (zip2 f a (replicate n x)) k 0 ≡ f (get_or a k 0) x
splat_at f n a x k p h = two_at f n a (replicate n x) k p (length-replicate n x) h ∙ ap (f (get_or a k 0)) (get_or-replicate n k x 0 h)

pub masked_at : (m n : ℕ) (a : List ℕ) (k : ℕ) → length a ≡ n → k < n →
    get_or (zip2 bit_and a (replicate n (2 ^ m - 1))) k 0 ≡ get_or a k 0 % 2 ^ m
masked_at m n a k p h = splat_at bit_and n a (2 ^ m - 1) k p h ∙ and_mask (get_or a k 0) m

lesser_is : (x y : ℕ) → cond (nat_lt x y) x y ≡ min x y
lesser_is x y = grind arith

-- the lesser by the masks of a comparison
pub lesser_at : (n : ℕ) (a b : List ℕ) (masks : List Bool) (k : ℕ) → masks ≡ zip2 nat_lt a b → length a ≡ n → length b ≡ n → k < n →
    get_or (sel_l masks a b) k 0 ≡ min (get_or a k 0) (get_or b k 0)
lesser_at n a b masks k compared p q h =
    let t : ℕ → ℕ → Bool = nat_lt in
    ap (λ ms. get_or (sel_l ms a b) k 0) compared
    ∙ get_or-sel_l (zip2 t a b) a b k 0 (omega (arith, length-zip2 t a b (p ∙ sym q))) (omega arith) (omega arith)
    ∙ ap (λ c. cond c (get_or a k 0) (get_or b k 0)) (get_or-zip2 t a b k 0 0 false (omega arith) (omega arith))
    ∙ lesser_is (get_or a k 0) (get_or b k 0)

pub less_at : (n : ℕ) (a b : List ℕ) (k : ℕ) → length a ≡ n → length b ≡ n → k < n → get_or b k 0 ≤ get_or a k 0 → get_or a k 0 < 4294967296 →
    get_or (zip2 (λ x y. (x + (4294967296 - y)) % 4294967296) a b) k 0 ≡ get_or a k 0 - get_or b k 0
less_at n a b k p q h le fits = two_at (λ x y. (x + (4294967296 - y)) % 4294967296) n a b k p q h ∙ omega arith
