-- One function after another.
use Rattle.std.proofs.Common.{◌≡◌, ℕ, zero, suc, ◌+◌, ◌<◌, add-one, inr, List, [], ◌∷◌, length, map, drop, get_or, slice_set, slice_index_or, refl, sym, ap, ◌∙◌, subst, arith}
use Rattle.mid_code.specs.declared.function.Function.{Function}
use Rattle.mid_code.specs.Code.{FunctionT}
use Rattle.mid_code.specs.Functions.{function}
use Rattle.mid_replace.specs.inner.Chosen.{IsReplacedBy, AllReplacedBy}
use Rattle.mid_replace.specs.inner.Tables.{HaveCounts}

pub all_stay : (fs : List (FunctionT ℕ)) → AllReplacedBy fs fs
all_stay [] = tt
all_stay (f ∷ fs) = (inr refl, all_stay fs)

abbrev tail : List (FunctionT ℕ) → List (FunctionT ℕ)
tail [] = []
tail (f ∷ fs) = fs

abbrev pub from : List (Function ℕ) → ℕ → List (FunctionT ℕ)
from fs i = map function (drop i fs)

cons_nil : (f : FunctionT ℕ) (fs : List (FunctionT ℕ)) → f ∷ fs ≡ [] → ⊥
cons_nil f fs e = cc

pub one_more : (xs ys : List (Function ℕ)) (i : ℕ) (z w : Function ℕ) → i < length ys → from ys i ≡ from xs i → AllReplacedBy (map function xs) (map function ys)
    → IsReplacedBy (function (slice_index_or ys i z)) (function w) → AllReplacedBy (map function xs) (map function (slice_set ys i w))
one_more xs [] i z w l e a b = absurd (omega (arith, l))
one_more [] (y ∷ ys) i z w l e a b = absurd a
one_more (x ∷ xs) (y ∷ ys) zero z w l e a b = (subst (λ f. IsReplacedBy f (function w)) (ap (λ fs. get_or fs 0 (function y)) e) b, a.1)
one_more (x ∷ xs) (y ∷ ys) (suc i) z w l e a b = (a.0, one_more xs ys i z w (omega (arith, l)) e a.1 b)

rest_counts : (ys : List (Function ℕ)) (i : ℕ) (w : Function ℕ) → i < length ys → HaveCounts (from ys i) → HaveCounts (from (slice_set ys i w) (suc i))
rest_counts [] i w l h = absurd (omega (arith, l))
rest_counts (y ∷ ys) zero w l h = h.1
rest_counts (y ∷ ys) (suc i) w l h = rest_counts ys i w (omega (arith, l)) h

rest_same : (xs ys : List (Function ℕ)) (i : ℕ) (w : Function ℕ) → i < length ys → from ys i ≡ from xs i → from (slice_set ys i w) (suc i) ≡ from xs (suc i)
rest_same xs [] i w l e = absurd (omega (arith, l))
rest_same [] (y ∷ ys) zero w l e = absurd (cons_nil (function y) (map function ys) e)
rest_same (x ∷ xs) (y ∷ ys) zero w l e = ap tail e
rest_same [] (y ∷ ys) (suc i) w l e = rest_same [] ys i w (omega (arith, l)) (e ∙ none_left i)
  where
    none_left : (i : ℕ) → from [] (suc i) ≡ from [] i
    none_left zero = refl
    none_left (suc i) = refl
rest_same (x ∷ xs) (y ∷ ys) (suc i) w l e = rest_same xs ys i w (omega (arith, l)) e

pub next_counts : (ys : List (Function ℕ)) (i : ℕ) (w : Function ℕ) → i < length ys → HaveCounts (from ys i) → HaveCounts (from (slice_set ys i w) (i + 1))
next_counts ys i w l h = subst (λ k. HaveCounts (from (slice_set ys i w) k)) (sym (add-one i)) (rest_counts ys i w l h)

pub next_same : (xs ys : List (Function ℕ)) (i : ℕ) (w : Function ℕ) → i < length ys → from ys i ≡ from xs i → from (slice_set ys i w) (i + 1) ≡ from xs (i + 1)
next_same xs ys i w l e = ap (λ k. from (slice_set ys i w) k) (add-one i) ∙ rest_same xs ys i w l e ∙ ap (from xs) (sym (add-one i))

-- they are as many
pub as_many : (xs ys : List (Function ℕ)) (i : ℕ) → AllReplacedBy (map function xs) (map function ys) → i < length xs → i < length ys
as_many [] ys i a l = absurd (omega (arith, l))
as_many (x ∷ xs) [] i a l = absurd a
as_many (x ∷ xs) (y ∷ ys) zero a l = omega arith
as_many (x ∷ xs) (y ∷ ys) (suc i) a l = let h = as_many xs ys i a.1 (omega (arith, l)) in omega (arith, h)
