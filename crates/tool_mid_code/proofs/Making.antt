-- Made-up code is mid code.
use Rattle.std.specs.Bool.{OnTrue}
use Rattle.std.proofs.Common.{◌≡◌, Bool, true, false, ℕ, suc, ◌+◌, ◌<◌, ◌≤◌, List, [], ◌∷◌, length, get_or, sum, refl, ◌∙◌, arith}
use Rattle.std.specs.List.{fold}
use Rattle.mid_code.specs.Code.{FunctionT, CodeT}
use Rattle.mid_code.specs.Invariants.{AllOf, DifferFrom, AreDifferent, IsFunction, IsTemporary}
use Rattle.tool_mid_code.specs.Fine.{Fine}

from_differ : (k n : ℕ) (ps : List ℕ) → k < n → ((i d : ℕ) → i < length ps → get_or ps i d ≡ n + i) → DifferFrom k ps
from_differ k n [] l h = tt
from_differ k n (p ∷ ps) l h = ((λ e. (let q = h 0 0 (omega arith) in omega (arith, e, l, q))), from_differ k (suc n) ps (omega (arith, l)) (λ i d m. h (suc i) d (omega (arith, m)) ∙ omega arith))

-- parameters that are numbered in their order
pub numbered_differ : (n : ℕ) (ps : List ℕ) → ((i d : ℕ) → i < length ps → get_or ps i d ≡ n + i) → AreDifferent ps
numbered_differ n [] h = tt
numbered_differ n (p ∷ ps) h = (from_differ p (suc n) ps (let q = h 0 0 (omega arith) in omega (arith, q)) (λ i d m. h (suc i) d (omega (arith, m)) ∙ omega arith), numbered_differ (suc n) ps (λ i d m. h (suc i) d (omega (arith, m)) ∙ omega arith))

pub numbered_below : (n t : ℕ) (ps : List ℕ) → ((i d : ℕ) → i < length ps → get_or ps i d ≡ n + i) → n + length ps ≤ t → AllOf (λ p. p < t) ps
numbered_below n t [] h l = tt
numbered_below n t (p ∷ ps) h l = ((let q = h 0 0 (omega arith) in omega (arith, l, q)), numbered_below (suc n) t ps (λ i d m. h (suc i) d (omega (arith, m)) ∙ omega arith) (omega (arith, l)))

-- locals of one word
pub ones_sizes : (ls : List ℕ) → ((i d : ℕ) → i < length ls → get_or ls i d ≡ 1) → AllOf (λ n. 1 ≤ n) ls
ones_sizes [] h = tt
ones_sizes (l ∷ ls) h = ((let q = h 0 0 (omega arith) in omega (arith, q)), ones_sizes ls (λ i d m. h (suc i) d (omega (arith, m))))

sum_from : (a : ℕ) (ls : List ℕ) → fold (λ b x. b + x) a ls ≡ a + fold (λ b x. b + x) 0 ls
sum_from a [] = omega arith
sum_from a (l ∷ ls) = (let p = sum_from (a + l) ls in let q = sum_from (0 + l) ls in omega (arith, p, q))

pub ones_sum : (ls : List ℕ) → ((i d : ℕ) → i < length ls → get_or ls i d ≡ 1) → sum ls ≡ length ls
ones_sum [] h = refl
ones_sum (l ∷ ls) h = (let a = h 0 0 (omega arith) in let b = ones_sum ls (λ i d m. h (suc i) d (omega (arith, m))) in let c = sum_from (0 + l) ls in omega (arith, a, b, c))

pub is_function : (x : CodeT ℕ) (f : FunctionT ℕ) (b : Bool) → f.temps + length f.locals ≤ 1000000 → ((i d : ℕ) → i < length f.params → get_or f.params i d ≡ 0 + i) → ((i d : ℕ) → i < length f.locals → get_or f.locals i d ≡ 1) → length f.params ≤ f.temps → OnTrue b (Fine x f.temps (length f.locals) f.body) → OnTrue b (IsFunction IsTemporary x f)
is_function x f true few params locals l h = record {
  nodes = h.0;
  names = h.1;
  params_named = numbered_below 0 f.temps f.params params (omega (arith, l));
  params_differ = numbered_differ 0 f.params params;
  count = few;
  sizes = ones_sizes f.locals locals;
  words = (let a = ones_sum f.locals locals in omega (arith, a, few));
}
is_function x f false few params locals l h = tt
