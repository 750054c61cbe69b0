-- The numbers of the functions with a body: each is that of one name.
use Rattle.std.proofs.Common.{◌≡◌, ◌⊎◌, ℕ, suc, ◌+◌, ◌<◌, true, false, cond, List, [], ◌∷◌, ◌++◌, map, Option, Some, None, is_some, sym, ◌∙◌, subst, arith, inl, inr}
use Rattle.c_tree.specs.Tree.{ItemT}
use Rattle.c_exprs.specs.Env.{Text, find}
use Rattle.c_check.specs.Reading.{numbered, body_name, bodies_with, bodies_of}
use Rattle.c_facts.proofs.Finds.{found_or_new}

-- the numbers are below this one, and each is that of one name
pub record AreNumbered (b : List (Text × ℕ)) (k : ℕ) : Type 0 where
  pub below : (n : Text) (j : ℕ) → find n b ≡ Some j → j < k
  pub once : (m n : Text) (j : ℕ) → find m b ≡ Some j → find n b ≡ Some j → m ≡ n

none_numbered : AreNumbered [] 0
none_numbered = record { below = λ n j h. absurd cc; once = λ m n j h k. absurd cc }

more_room : (b : List (Text × ℕ)) (k : ℕ) → AreNumbered b k → AreNumbered b (k + 1)
more_room b k a = record { below = λ n j h. omega (arith, a.below n j h); once = a.once }

one_below : (b : List (Text × ℕ)) (k : ℕ) → AreNumbered b k → (m n : Text) (j : ℕ) → (find n b ≡ Some j) ⊎ ((n ≡ m) × (k ≡ j)) → j < k + 1
one_below b k a m n j (inl h) = omega (arith, a.below n j h)
one_below b k a m n j (inr h) = omega (arith, h.1)

one_once : (b : List (Text × ℕ)) (k : ℕ) → AreNumbered b k → (l m n : Text) (j : ℕ) → (find m b ≡ Some j) ⊎ ((m ≡ l) × (k ≡ j)) → (find n b ≡ Some j) ⊎ ((n ≡ l) × (k ≡ j)) → m ≡ n
one_once b k a l m n j (inl h) (inl g) = a.once m n j h g
one_once b k a l m n j (inl h) (inr g) = absurd (omega (arith, a.below m j h, g.1))
one_once b k a l m n j (inr h) (inl g) = absurd (omega (arith, a.below n j g, h.1))
one_once b k a l m n j (inr h) (inr g) = h.0 ∙ sym g.0

one_more : (b : List (Text × ℕ)) (k : ℕ) (m : Text) → AreNumbered b k → AreNumbered (b ++ (m, k) ∷ []) (k + 1)
one_more b k m a = record {
  below = λ n j h. one_below b k a m n j (found_or_new n m b k j h);
  once = λ l n j h g. one_once b k a m l n j (found_or_new l m b k j h) (found_or_new n m b k j g);
}

next_numbered : (b : List (Text × ℕ)) (k : ℕ) (m : Text) → AreNumbered b k → AreNumbered (numbered m k b) (k + 1)
next_numbered b k m a = elim (is_some (find m b)) as (λ t. AreNumbered (cond t b (b ++ (m, k) ∷ [])) (k + 1)) [ true ↦ more_room b k a | false ↦ one_more b k m a ]

-- how many of these items have a body
abbrev pub body_count : List (Option Text) → ℕ
body_count [] = 0
body_count (None ∷ names) = body_count names
body_count (Some n ∷ names) = suc (body_count names)

all_numbered : (b : List (Text × ℕ)) (k : ℕ) (names : List (Option Text)) → AreNumbered b k → AreNumbered (bodies_with b k names) (k + body_count names)
all_numbered b k [] a = subst (λ n. AreNumbered b n) (same k) a
  where
    same : (n : ℕ) → n ≡ n + 0
    same n = omega arith
all_numbered b k (None ∷ names) a = all_numbered b k names a
all_numbered b k (Some n ∷ names) a = subst (λ j. AreNumbered (bodies_with (numbered n k b) (k + 1) names) j) (same k (body_count names)) (all_numbered (numbered n k b) (k + 1) names (next_numbered b k n a))
  where
    same : (n j : ℕ) → n + 1 + j ≡ n + suc j
    same n j = omega arith

pub bodies_numbered : (all : List ItemT) → AreNumbered (bodies_of all) (body_count (map body_name all))
bodies_numbered all = subst (λ j. AreNumbered (bodies_of all) j) (same (body_count (map body_name all))) (all_numbered [] 0 (map body_name all) none_numbered)
  where
    same : (n : ℕ) → 0 + n ≡ n
    same n = omega arith
