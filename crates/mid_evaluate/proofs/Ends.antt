-- Objects at the opening, and those that are kept at the end.
use Rattle.std.proofs.Common.{◌≡◌, ℕ, zero, suc, ◌+◌, ◌<◌, ◌≤◌, arith, min, List, [], ◌∷◌, ◌++◌, map, take, length, refl, sym, ap, ◌∙◌, subst, append_assoc, inl, inr}
use Rattle.std.specs.Prelude.{Option, Some, None, get_or, slice_get}
use Rattle.std.proofs.lemmas.Bool.{cases_lt}
use Rattle.std.proofs.Math.Nat.{min-eq_left, min-eq_right}
use Rattle.obj_mem.specs.Objects.{ObjectT, object_at, global_object, literal_object, card_object, opening_objects}
use Rattle.obj_mem.specs.Runs.{global_cells}

pub all_opened : (gs : List ℕ) (ls : List (List ℕ)) (card : Option (List ℕ)) (o a b c : List ObjectT) → o ≡ [] → a ≡ o ++ map global_object gs → b ≡ a ++ map literal_object ls → c ≡ b ++ card_object card ∷ [] → c ≡ opening_objects gs ls card
all_opened gs ls card o a b c eo ea eb ec =
    ec ∙ ap (λ l. l ++ card_object card ∷ []) (eb ∙ ap (λ l. l ++ map literal_object ls) (ea ∙ ap (λ l. l ++ map global_object gs) eo))
    ∙ append_assoc (map global_object gs) (map literal_object ls) (card_object card ∷ [])

one_kept : (os : List ObjectT) (k j : ℕ) → k < length os → j ≡ suc k → global_cells k os ++ (object_at os k).cells ∷ [] ≡ global_cells j os
one_kept [] k j h e = absurd (omega (arith, h))
one_kept (x ∷ xs) zero j h e = sym (ap (λ i. global_cells i (x ∷ xs)) e)
one_kept (x ∷ xs) (suc k) j h e = ap (λ l. x.cells ∷ l) (one_kept xs k (suc k) (omega (arith, h)) refl) ∙ sym (ap (λ i. global_cells i (x ∷ xs)) e)

pub one_more : (os : List ObjectT) (k : ℕ) → k < length os → global_cells k os ++ (object_at os k).cells ∷ [] ≡ global_cells (k + 1) os
one_more os k h = one_kept os k (k + 1) h (omega arith)

taken_all : (os : List ObjectT) (n : ℕ) → length os ≤ n → take n os ≡ os
taken_all [] zero h = refl
taken_all [] (suc n) h = refl
taken_all (x ∷ xs) zero h = absurd (omega (arith, h))
taken_all (x ∷ xs) (suc n) h = ap (λ l. x ∷ l) (taken_all xs n (omega (arith, h)))

pub all_kept : (os : List ObjectT) (n : ℕ) → global_cells (min n (length os)) os ≡ global_cells n os
all_kept os n = elim (cases_lt (length os) n) [
  | inl h ↦ ap (λ k. global_cells k os) (min-eq_right (omega (arith, h))) ∙ ap (map (λ (x : ObjectT). x.cells)) (taken_all os (length os) (omega arith) ∙ sym (taken_all os n (omega (arith, h))))
  | inr h ↦ ap (λ k. global_cells k os) (min-eq_left h)
]

-- ---- what stands in a list

pub none_there : {A : Type 0} (xs : List A) (k : ℕ) (d : A) → slice_get xs k ≡ None → get_or xs k d ≡ d
none_there [] k d e = refl
none_there (x ∷ xs) zero d e = absurd cc
none_there (x ∷ xs) (suc k) d e = none_there xs k d e

abbrev or_else : {A : Type 0} → A → Option A → A
or_else d None = d
or_else d (Some z) = z

pub one_there : {A : Type 0} (xs : List A) (k : ℕ) (d x : A) → slice_get xs k ≡ Some x → get_or xs k d ≡ x
one_there [] k d x e = absurd cc
one_there (y ∷ ys) zero d x e = ap (or_else d) e
one_there (y ∷ ys) (suc k) d x e = one_there ys k d x e
