-- Lists of objects, and of the objects of locals.
use Rattle.std.proofs.Common.{◌≡◌, ◌≢◌, ℕ, zero, suc, ◌<◌, ◌≤◌, ◌⊎◌, inl, inr, true, false, List, [], ◌∷◌, ◌++◌, length, Option, Some, None, refl, sym, ap, ◌∙◌, subst, arith}
use Rattle.std.specs.Prelude.{get_or, set, slice_get, replicate}
use Rattle.std.specs.Option.{option_flatten}
use Rattle.std.proofs.lemmas.List.{get_or-set_same, get_or-set_other, length-set, get_or_past, get_or_append_left}
use Rattle.std.proofs.Math.Seq.{get_or-append_seam}
use Rattle.obj_mem.specs.declared.cell.Cell.TheVariants.{Unwritten}
use Rattle.obj_mem.specs.Objects.{ObjectT, ended, object_at, end_from}
use Rattle.obj_mem.specs.Stores.{local_object, end_local}
use Rattle.asm_laws.proofs.Stepping.{same_or_not}
use Rattle.asm_laws.specs.Holds.{Lives}

pub below_or_not : (a b : ℕ) → (a < b) ⊎ (b ≤ a)
below_or_not a b = grind arith

pub lives_below : (os : List ObjectT) (o : ℕ) → Lives os o → o < length os
lives_below os o l = elim (below_or_not o (length os)) [
  | inl b ↦ b
  | inr b ↦ let e : false ≡ true = sym (ap (λ x. x.lives) (get_or_past os o ended b)) ∙ l in absurd (cc)
]

pub object_same : (os : List ObjectT) (o p : ℕ) (y : ObjectT) → p ≡ o → o < length os → object_at (set os o y) p ≡ y
object_same os o p y e lt = ap (object_at (set os o y)) e ∙ get_or-set_same os o y ended lt

pub object_other : (os : List ObjectT) (o p : ℕ) (y : ObjectT) → p ≢ o → object_at (set os o y) p ≡ object_at os p
object_other os o p y n = get_or-set_other os o p y ended n

pub object_old : (os : List ObjectT) (x : ObjectT) (o : ℕ) → o < length os → object_at (os ++ x ∷ []) o ≡ object_at os o
object_old os x o lt = get_or_append_left os (x ∷ []) ended o lt

pub object_new : (os : List ObjectT) (x : ObjectT) (o : ℕ) → o ≡ length os → object_at (os ++ x ∷ []) o ≡ x
object_new os x o e = ap (object_at (os ++ x ∷ [])) e ∙ get_or-append_seam os x [] ended

pub length_end_from : (n : ℕ) (os : List ObjectT) → length (end_from n os) ≡ length os
length_end_from n [] = refl
length_end_from zero (x ∷ os) = ap suc (length_end_from zero os)
length_end_from (suc n) (x ∷ os) = ap suc (length_end_from n os)

-- what lives on is older, and is as it was
pub end_from_lives : (n : ℕ) (os : List ObjectT) (o : ℕ) → Lives (end_from n os) o → (o < n) × (object_at (end_from n os) o ≡ object_at os o)
end_from_lives n [] o h = absurd (cc)
end_from_lives zero (x ∷ os) zero h = absurd (cc)
end_from_lives zero (x ∷ os) (suc o) h = let r = end_from_lives zero os o h in absurd (omega (arith, r.0))
end_from_lives (suc n) (x ∷ os) zero h = (omega arith, refl)
end_from_lives (suc n) (x ∷ os) (suc o) h = let r = end_from_lives n os o h in (omega (arith, r.0), r.1)

pub length_end_local : (q : Option ℕ) (os : List ObjectT) → length (end_local q os) ≡ length os
length_end_local None os = refl
length_end_local (Some o) os = length-set os o ended

pub end_local_lives : (q : Option ℕ) (os : List ObjectT) (p : ℕ) → Lives (end_local q os) p → (object_at (end_local q os) p ≡ object_at os p) × (q ≢ Some p)
end_local_lives None os p l = (refl, λ e. cc)
end_local_lives (Some o) os p l = elim (same_or_not p o) [
  | inl x ↦
      let b = lives_below (set os o ended) p l in
      let e : false ≡ true = sym (ap (λ y. y.lives) (object_same os o p ended x.0 (omega (arith, b, length-set os o ended, x.0)))) ∙ l in
      absurd (cc)
  | inr x ↦ (object_other os o p ended x.0, λ e. x.0 (cc))
]

-- an object with cells lives
pub end_local_living : (q : Option ℕ) (os : List ObjectT) (p i : ℕ) → ((o j : ℕ) → j < length (object_at os o).cells → Lives os o) → i < length (object_at (end_local q os) p).cells → Lives (end_local q os) p
end_local_living None os p i h lt = h p i lt
end_local_living (Some o) os p i h lt = elim (same_or_not p o) [
  | inl x ↦ elim (below_or_not o (length os)) [
    | inl b ↦ let e = ap (λ y. length y.cells) (object_same os o p ended x.0 b) in absurd (omega (arith, lt, e))
    | inr b ↦ let e = ap (λ y. length y.cells) (get_or_past (set os o ended) p ended (omega (arith, b, x.0, length-set os o ended))) in absurd (omega (arith, lt, e))
  ]
  | inr x ↦ let e = object_other os o p ended x.0 in ap (λ y. y.lives) e ∙ h p i (subst (λ y. i < length y.cells) e lt)
]

pub end_from_living : (n : ℕ) (os : List ObjectT) (p i : ℕ) → ((o j : ℕ) → j < length (object_at os o).cells → Lives os o) → i < length (object_at (end_from n os) p).cells → Lives (end_from n os) p
end_from_living n [] p i h lt = h p i lt
end_from_living zero (x ∷ os) zero i h lt = absurd (omega (arith, lt))
end_from_living zero (x ∷ os) (suc p) i h lt = end_from_living zero os p i (λ o j l. h (suc o) j l) lt
end_from_living (suc n) (x ∷ os) zero i h lt = h zero i lt
end_from_living (suc n) (x ∷ os) (suc p) i h lt = end_from_living n os p i (λ o j l. h (suc o) j l) lt

-- ---- the objects of locals

pub slice_set_same : (xs : List (Option ℕ)) (k : ℕ) (x : Option ℕ) → k < length xs → slice_get (set xs k x) k ≡ Some x
slice_set_same [] k x lt = absurd (omega arith)
slice_set_same (y ∷ xs) zero x lt = refl
slice_set_same (y ∷ xs) (suc k) x lt = slice_set_same xs k x (omega arith)

pub slice_set_other : (xs : List (Option ℕ)) (k j : ℕ) (x : Option ℕ) → j ≢ k → slice_get (set xs k x) j ≡ slice_get xs j
slice_set_other [] k j x n = refl
slice_set_other (y ∷ xs) zero zero x n = absurd (n refl)
slice_set_other (y ∷ xs) zero (suc j) x n = refl
slice_set_other (y ∷ xs) (suc k) zero x n = refl
slice_set_other (y ∷ xs) (suc k) (suc j) x n = slice_set_other xs k j x (λ e. n (ap suc e))

pub local_same : (xs : List (Option ℕ)) (k j o : ℕ) → j ≡ k → k < length xs → local_object (set xs k (Some o)) j ≡ Some o
local_same xs k j o e lt = ap (λ i. option_flatten (slice_get (set xs k (Some o)) i)) e ∙ ap option_flatten (slice_set_same xs k (Some o) lt)

pub local_other : (xs : List (Option ℕ)) (k j o : ℕ) → j ≢ k → local_object (set xs k (Some o)) j ≡ local_object xs j
local_other xs k j o n = ap option_flatten (slice_set_other xs k j (Some o) n)

pub nones : (n k o : ℕ) → local_object (replicate n None) k ≡ Some o → ⊥
nones zero k o e = cc
nones (suc n) zero o e = cc
nones (suc n) (suc k) o e = nones n k o e

pub unwritten_cells : (n i : ℕ) → get_or (replicate n Unwritten) i Unwritten ≡ Unwritten
unwritten_cells zero i = refl
unwritten_cells (suc n) zero = refl
unwritten_cells (suc n) (suc i) = unwritten_cells n i
