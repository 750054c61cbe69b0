-- Places as numbers.
use Rattle.std.proofs.Common.{◌≡◌, ℕ, zero, suc, ◌+◌, ◌<◌, ◌≤◌, ◌⊎◌, inl, inr, true, false, cond, List, [], ◌∷◌, length, map, drop, refl, sym, subst, arith}
use Rattle.std.specs.Prelude.{bytes_eq, slice_index_or}
use Rattle.asm_items.specs.declared.item.AsmItem.{AsmItem}
use Rattle.asm_items.specs.declared.item.AsmItem.TheVariants.{Label, Op, Integer, Pointer}
use Rattle.asm_laws.specs.Numbers.{behind}
use Rattle.cycle_bound.specs.declared.node.Node.TheVariants as node
use Rattle.cycle_bound.specs.inner.Places.{place_of, node_of, nodes_of}
use Rattle.cycle_bound.specs.inner.Settled.{node_at}

pub placed : (items : List AsmItem) (l : List ℕ) → drop (place_of items l) items ≡ behind items l
unfolding place_of
placed [] l = refl
placed (Label name ∷ items) l = elim (bytes_eq l name) as (λ b. drop (cond b 1 (suc (place_of items l))) (Label name ∷ items) ≡ cond b items (behind items l)) [
  | true ↦ refl
  | false ↦ placed items l
]
placed (Op i ∷ items) l = placed items l
placed (Integer w ∷ items) l = placed items l
placed (Pointer name ∷ items) l = placed items l

pub within : (items : List AsmItem) (l : List ℕ) → place_of items l ≤ length items
unfolding place_of
within [] l = omega arith
within (Label name ∷ items) l = elim (bytes_eq l name) as (λ b. cond b 1 (suc (place_of items l)) ≤ suc (length items)) [
  | true ↦ omega arith
  | false ↦ (let r = within items l in omega (arith, r))
]
within (Op i ∷ items) l = let r = within items l in omega (arith, r)
within (Integer w ∷ items) l = let r = within items l in omega (arith, r)
within (Pointer name ∷ items) l = let r = within items l in omega (arith, r)

-- what stands at a place: an item with its node, or nothing
pub data At (all : List AsmItem) (i : ℕ) : Type 0 where
  stands : (x : AsmItem) (is : List AsmItem) → drop i all ≡ x ∷ is → drop (i + 1) all ≡ is → i < length all → node_at (nodes_of all) i ≡ node_of (place_of all) x → At all i
  ended : drop i all ≡ [] → node_at (nodes_of all) i ≡ node.Other → At all i

-- by the rest of the items from some place on
found : (place : List ℕ → ℕ) (xs : List AsmItem) (i : ℕ) → ((x : AsmItem) × (is : List AsmItem) × (drop i xs ≡ x ∷ is) × (drop (suc i) xs ≡ is) × (i < length xs) × (slice_index_or (map (node_of place) xs) i node.Other ≡ node_of place x)) ⊎ ((drop i xs ≡ []) × (slice_index_or (map (node_of place) xs) i node.Other ≡ node.Other))
found place [] zero = inr (refl, refl)
found place [] (suc i) = inr (refl, refl)
found place (x ∷ xs) zero = inl (x, xs, refl, refl, omega arith, refl)
found place (x ∷ xs) (suc i) = elim (found place xs i) [
  | inl f ↦ inl (f.0, f.1, f.2, f.3, (let lt = f.4 in omega (arith, lt)), f.5)
  | inr f ↦ inr f
]

pub at : (all : List AsmItem) (i : ℕ) → At all i
at all i = elim (found (place_of all) all i) [
  | inl f ↦ stands f.0 f.1 f.2 (let e : i + 1 ≡ suc i = omega arith in subst (λ j. drop j all ≡ f.1) (sym e) f.3) f.4 f.5
  | inr f ↦ ended f.0 f.1
]
