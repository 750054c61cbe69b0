-- Places by what each temporary has: slots are each of one temporary.
use Rattle.std.proofs.Common.{◌≡◌, ℕ, zero, suc, ◌<◌, ◌≤◌, ◌⊎◌, inl, inr, List, [], ◌∷◌, length, Bool, true, false, Option, Some, None, refl, ap, sym, arith, true≢false}
use Rattle.mid_code.specs.declared.placed.Where.{Where}
use Rattle.mid_code.specs.declared.placed.Where.TheVariants.{Reg, Slot}
use Rattle.mid_code.specs.Safe.{place_of, IsSlot}
use Rattle.reg_choose.specs.inner.Handing.{got, numbered}

abbrev is_reg : Where → Bool
is_reg (Reg n) = true
is_reg (Slot n) = false

abbrev number : Where → ℕ
number (Reg n) = n
number (Slot n) = n

pub numbered_length : (n : ℕ) (os : List (Option ℕ)) → length (numbered n os) ≡ length os
numbered_length n [] = refl
numbered_length n (None ∷ os) = ap suc (numbered_length (suc n) os)
numbered_length n (Some r ∷ os) = ap suc (numbered_length n os)

pub numbered_reg : (n : ℕ) (os : List (Option ℕ)) (x r : ℕ) → got os x ≡ Some r → place_of (numbered n os) x ≡ Reg r
numbered_reg n [] x r e = absurd (cc)
numbered_reg n (None ∷ os) zero r e = absurd (cc)
numbered_reg n (None ∷ os) (suc x) r e = numbered_reg (suc n) os x r e
numbered_reg n (Some q ∷ os) zero r e = (let i : q ≡ r = cc in ap Reg i)
numbered_reg n (Some q ∷ os) (suc x) r e = numbered_reg n os x r e

pub reg_numbered : (n : ℕ) (os : List (Option ℕ)) (x r : ℕ) → place_of (numbered n os) x ≡ Reg r → got os x ≡ Some r
reg_numbered n [] x r e = absurd (true≢false (sym (ap is_reg e)))
reg_numbered n (None ∷ os) zero r e = absurd (true≢false (sym (ap is_reg e)))
reg_numbered n (None ∷ os) (suc x) r e = reg_numbered (suc n) os x r e
reg_numbered n (Some q ∷ os) zero r e = ap Some (ap number e)
reg_numbered n (Some q ∷ os) (suc x) r e = reg_numbered n os x r e

pub numbered_slot : (n : ℕ) (os : List (Option ℕ)) (x : ℕ) → got os x ≡ None → IsSlot (place_of (numbered n os) x)
numbered_slot n [] x e = tt
numbered_slot n (None ∷ os) zero e = tt
numbered_slot n (None ∷ os) (suc x) e = numbered_slot (suc n) os x e
numbered_slot n (Some q ∷ os) zero e = absurd (cc)
numbered_slot n (Some q ∷ os) (suc x) e = numbered_slot n os x e

-- slots are numbered from n on
numbered_from : (n : ℕ) (os : List (Option ℕ)) (x k : ℕ) → x < length os → place_of (numbered n os) x ≡ Slot k → n ≤ k
numbered_from n [] x k h e = absurd (omega (arith, h))
numbered_from n (None ∷ os) zero k h e = (let q = ap number e in omega (arith, q))
numbered_from n (None ∷ os) (suc x) k h e = (let q = numbered_from (suc n) os x k (omega (arith, h)) e in omega (arith, q))
numbered_from n (Some r ∷ os) zero k h e = absurd (true≢false (ap is_reg e))
numbered_from n (Some r ∷ os) (suc x) k h e = numbered_from n os x k (omega (arith, h)) e

abbrev pub Alike : List (Option ℕ) → ℕ → ℕ → Type 0
Alike os x y = (x ≡ y) ⊎ ((r : ℕ) × (got os x ≡ Some r) × (got os y ≡ Some r))

further : (o : Option ℕ) (os : List (Option ℕ)) (x y : ℕ) → Alike os x y → Alike (o ∷ os) (suc x) (suc y)
further o os x y a = elim a [ inl e ↦ inl (ap suc e) | inr h ↦ inr h ]

-- in one place stand only those that have one register
pub numbered_same : (n : ℕ) (os : List (Option ℕ)) (x y : ℕ) → x < length os → y < length os → place_of (numbered n os) x ≡ place_of (numbered n os) y → Alike os x y
numbered_same n [] x y h k e = absurd (omega (arith, h))
numbered_same n (None ∷ os) zero zero h k e = inl refl
numbered_same n (None ∷ os) zero (suc y) h k e = absurd (let q = numbered_from (suc n) os y n (omega (arith, k)) (sym e) in omega (arith, q))
numbered_same n (None ∷ os) (suc x) zero h k e = absurd (let q = numbered_from (suc n) os x n (omega (arith, h)) e in omega (arith, q))
numbered_same n (None ∷ os) (suc x) (suc y) h k e = further None os x y (numbered_same (suc n) os x y (omega (arith, h)) (omega (arith, k)) e)
numbered_same n (Some r ∷ os) zero zero h k e = inl refl
numbered_same n (Some r ∷ os) zero (suc y) h k e = inr (r, refl, reg_numbered n os y r (sym e))
numbered_same n (Some r ∷ os) (suc x) zero h k e = inr (r, reg_numbered n os x r e, refl)
numbered_same n (Some r ∷ os) (suc x) (suc y) h k e = further (Some r) os x y (numbered_same n os x y (omega (arith, h)) (omega (arith, k)) e)
