-- Slots that are numbered anew stay apart.
use Rattle.std.proofs.Common.{◌≡◌, ℕ, zero, suc, ◌+◌, ◌<◌, ◌≤◌, ◌⊎◌, inl, inr, Bool, true, false, ◌||◌, cond, eqb, List, [], ◌∷◌, ◌++◌, length, refl, sym, ap, ◌∙◌, subst, arith}
use Rattle.std.proofs.lemmas.Bool.{eqb-true}
use Rattle.mid_code.specs.declared.placed.Where.{Where}
use Rattle.mid_code.specs.declared.placed.Where.TheVariants.{Reg, Slot}
use Rattle.mid_code.specs.Live.{is_among}
use Rattle.mid_code.specs.Safe.{place_of, IsSlot}
use Rattle.mid_code.specs.Choices.{with_slot, slots_from, slots_named, slot_count}
use Rattle.reg_frames.specs.inner.Placing.{index_in, renumbered, placing}
use Rattle.reg_frames.proofs.Moving.{true_false, or_right, among_first}

suc_same : (a b : ℕ) → suc a ≡ suc b → a ≡ b
suc_same a b e = omega (arith, e)

-- a number that is among others has a place of its own
pub index_same : (ns : List ℕ) (m n : ℕ) → is_among ns m ≡ true → index_in ns m ≡ index_in ns n → m ≡ n
index_same [] m n h e = absurd (true_false (sym h))
index_same (k ∷ ns) m n h e = go (λ a b. index_same ns m n a b) (eqb k m) (eqb k n) refl refl h e
  where
    go : (is_among ns m ≡ true → index_in ns m ≡ index_in ns n → m ≡ n) → (a b : Bool) → eqb k m ≡ a → eqb k n ≡ b → (a || is_among ns m) ≡ true → index_in (k ∷ ns) m ≡ index_in (k ∷ ns) n → m ≡ n
    go r true true f g h e = sym (eqb-true k m f) ∙ eqb-true k n g
    go r true false f g h e =
        let z : 0 ≡ suc (index_in ns n) = sym (ap (λ b. cond b 0 (suc (index_in ns m))) f) ∙ e ∙ ap (λ b. cond b 0 (suc (index_in ns n))) g in absurd (omega (arith, z))
    go r false true f g h e =
        let z : suc (index_in ns m) ≡ 0 = sym (ap (λ b. cond b 0 (suc (index_in ns m))) f) ∙ e ∙ ap (λ b. cond b 0 (suc (index_in ns n))) g in absurd (omega (arith, z))
    go r false false f g h e =
        let z : suc (index_in ns m) ≡ suc (index_in ns n) = sym (ap (λ b. cond b 0 (suc (index_in ns m))) f) ∙ e ∙ ap (λ b. cond b 0 (suc (index_in ns n))) g in r h (suc_same _ _ z)

pub index_below : (ns : List ℕ) (m : ℕ) → is_among ns m ≡ true → index_in ns m < length ns
index_below [] m h = absurd (true_false (sym h))
index_below (k ∷ ns) m h = go (index_below ns m) (eqb k m) refl h
  where
    go : (is_among ns m ≡ true → index_in ns m < length ns) → (a : Bool) → eqb k m ≡ a → (a || is_among ns m) ≡ true → index_in (k ∷ ns) m < suc (length ns)
    go r true f h = subst (λ b. cond b 0 (suc (index_in ns m)) < suc (length ns)) (sym f) (omega arith)
    go r false f h = let q = r h in subst (λ b. cond b 0 (suc (index_in ns m)) < suc (length ns)) (sym f) (omega (arith, q))

-- ---- the slots of a choice

among_left : (ns ms : List ℕ) (m : ℕ) → is_among ns m ≡ true → is_among (ns ++ ms) m ≡ true
among_left [] ms m h = absurd (true_false (sym h))
among_left (k ∷ ns) ms m h = go (among_left ns ms m) (eqb k m) h
  where
    go : (is_among ns m ≡ true → is_among (ns ++ ms) m ≡ true) → (b : Bool) → (b || is_among ns m) ≡ true → (b || is_among (ns ++ ms) m) ≡ true
    go r true e = refl
    go r false e = r e

among_end : (ns : List ℕ) (m : ℕ) → is_among (ns ++ m ∷ []) m ≡ true
among_end [] m = among_first m []
among_end (k ∷ ns) m = or_right (eqb k m) (is_among (ns ++ m ∷ []) m) (among_end ns m)

with_more : (w : Where) (ns : List ℕ) (m : ℕ) → is_among ns m ≡ true → is_among (with_slot ns w) m ≡ true
with_more (Reg k) ns m h = h
with_more (Slot k) ns m h = go (is_among ns k)
  where
    go : (b : Bool) → is_among (cond b ns (ns ++ k ∷ [])) m ≡ true
    go true = h
    go false = among_left ns (k ∷ []) m h

pub with_here : (m : ℕ) (ns : List ℕ) → is_among (with_slot ns (Slot m)) m ≡ true
with_here m ns = go (is_among ns m) refl
  where
    go : (b : Bool) → is_among ns m ≡ b → is_among (cond b ns (ns ++ m ∷ [])) m ≡ true
    go true e = e
    go false e = among_end ns m

from_more : (ws : List Where) (ns : List ℕ) (m : ℕ) → is_among ns m ≡ true → is_among (slots_from ns ws) m ≡ true
from_more [] ns m h = h
from_more (w ∷ ws) ns m h = from_more ws (with_slot ns w) m (with_more w ns m h)

slot_same : (a b : ℕ) → Slot a ≡ Slot b → a ≡ b
slot_same a b e = cc

reg_same : (a b : ℕ) → Reg a ≡ Reg b → a ≡ b
reg_same a b e = cc

-- the slot of a temporary of the choice is named
slot_from : (ns : List ℕ) (ws : List Where) (a m : ℕ) → a < length ws → place_of ws a ≡ Slot m → is_among (slots_from ns ws) m ≡ true
slot_from ns [] a m lt e = absurd (omega (arith, lt))
slot_from ns (w ∷ ws) zero m lt e = from_more ws (with_slot ns w) m (subst (λ z. is_among (with_slot ns z) m ≡ true) (sym e) (with_here m ns))
slot_from ns (w ∷ ws) (suc a) m lt e = slot_from (with_slot ns w) ws a m (omega (arith, lt)) e

pub slot_named : (ws : List Where) (a m : ℕ) → a < length ws → place_of ws a ≡ Slot m → is_among (slots_named ws) m ≡ true
slot_named ws a m lt e = slot_from [] ws a m lt e

-- any temporary's is named, or has number 0
known_from : (ns : List ℕ) (ws : List Where) (a m : ℕ) → place_of ws a ≡ Slot m → (is_among (slots_from ns ws) m ≡ true) ⊎ (m ≡ 0)
known_from ns [] a m e = inr (sym (slot_same 0 m e))
known_from ns (w ∷ ws) zero m e = inl (from_more ws (with_slot ns w) m (subst (λ z. is_among (with_slot ns z) m ≡ true) (sym e) (with_here m ns)))
known_from ns (w ∷ ws) (suc a) m e = known_from (with_slot ns w) ws a m e

slot_known : (ws : List Where) (a m : ℕ) → place_of ws a ≡ Slot m → (is_among (slots_named ws) m ≡ true) ⊎ (m ≡ 0)
slot_known ws a m e = known_from [] ws a m e

-- there are at most as many as places
pub with_count : (w : Where) (ns : List ℕ) → length (with_slot ns w) ≤ suc (length ns)
with_count (Reg n) ns = omega arith
with_count (Slot n) ns = go (is_among ns n)
  where
    go : (b : Bool) → length (cond b ns (ns ++ n ∷ [])) ≤ suc (length ns)
    go true = omega arith
    go false = let e : length (ns ++ n ∷ []) ≡ length ns + 1 = one_more ns in omega (arith, e)
      where
        one_more : (ms : List ℕ) → length (ms ++ n ∷ []) ≡ length ms + 1
        one_more [] = refl
        one_more (m ∷ ms) = let h = one_more ms in omega (arith, h)

from_count : (ns : List ℕ) (ws : List Where) → length (slots_from ns ws) ≤ length ns + length ws
from_count ns [] = omega arith
from_count ns (w ∷ ws) = let a = from_count (with_slot ns w) ws in let b = with_count w ns in omega (arith, a, b)

pub named_count : (ws : List Where) → slot_count ws ≤ length ws
named_count ws = let h = from_count [] ws in omega (arith, h)

-- places that are one after all were numbered anew were one before
pub placing_one : (ws : List Where) (a b : ℕ) → placing ws a ≡ placing ws b → place_of ws a ≡ place_of ws b
placing_one ws a b e = go (place_of ws a) (place_of ws b) refl refl e
  where
    ns : List ℕ
    ns = slots_named ws

    slots : (m n : ℕ) → (is_among (slots_named ws) m ≡ true) ⊎ (m ≡ 0) → (is_among (slots_named ws) n ≡ true) ⊎ (n ≡ 0) → index_in (slots_named ws) m ≡ index_in (slots_named ws) n → m ≡ n
    slots m n (inl h) g e = index_same (slots_named ws) m n h e
    slots m n (inr h) (inl g) e = sym (index_same (slots_named ws) n m g (sym e))
    slots m n (inr h) (inr g) e = h ∙ sym g

    go : (p q : Where) → place_of ws a ≡ p → place_of ws b ≡ q → renumbered (slots_named ws) (place_of ws a) ≡ renumbered (slots_named ws) (place_of ws b) → place_of ws a ≡ place_of ws b
    go (Reg m) (Reg n) f g h = f ∙ ap Reg (reg_same m n (sym (ap (renumbered (slots_named ws)) f) ∙ h ∙ ap (renumbered (slots_named ws)) g)) ∙ sym g
    go (Slot m) (Slot n) f g h = f ∙ ap Slot (slots m n (slot_known ws a m f) (slot_known ws b n g) (slot_same _ _ (sym (ap (renumbered (slots_named ws)) f) ∙ h ∙ ap (renumbered (slots_named ws)) g))) ∙ sym g
    go (Reg m) (Slot n) f g h = absurd (no (sym (ap (renumbered (slots_named ws)) f) ∙ h ∙ ap (renumbered (slots_named ws)) g))
      where
        no : Reg m ≡ Slot (index_in (slots_named ws) n) → ⊥
        no z = cc
    go (Slot m) (Reg n) f g h = absurd (no (sym (ap (renumbered (slots_named ws)) f) ∙ h ∙ ap (renumbered (slots_named ws)) g))
      where
        no : Slot (index_in (slots_named ws) m) ≡ Reg n → ⊥
        no z = cc

pub placing_slot : (ws : List Where) (a : ℕ) → IsSlot (place_of ws a) → IsSlot (placing ws a)
placing_slot ws a = go (place_of ws a)
  where
    go : (p : Where) → IsSlot p → IsSlot (renumbered (slots_named ws) p)
    go (Reg m) h = h
    go (Slot m) h = tt
