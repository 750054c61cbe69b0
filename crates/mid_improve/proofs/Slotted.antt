-- The slots of temporaries as a list.
use Rattle.std.proofs.Common.{◌≡◌, ◌≢◌, ℕ, zero, suc, ◌<◌, arith, Bool, true, false, cond, eqb, List, [], ◌∷◌, ◌++◌, length, get_or, set, refl, sym, ap, ◌∙◌}
use Rattle.std.proofs.lemmas.Bool.{eqb-true, eqb-false}
use Rattle.mid_improve.specs.declared.slots.Slot.{Slot}
use Rattle.mid_improve.specs.inner.Slots.{no_slot, slot_at, with_slot}

more_at : (ss : List Slot) (q : ℕ) → get_or (ss ++ no_slot ∷ []) q no_slot ≡ get_or ss q no_slot
more_at [] zero = refl
more_at [] (suc q) = refl
more_at (s ∷ ss) zero = refl
more_at (s ∷ ss) (suc q) = more_at ss q

pub one_more : (ss : List Slot) → slot_at (ss ++ no_slot ∷ []) ≡ slot_at ss
unfolding slot_at
one_more ss = λ i q. more_at ss q i

set_same : {A : Type 0} (xs : List A) (r : ℕ) (v d : A) → r < length xs → get_or (set xs r v) r d ≡ v
set_same [] r v d h = absurd (omega (arith, h))
set_same (x ∷ xs) zero v d h = refl
set_same (x ∷ xs) (suc r) v d h = set_same xs r v d (omega (arith, h))

set_other : {A : Type 0} (xs : List A) (r q : ℕ) (v d : A) → q ≢ r → get_or (set xs r v) q d ≡ get_or xs q d
set_other [] r q v d n = refl
set_other (x ∷ xs) zero zero v d n = absurd (n refl)
set_other (x ∷ xs) zero (suc q) v d n = refl
set_other (x ∷ xs) (suc r) zero v d n = refl
set_other (x ∷ xs) (suc r) (suc q) v d n = set_other xs r q v d (λ e. n (ap suc e))

get_set : {A : Type 0} (xs : List A) (r q : ℕ) (v d : A) → r < length xs → get_or (set xs r v) q d ≡ cond (eqb r q) v (get_or xs q d)
get_set {A} xs r q v d h = turn (eqb r q) refl
  where
    turn : (b : Bool) → eqb r q ≡ b → get_or (set xs r v) q d ≡ cond (eqb r q) v (get_or xs q d)
    turn true e = ap (λ z. get_or (set xs r v) z d) (sym (eqb-true r q e)) ∙ set_same xs r v d h ∙ sym (ap (λ b. cond b v (get_or xs q d)) e)
    turn false e = set_other xs r q v d (λ f. eqb-false r q e (sym f)) ∙ sym (ap (λ b. cond b v (get_or xs q d)) e)

put_there : (ss : List Slot) (t : ℕ) (s : Slot) → t < length ss → slot_at (set ss t s) ≡ with_slot (slot_at ss) t s
unfolding slot_at
put_there ss t s h = λ i q. get_set ss t q s no_slot h i

pub put_after : (old mid new : List Slot) (t : ℕ) (s : Slot) → slot_at mid ≡ slot_at old → t < length mid → new ≡ set mid t s → slot_at new ≡ with_slot (slot_at old) t s
put_after old mid new t s e h n = ap slot_at n ∙ put_there mid t s h ∙ ap (λ at. with_slot at t s) e

none_at : (q : ℕ) → get_or [] q no_slot ≡ no_slot
none_at zero = refl
none_at (suc q) = refl

pub none_there : (ss : List Slot) → ss ≡ [] → slot_at ss ≡ (λ q. no_slot)
unfolding slot_at
none_there ss e = (λ i q. get_or (e i) q no_slot) ∙ (λ i q. none_at q i)
