-- The cells of temporaries as a list.
use Rattle.std.proofs.Common.{◌≡◌, ◌≢◌, ℕ, zero, suc, ◌<◌, arith, Bool, true, false, cond, eqb, List, [], ◌∷◌, ◌++◌, length, get_or, set, refl, sym, ap, ◌∙◌}
use Rattle.std.proofs.lemmas.Bool.{eqb-true, eqb-false}
use Rattle.obj_mem.specs.declared.cell.Cell.{Cell}
use Rattle.obj_mem.specs.declared.cell.Cell.TheVariants.{Unwritten}
use Rattle.mid_code.specs.States.{put, received, temporaries}
use Rattle.mid_evaluate.specs.View.{held}

more_at : (cs : List Cell) (q : ℕ) → get_or (cs ++ Unwritten ∷ []) q Unwritten ≡ get_or cs q Unwritten
more_at [] zero = refl
more_at [] (suc q) = refl
more_at (c ∷ cs) zero = refl
more_at (c ∷ cs) (suc q) = more_at cs q

set_same : {A : Type 0} (xs : List A) (r : ℕ) (v d : A) → r < length xs → get_or (set xs r v) r d ≡ v
set_same [] r v d h = absurd (omega (arith, h))
set_same (x ∷ xs) zero v d h = refl
set_same (x ∷ xs) (suc r) v d h = set_same xs r v d (omega (arith, h))

set_other : {A : Type 0} (xs : List A) (r q : ℕ) (v d : A) → q ≢ r → get_or (set xs r v) q d ≡ get_or xs q d
set_other [] r q v d n = refl
set_other (x ∷ xs) zero zero v d n = absurd (n refl)
set_other (x ∷ xs) zero (suc q) v d n = refl
set_other (x ∷ xs) (suc r) zero v d n = refl
set_other (x ∷ xs) (suc r) (suc q) v d n = set_other xs r q v d (λ e. n (ap suc e))

get_set : {A : Type 0} (xs : List A) (r q : ℕ) (v d : A) → r < length xs → get_or (set xs r v) q d ≡ cond (eqb q r) v (get_or xs q d)
get_set {A} xs r q v d h = turn (eqb q r) refl
  where
    turn : (b : Bool) → eqb q r ≡ b → get_or (set xs r v) q d ≡ cond (eqb q r) v (get_or xs q d)
    turn true e = ap (λ z. get_or (set xs r v) z d) (eqb-true q r e) ∙ set_same xs r v d h ∙ sym (ap (λ b. cond b v (get_or xs q d)) e)
    turn false e = set_other xs r q v d (eqb-false q r e) ∙ sym (ap (λ b. cond b v (get_or xs q d)) e)

pub one_more : (cs : List Cell) → held (cs ++ Unwritten ∷ []) ≡ held cs
unfolding held
one_more cs = λ i q. more_at cs q i

put_there : (cs : List Cell) (t : ℕ) (c : Cell) → t < length cs → held (set cs t c) ≡ put temporaries (held cs) t c
unfolding held
put_there cs t c h = λ i q. get_set cs t q c Unwritten h i

pub put_after : (old mid new : List Cell) (t : ℕ) (c : Cell) → held mid ≡ held old → t < length mid → new ≡ set mid t c → held new ≡ put temporaries (held old) t c
put_after old mid new t c e h n = ap held n ∙ put_there mid t c h ∙ ap (λ cells. put temporaries cells t c) e

none_at : (q : ℕ) → get_or [] q Unwritten ≡ Unwritten
none_at zero = refl
none_at (suc q) = refl

pub none_held : (cs : List Cell) → cs ≡ [] → held cs ≡ received temporaries [] []
unfolding held
none_held cs e = ap held e ∙ (λ i q. none_at q i)
