-- What is known of words: the cells of the temporaries.
use Rattle.std.proofs.Common.{◌≡◌, ℕ, zero, suc, Bool, true, false, cond, eqb, [], ◌∷◌, take, min, length, Some, refl, sym, ap, ◌∙◌}
use Rattle.std.proofs.lemmas.Bool.{eqb-true, eq-eqb}
use Rattle.obj_mem.specs.declared.cell.Cell.{Cell}
use Rattle.obj_mem.specs.declared.cell.Cell.TheVariants.{Num}
use Rattle.mid_code.specs.States.{temporaries, put}
use Rattle.mid_fold.specs.inner.Folding.{Words, word_in, behind, few}

-- each of them has its word
abbrev pub Knows : Words → (ℕ → Cell) → Type 0
Knows [] cells = Unit {0}
Knows (e ∷ es) cells = (cells e.0 ≡ Num e.1) × Knows es cells

pub word_is : (es : Words) (cells : ℕ → Cell) (q w : ℕ) → Knows es cells → word_in es q ≡ Some w → cells q ≡ Num w
word_is [] cells q w h e = absurd cc
word_is (k ∷ es) cells q w h e = go (λ g. word_is es cells q w h.1 g) (eqb k.0 q) refl e
  where
    go : (word_in es q ≡ Some w → cells q ≡ Num w) → (b : Bool) → eqb k.0 q ≡ b → cond b (Some k.1) (word_in es q) ≡ Some w → cells q ≡ Num w
    go r true f g = let same : k.1 ≡ w = cc in sym (ap cells (eqb-true k.0 q f)) ∙ h.0 ∙ ap Num same
    go r false f g = r g

-- the other temporaries keep their cells
pub still_known : (es : Words) (t : ℕ) (a b : ℕ → Cell) → ((r : ℕ) → eqb r t ≡ false → b r ≡ a r) → Knows es a → Knows (behind es t) b
still_known [] t a b f h = tt
still_known (e ∷ es) t a b f h = go (still_known es t a b f h.1) (eqb e.0 t) refl
  where
    go : Knows (behind es t) b → (x : Bool) → eqb e.0 t ≡ x → Knows (cond x (behind es t) (e ∷ behind es t)) b
    go r true m = r
    go r false m = (f e.0 m ∙ h.0, r)

first_known : (n : ℕ) (es : Words) (cells : ℕ → Cell) → Knows es cells → Knows (take n es) cells
first_known zero es cells h = tt
first_known (suc n) [] cells h = tt
first_known (suc n) (e ∷ es) cells h = (h.0, first_known n es cells h.1)

pub few_known : (es : Words) (cells : ℕ → Cell) → Knows es cells → Knows (few es) cells
few_known es cells h = first_known (min (length es) 15) es cells h

pub put_off : (a : ℕ → Cell) (t : ℕ) (c : Cell) (r : ℕ) → eqb r t ≡ false → put temporaries a t c r ≡ a r
put_off a t c r e = ap (λ x. cond x c (a r)) e

pub put_on : (a : ℕ → Cell) (t : ℕ) (c : Cell) → put temporaries a t c t ≡ c
put_on a t c = ap (λ x. cond x c (a t)) (eq-eqb t t refl)
