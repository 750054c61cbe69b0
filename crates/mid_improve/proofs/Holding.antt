-- What is known at a point: the cells of the temporaries.
use Rattle.std.proofs.Common.{◌≡◌, ℕ, suc, Bool, true, false, cond, eqb, List, [], ◌∷◌, map, length, Option, Some, None, refl, sym, ap, ◌∙◌, subst}
use Rattle.std.proofs.lemmas.Bool.{eqb-true, eqb-false, eq-eqb}
use Rattle.obj_mem.specs.declared.cell.Cell.{Cell}
use Rattle.obj_mem.specs.declared.cell.Cell.TheVariants.{Num}
use Rattle.mid_code.specs.States.{temporaries, put}
use Rattle.mid_improve.specs.inner.Facts.{Fact, IsWord, IsCopy, Known, none_known, fact_word, fact_source, unless_copy, behind, with_fact}
use Rattle.mid_improve.specs.inner.Forward.{or_itself, serves}

abbrev pub Cells : Type 0
Cells = ℕ → Cell

abbrev pub Holds : Option Fact → ℕ → Cells → Type 0
Holds None q cells = Unit {0}
Holds (Some (IsWord word)) q cells = cells q ≡ Num word
Holds (Some (IsCopy a)) q cells = cells q ≡ cells a

-- each fact holds
abbrev pub Knows : Known → Cells → Type 0
Knows k cells = (q : ℕ) → Holds (k q) q cells

pub knows_none : (cells : Cells) → Knows none_known cells
knows_none cells q = tt

pub knows_same : (k : Known) (a b : Cells) → a ≡ b → Knows k a → Knows k b
knows_same k a b e h = subst (Knows k) e h

-- ---- what serves has the same cell

pub serves_same : (k : Known) (cells : Cells) (q : ℕ) → Knows k cells → cells (serves k q) ≡ cells q
serves_same k cells q h = go (k q) (h q)
  where
    go : (f : Option Fact) → Holds f q cells → cells (or_itself q (fact_source f)) ≡ cells q
    go None g = refl
    go (Some (IsWord word)) g = refl
    go (Some (IsCopy a)) g = sym g

pub all_same : (k : Known) (cells : Cells) (qs : List ℕ) → Knows k cells → map cells (map (serves k) qs) ≡ map cells qs
all_same k cells [] h = refl
all_same k cells (q ∷ qs) h = λ i. serves_same k cells q h i ∷ all_same k cells qs h i

pub as_many : (k : Known) (qs : List ℕ) → length (map (serves k) qs) ≡ length qs
as_many k [] = refl
as_many k (q ∷ qs) = ap suc (as_many k qs)

pub word_is : (k : Known) (cells : Cells) (q w : ℕ) → Knows k cells → fact_word (k q) ≡ Some w → cells q ≡ Num w
word_is k cells q w h e = go (k q) (h q) e
  where
    go : (f : Option Fact) → Holds f q cells → fact_word f ≡ Some w → cells q ≡ Num w
    go None g e = absurd cc
    go (Some (IsWord word)) g e = let same : word ≡ w = cc in g ∙ ap Num same
    go (Some (IsCopy a)) g e = absurd cc

-- ---- a temporary takes a cell

pub turned : (t r : ℕ) → eqb t r ≡ false → eqb r t ≡ false
turned t r e = go (eqb r t) refl
  where
    go : (b : Bool) → eqb r t ≡ b → b ≡ false
    go true f = absurd (eqb-false t r e (sym (eqb-true r t f)))
    go false f = refl

pub put_off : (a : Cells) (t : ℕ) (c : Cell) (r : ℕ) → eqb t r ≡ false → put temporaries a t c r ≡ a r
put_off a t c r e = ap (λ x. cond x c (a r)) (turned t r e)

pub put_on : (a : Cells) (t : ℕ) (c : Cell) → put temporaries a t c t ≡ c
put_on a t c = ap (λ x. cond x c (a t)) (eq-eqb t t refl)

-- the others keep theirs
pub still_known : (k : Known) (t : ℕ) (a b : Cells) → ((r : ℕ) → eqb t r ≡ false → b r ≡ a r) → Knows k a → Knows (behind k t) b
still_known k t a b f h q = go (eqb t q) refl (k q) (h q)
  where
    other : (c : ℕ) → eqb t q ≡ false → a q ≡ a c → (x : Bool) → eqb t c ≡ x → Holds (cond x None (Some (IsCopy c))) q b
    other c e g true m = tt
    other c e g false m = f q e ∙ g ∙ sym (f c m)

    go : (x : Bool) → eqb t q ≡ x → (p : Option Fact) → Holds p q a → Holds (cond x None (unless_copy t p)) q b
    go true e p g = tt
    go false e None g = tt
    go false e (Some (IsWord word)) g = f q e ∙ g
    go false e (Some (IsCopy c)) g = other c e g (eqb t c) refl

-- one fact more
pub one_more_known : (k : Known) (t : ℕ) (f : Fact) (cells : Cells) → Holds (Some f) t cells → Knows k cells → Knows (with_fact t f k) cells
one_more_known k t f cells n h q = go (eqb t q) refl
  where
    go : (x : Bool) → eqb t q ≡ x → Holds (cond x (Some f) (k q)) q cells
    go true e = subst (λ r. Holds (Some f) r cells) (eqb-true t q e) n
    go false e = h q
