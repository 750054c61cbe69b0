-- What the scan hands out is what it gives.
use Rattle.std.proofs.Common.{◌≡◌, ◌≢◌, ℕ, Bool, true, false, eqb, cond, List, [], ◌∷◌, Option, Some, None, refl, ap, sym, ◌∙◌, subst}
use Rattle.std.proofs.lemmas.Bool.{eq-eqb, ne_eqb, eqb-true, eqb-false}
use Rattle.mid_code.specs.declared.placed.Where.{Where}
use Rattle.mid_code.specs.declared.placed.Where.TheVariants.{Reg, Slot}
use Rattle.mid_code.specs.Spans.{Span}
use Rattle.reg_choose.specs.inner.Scan.{scan, free, taking, where_of, place_in, NoneOf, Differ}
use Rattle.reg_choose.specs.inner.Handing.{written, give}

abbrev pub where_from : ℕ → Option ℕ → Where
where_from x None = Slot x
where_from x (Some r) = Reg r

written_same : (g : ℕ → Option ℕ) (k x : ℕ) (v : Option ℕ) → k ≡ x → written g k v x ≡ v
written_same g k x v e = ap (λ b. cond b v (g x)) (eq-eqb x k (sym e))

written_other : (g : ℕ → Option ℕ) (k x : ℕ) (v : Option ℕ) → k ≢ x → written g k v x ≡ g x
written_other g k x v h = ap (λ b. cond b v (g x)) (ne_eqb x k (λ e. h (sym e)))

pub give_none : (g : ℕ → Option ℕ) (f : ℕ → ℕ) (ss : List Span) (x : ℕ) → NoneOf x ss → give g f ss x ≡ g x
give_none g f [] x h = refl
give_none g f (s ∷ ss) x h = give_none (written g s.temp (free f s.first 9)) (taking f s (free f s.first 9)) ss x h.1 ∙ written_other g s.temp x (free f s.first 9) h.0

where_is : (s : Span) (o : Option ℕ) (x : ℕ) → s.temp ≡ x → where_from x o ≡ where_of (record { span = s; reg = o })
where_is s None x e = ap Slot (sym e)
where_is s (Some r) x e = refl

give_turn : (g : ℕ → Option ℕ) (f : ℕ → ℕ) (s : Span) (ss : List Span) (x : ℕ) (b : Bool) → eqb s.temp x ≡ b → NoneOf s.temp ss → g x ≡ Some 0 → (written g s.temp (free f s.first 9) x ≡ Some 0 → where_from x (give (written g s.temp (free f s.first 9)) (taking f s (free f s.first 9)) ss x) ≡ place_in (scan (taking f s (free f s.first 9)) ss) x) → where_from x (give (written g s.temp (free f s.first 9)) (taking f s (free f s.first 9)) ss x) ≡ cond (eqb s.temp x) (where_of (record { span = s; reg = free f s.first 9 })) (place_in (scan (taking f s (free f s.first 9)) ss) x)
give_turn g f s ss x true q d e h =
    let o = free f s.first 9 in
    let i = eqb-true s.temp x q in
    ap (where_from x) (give_none (written g s.temp o) (taking f s o) ss x (subst (λ z. NoneOf z ss) i d) ∙ written_same g s.temp x o i)
    ∙ where_is s o x i
    ∙ sym (ap (λ b. cond b (where_of (record { span = s; reg = o })) (place_in (scan (taking f s o) ss) x)) q)
give_turn g f s ss x false q d e h =
    let o = free f s.first 9 in
    h (written_other g s.temp x o (eqb-false s.temp x q) ∙ e)
    ∙ sym (ap (λ b. cond b (where_of (record { span = s; reg = o })) (place_in (scan (taking f s o) ss) x)) q)

pub give_is : (g : ℕ → Option ℕ) (f : ℕ → ℕ) (ss : List Span) (x : ℕ) → Differ ss → g x ≡ Some 0 → where_from x (give g f ss x) ≡ place_in (scan f ss) x
give_is g f [] x d e = ap (where_from x) e
give_is g f (s ∷ ss) x d e = give_turn g f s ss x (eqb s.temp x) refl d.0 e (give_is (written g s.temp (free f s.first 9)) (taking f s (free f s.first 9)) ss x d.1)
