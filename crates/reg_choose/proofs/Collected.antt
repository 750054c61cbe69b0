-- The spans that are scanned: of each temporary that stands anywhere and is live across no call one, and no others.
use Rattle.std.proofs.Common.{◌≡◌, ℕ, zero, suc, ◌+◌, ◌<◌, ◌≤◌, inl, inr, Bool, true, false, ◌&&◌, ◌||◌, not, eqb, cond, List, [], ◌∷◌, length, get_or, refl, ap, sym, ◌∙◌, subst, arith}
use Rattle.std.specs.List.{AllByRecursion, IsDistinct, list_any}
use Rattle.std.specs.List.Sorted.{IsPermutation, IsNonDecreasingBy}
use Rattle.std.proofs.lemmas.Bool.{eq-eqb, ne_eqb, eqb-true, eqb-false, false≢true}
use Rattle.std.proofs.lemmas.List.Elements.{All-from_recursion, recursion_from_All}
use Rattle.std.proofs.lemmas.List.Sorted.{All-permutation, list_any-IsPermutation}
use Rattle.std.proofs.lemmas.Map.Keys.{IsDistinct-head, IsDistinct-tail, IsDistinct-cons, IsDistinct-IsPermutation}
use Rattle.mid_code.specs.Spans.{Span}
use Rattle.reg_choose.specs.declared.trail.Trail.{Trail}
use Rattle.reg_choose.specs.inner.Trails.{trail_at}
use Rattle.reg_choose.specs.inner.Scan.{From, NoneOf, Differ, HoldsAt}
use Rattle.reg_choose.specs.inner.Handing.{span_at, spans_from, kept}

-- ---- as they are collected

-- the span of a temporary below n, as t tells of it
pub record Good (n : ℕ) (t : ℕ → Trail) (s : Span) : Type 0 where
  pub below : s.temp < n
  pub held : (t s.temp).held ≡ true
  pub same : s ≡ span_at s.temp (t s.temp)

abbrev pub Goods : ℕ → (ℕ → Trail) → List Span → Type 0
Goods n t [] = Unit {0}
Goods n t (s ∷ ss) = Good n t s × Goods n t ss

abbrev pub is_in : ℕ → List Span → Bool
is_in x [] = false
is_in x (s ∷ ss) = eqb s.temp x || is_in x ss

both_true : (a b : Bool) → (a && b) ≡ true → a ≡ true
both_true true b e = refl
both_true false b e = absurd (false≢true e)

move : (x k : ℕ) → x + suc k ≡ suc x + k
move x k = omega arith

tells : (n x : ℕ) (t : ℕ → Trail) (rs : List Trail) → Type 0
tells n x t rs = (x + length rs ≤ n) × ((k : ℕ) → k < length rs → trail_at rs k ≡ t (x + k))

module _ (n : ℕ) (t : ℕ → Trail) where
  pub collect_good : (x : ℕ) (rs : List Trail) → x + length rs ≤ n → ((k : ℕ) → k < length rs → trail_at rs k ≡ t (x + k)) → Goods n t (spans_from x rs)
  collect_good x [] l h = tt
  collect_good x (r ∷ rs) l h = turn (r.held && not r.crosses) refl (collect_good (suc x) rs (omega (arith, l)) (λ k m. h (suc k) (omega (arith, m)) ∙ ap t (move x k)))
    where
      turn : (b : Bool) → (r.held && not r.crosses) ≡ b → Goods n t (spans_from (suc x) rs) → Goods n t (cond b (span_at x r ∷ spans_from (suc x) rs) (spans_from (suc x) rs))
      turn true e g =
          let q : r ≡ t x = h 0 (omega arith) ∙ ap t (omega arith) in
          (record { below = omega (arith, l); held = ap (λ z. z.held) (sym q) ∙ both_true r.held (not r.crosses) e; same = ap (span_at x) q }, g)
      turn false e g = g

or_right : (a b : Bool) → b ≡ true → (a || b) ≡ true
or_right true b e = refl
or_right false b e = e

or_left : (a b : Bool) → a ≡ true → (a || b) ≡ true
or_left a b e = ap (λ z. z || b) e

pub collect_in : (x : ℕ) (rs : List Trail) (k : ℕ) → k < length rs → (trail_at rs k).held ≡ true → (trail_at rs k).crosses ≡ false → is_in (x + k) (spans_from x rs) ≡ true
collect_in x [] k l h c = absurd (omega (arith, l))
collect_in x (r ∷ rs) zero l h c =
    let e : (r.held && not r.crosses) ≡ true = ap (λ b. b && not r.crosses) h ∙ ap (λ b. not b) c in
    ap (λ b. is_in (x + 0) (cond b (span_at x r ∷ spans_from (suc x) rs) (spans_from (suc x) rs))) e ∙ or_left (eqb x (x + 0)) (is_in (x + 0) (spans_from (suc x) rs)) (eq-eqb x (x + 0) (omega arith))
collect_in x (r ∷ rs) (suc k) l h c = turn (r.held && not r.crosses) (subst (λ y. is_in y (spans_from (suc x) rs) ≡ true) (sym (move x k)) (collect_in (suc x) rs k (omega (arith, l)) h c))
  where
    turn : (b : Bool) → is_in (x + suc k) (spans_from (suc x) rs) ≡ true → is_in (x + suc k) (cond b (span_at x r ∷ spans_from (suc x) rs) (spans_from (suc x) rs)) ≡ true
    turn true e = or_right (eqb x (x + suc k)) (is_in (x + suc k) (spans_from (suc x) rs)) e
    turn false e = e

abbrev pub same_temp : Span → Span → Bool
same_temp s t = eqb s.temp t.temp

later : (y : Span) (x : ℕ) (rs : List Trail) → y.temp < x → AllByRecursion (λ s. same_temp y s ≡ false) (spans_from x rs)
later y x [] l = tt
later y x (r ∷ rs) l = turn (r.held && not r.crosses) (later y (suc x) rs (omega (arith, l)))
  where
    turn : (b : Bool) → AllByRecursion (λ s. same_temp y s ≡ false) (spans_from (suc x) rs) → AllByRecursion (λ s. same_temp y s ≡ false) (cond b (span_at x r ∷ spans_from (suc x) rs) (spans_from (suc x) rs))
    turn true a = (ne_eqb y.temp x (λ e. omega (arith, e, l)), a)
    turn false a = a

pub collect_distinct : (x : ℕ) (rs : List Trail) → IsDistinct same_temp (spans_from x rs)
unfolding IsDistinct
collect_distinct x [] = tt
collect_distinct x (r ∷ rs) = turn (r.held && not r.crosses) (collect_distinct (suc x) rs)
  where
    turn : (b : Bool) → IsDistinct same_temp (spans_from (suc x) rs) → IsDistinct same_temp (cond b (span_at x r ∷ spans_from (suc x) rs) (spans_from (suc x) rs))
    turn true d = IsDistinct-cons same_temp (span_at x r) (spans_from (suc x) rs) (later (span_at x r) (suc x) rs (omega arith)) d
    turn false d = d

-- ---- in their order

none_of : (y : Span) (ss : List Span) → AllByRecursion (λ s. same_temp y s ≡ false) ss → NoneOf y.temp ss
none_of y [] a = tt
none_of y (s ∷ ss) a = ((λ e. eqb-false y.temp s.temp a.0 (sym e)), none_of y ss a.1)

differ : (ss : List Span) → IsDistinct same_temp ss → Differ ss
differ [] d = tt
differ (s ∷ ss) d = (none_of s ss (IsDistinct-head same_temp s ss d), differ ss (IsDistinct-tail same_temp s ss d))

flips : (x y : ℕ) (b : Bool) → eqb y x ≡ b → eqb x y ≡ b
flips x y true e = eq-eqb x y (sym (eqb-true y x e))
flips x y false e = ne_eqb x y (λ q. eqb-false y x e (sym q))

pub order_differ : (xs ys : List Span) → IsPermutation xs ys → IsDistinct same_temp xs → Differ ys
order_differ xs ys p d = differ ys (IsDistinct-IsPermutation same_temp (λ s t. flips s.temp t.temp (eqb t.temp s.temp) refl) xs ys p d)

any_in : (x : ℕ) (ss : List Span) → list_any (λ s. eqb s.temp x) ss ≡ is_in x ss
any_in x [] = refl
any_in x (s ∷ ss) = ap (λ b. eqb s.temp x || b) (any_in x ss)

pub order_in : (x : ℕ) (xs ys : List Span) → IsPermutation xs ys → is_in x xs ≡ true → is_in x ys ≡ true
order_in x xs ys p e = sym (any_in x ys) ∙ sym (list_any-IsPermutation (λ s. eqb s.temp x) xs ys p) ∙ any_in x xs ∙ e

goods_all : (n : ℕ) (t : ℕ → Trail) (ss : List Span) → Goods n t ss → AllByRecursion (Good n t) ss
goods_all n t [] g = tt
goods_all n t (s ∷ ss) g = (g.0, goods_all n t ss g.1)

all_goods : (n : ℕ) (t : ℕ → Trail) (ss : List Span) → AllByRecursion (Good n t) ss → Goods n t ss
all_goods n t [] g = tt
all_goods n t (s ∷ ss) g = (g.0, all_goods n t ss g.1)

pub order_good : (n : ℕ) (t : ℕ → Trail) (xs ys : List Span) → IsPermutation xs ys → Goods n t xs → Goods n t ys
order_good n t xs ys p g = all_goods n t ys (recursion_from_All (Good n t) ys (All-permutation (Good n t) xs ys p (All-from_recursion (Good n t) xs (goods_all n t xs g))))

tail_rises : (s : Span) (ss : List Span) → IsNonDecreasingBy (λ (s : Span). s.first) (s ∷ ss) → IsNonDecreasingBy (λ (s : Span). s.first) ss
tail_rises s ss r i j d h l = r (suc i) (suc j) d (omega (arith, h)) (omega (arith, l))

abbrev pub Ranges : List Span → Type 0
Ranges [] = Unit {0}
Ranges (s ∷ ss) = (s.first ≤ s.last) × Ranges ss

pub order_from : (lo : ℕ) (ss : List Span) → Ranges ss → ((i : ℕ) (d : Span) → i < length ss → lo ≤ (get_or ss i d).first) → IsNonDecreasingBy (λ (s : Span). s.first) ss → From lo ss
order_from lo [] a l r = tt
order_from lo (s ∷ ss) a l r = (l 0 s (omega arith), a.0, order_from s.first ss a.1 (λ i d h. r 0 (suc i) d (omega arith) (omega (arith, h))) (tail_rises s ss r))

-- ---- those that are kept

from_below : (lo hi : ℕ) (ss : List Span) → lo ≤ hi → From hi ss → From lo ss
from_below lo hi [] l f = tt
from_below lo hi (s ∷ ss) l f = ((let q = f.0 in omega (arith, l, q)), f.1, f.2)

module _ (o : ℕ → Bool) where
  pub kept_from : (lo : ℕ) (ss : List Span) → From lo ss → From lo (kept o ss)
  kept_from lo [] f = tt
  kept_from lo (s ∷ ss) f = turn (o s.temp) (kept_from s.first ss f.2)
    where
      turn : (b : Bool) → From s.first (kept o ss) → From lo (cond b (kept o ss) (s ∷ kept o ss))
      turn true g = from_below lo s.first (kept o ss) f.0 g
      turn false g = (f.0, f.1, g)

  kept_none_of : (x : ℕ) (ss : List Span) → NoneOf x ss → NoneOf x (kept o ss)
  kept_none_of x [] h = tt
  kept_none_of x (s ∷ ss) h = turn (o s.temp) (kept_none_of x ss h.1)
    where
      turn : (b : Bool) → NoneOf x (kept o ss) → NoneOf x (cond b (kept o ss) (s ∷ kept o ss))
      turn true g = g
      turn false g = (h.0, g)

  pub kept_differ : (ss : List Span) → Differ ss → Differ (kept o ss)
  kept_differ [] d = tt
  kept_differ (s ∷ ss) d = turn (o s.temp) (kept_differ ss d.1)
    where
      turn : (b : Bool) → Differ (kept o ss) → Differ (cond b (kept o ss) (s ∷ kept o ss))
      turn true g = g
      turn false g = (kept_none_of s.temp ss d.0, g)

  pub kept_good : (n : ℕ) (t : ℕ → Trail) (ss : List Span) → Goods n t ss → Goods n t (kept o ss)
  kept_good n t [] g = tt
  kept_good n t (s ∷ ss) g = turn (o s.temp) (kept_good n t ss g.1)
    where
      turn : (b : Bool) → Goods n t (kept o ss) → Goods n t (cond b (kept o ss) (s ∷ kept o ss))
      turn true h = h
      turn false h = (g.0, h)

  -- what is put out is not there
  pub kept_out : (x : ℕ) (ss : List Span) → o x ≡ true → NoneOf x (kept o ss)
  kept_out x [] e = tt
  kept_out x (s ∷ ss) e = turn (o s.temp) refl (kept_out x ss e)
    where
      turn : (b : Bool) → o s.temp ≡ b → NoneOf x (kept o ss) → NoneOf x (cond b (kept o ss) (s ∷ kept o ss))
      turn true q g = g
      turn false q g = ((λ i. false≢true (sym q ∙ ap o i ∙ e)), g)

  pub kept_in : (x : ℕ) (ss : List Span) → o x ≡ false → is_in x ss ≡ true → is_in x (kept o ss) ≡ true
  kept_in x [] e h = h
  kept_in x (s ∷ ss) e h = turn (o s.temp) refl (eqb s.temp x) refl (kept_in x ss e)
    where
      turn : (b : Bool) → o s.temp ≡ b → (c : Bool) → eqb s.temp x ≡ c → (is_in x ss ≡ true → is_in x (kept o ss) ≡ true) → is_in x (cond b (kept o ss) (s ∷ kept o ss)) ≡ true
      turn true q true i f = absurd (false≢true (sym e ∙ sym (ap o (eqb-true s.temp x i)) ∙ q))
      turn true q false i f = f (sym (ap (λ c. c || is_in x ss) i) ∙ h)
      turn false q true i f = or_left (eqb s.temp x) (is_in x (kept o ss)) i
      turn false q false i f = or_right (eqb s.temp x) (is_in x (kept o ss)) (f (sym (ap (λ c. c || is_in x ss) i) ∙ h))

  -- where none is put out, all are kept
  pub kept_all : (ss : List Span) → ((x : ℕ) → o x ≡ false) → kept o ss ≡ ss
  kept_all [] h = refl
  kept_all (s ∷ ss) h = ap (λ b. cond b (kept o ss) (s ∷ kept o ss)) (h s.temp) ∙ ap (λ z. s ∷ z) (kept_all ss h)

-- the span of a temporary that is there holds its places
pub good_holds : (n : ℕ) (t : ℕ → Trail) (ss : List Span) (x p : ℕ) → Goods n t ss → is_in x ss ≡ true → (t x).first ≤ p → p ≤ (t x).last → HoldsAt ss x p
good_holds n t [] x p g i a b = absurd (false≢true i)
good_holds n t (s ∷ ss) x p g i a b = turn (eqb s.temp x) refl (good_holds n t ss x p g.1)
  where
    turn : (c : Bool) → eqb s.temp x ≡ c → (is_in x ss ≡ true → (t x).first ≤ p → p ≤ (t x).last → HoldsAt ss x p) → HoldsAt (s ∷ ss) x p
    turn true q f =
        let e = eqb-true s.temp x q in
        let u : s ≡ span_at x (t x) = g.0.same ∙ ap (λ z. span_at z (t z)) e in
        inl (e, subst (λ z. z.first ≤ p) (sym u) a, subst (λ z. p ≤ z.last) (sym u) b)
    turn false q f = inr (eqb-false s.temp x q, f (sym (ap (λ c. c || is_in x ss) q) ∙ i) a b)
