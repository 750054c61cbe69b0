-- The places by the scan are a safe choice that spares slots.
use Rattle.std.proofs.Common.{◌≡◌, ◌≢◌, ℕ, ◌<◌, ◌≤◌, ◌⊎◌, inl, inr, Bool, true, false, cond, List, [], ◌∷◌, length, Option, Some, None, refl, ap, sym, ◌∙◌, subst, arith}
use Rattle.std.specs.List.Sorted.{IsPermutation, IsNonDecreasingBy}
use Rattle.std.proofs.lemmas.Bool.{false≢true, true≢false}
use Rattle.std.proofs.lemmas.List.{get_or_past}
use Rattle.mid_code.specs.declared.placed.Where.{Where}
use Rattle.mid_code.specs.declared.placed.Where.TheVariants.{Reg, Slot}
use Rattle.mid_code.specs.Code.{FunctionT}
use Rattle.mid_code.specs.Invariants.{AllOf, Names, IsTemporary}
use Rattle.mid_code.specs.Live.{is_among}
use Rattle.mid_code.specs.Safe.{place_of, IsChosen, IsSlot, IsRegister, AllPlaces, IsSafe, SparesSlots}
use Rattle.mid_code.specs.Spans.{Span, HeldAt, IsSpan, AtMostNineMeet, NoneLiveAcrossCalls}
use Rattle.mid_code.proofs.Intervals.{interval}
use Rattle.reg_choose.specs.declared.trail.Trail.{Trail}
use Rattle.reg_choose.specs.inner.Trails.{trail_at, trail_of, trailed, no_trail}
use Rattle.reg_choose.specs.inner.Scan.{Has, AllG, scan, chosen, From, Differ, AreSpans, HoldsAt, place_in}
use Rattle.reg_choose.specs.inner.Handing.{spans_from, kept, give, got, first_got, numbered}
use Rattle.reg_choose.proofs.Scanned.{scan_all, over_zero, le_or}
use Rattle.reg_choose.proofs.Hulls.{held_span, held_trail}
use Rattle.reg_choose.proofs.Crossed.{stood_keeps, none_stood, crossed_across, none_crosses}
use Rattle.reg_choose.proofs.Chosen.{chosen_apart, chosen_regs, choose_no_slot}
use Rattle.reg_choose.proofs.Spares.{all_places, few_meet}
use Rattle.reg_choose.proofs.Held.{held_under}
use Rattle.reg_choose.proofs.Numbered.{numbered_length, numbered_reg, numbered_slot, numbered_same}
use Rattle.reg_choose.proofs.Handed.{where_from, give_none, give_is}
use Rattle.reg_choose.proofs.Collected.{Goods, is_in, collect_good, collect_in, collect_distinct, order_good, order_in, order_differ, order_from, Ranges, kept_from, kept_differ, kept_good, kept_out, kept_in, kept_all, good_holds}

truth : (b : Bool) → (b ≡ true) ⊎ (b ≡ false)
truth true = inl refl
truth false = inr refl

some_or : (o : Option ℕ) → ((r : ℕ) × (o ≡ Some r)) ⊎ (o ≡ None)
some_or None = inr refl
some_or (Some r) = inl (r, refl)

slot_chosen : (w : Where) → IsSlot w → IsChosen w
slot_chosen (Reg n) h = absurd h
slot_chosen (Slot n) h = tt

abbrev is_reg : Where → Bool
is_reg (Reg n) = true
is_reg (Slot n) = false

abbrev number : Where → ℕ
number (Reg n) = n
number (Slot n) = n

reg_from : (x : ℕ) (o : Option ℕ) (r : ℕ) → where_from x o ≡ Reg r → o ≡ Some r
reg_from x None r e = absurd (true≢false (sym (ap is_reg e)))
reg_from x (Some q) r e = ap Some (ap number e)

-- what code made of a function: the trails, what is put out, the spans in their order, what each temporary has
pub record Made (f : FunctionT ℕ) (ts : List Trail) (o : ℕ → Bool) (ys : List Span) (gs os : List (Option ℕ)) : Type 0 where
  pub count : length ts ≡ f.temps
  pub tells : (x : ℕ) → x < f.temps → trail_at ts x ≡ trail_of f x
  pub names : Names (IsTemporary f) f.body
  pub params : AllOf (IsTemporary f) f.params
  pub crossing : (x : ℕ) → (trail_at ts x).crosses ≡ true → o x ≡ true
  pub spared : AllG Has (scan (λ r. 0) ys) → (x : ℕ) → o x ≡ (trail_at ts x).crosses
  pub permutation : IsPermutation (spans_from 0 ts) ys
  pub rises : IsNonDecreasingBy (λ (s : Span). s.first) ys
  pub long : length os ≡ f.temps
  pub begun : (x : ℕ) → x < f.temps → got gs x ≡ first_got (o x)
  pub handed : got os ≡ give (got gs) (λ r. 0) (kept o ys)

goods_ranges : (f : FunctionT ℕ) (ss : List Span) → Goods f.temps (trail_of f) ss → Ranges ss
goods_ranges f [] g = tt
goods_ranges f (s ∷ ss) g =
    let h = held_span f s.temp g.0.held in
    (subst (λ z. z.first ≤ z.last) (sym g.0.same) (h.least (trail_of f s.temp).first h.first_held).1, goods_ranges f ss g.1)

goods_spans : (f : FunctionT ℕ) (ss : List Span) → Goods f.temps (trail_of f) ss → Differ ss → AreSpans f ss
goods_spans f [] g d = tt
goods_spans f (s ∷ ss) g d = (subst (IsSpan f) (sym g.0.same) (held_span f s.temp g.0.held), d.0, goods_spans f ss g.1 d.1)

module _ (f : FunctionT ℕ) (ts : List Trail) (o : ℕ → Bool) (ys : List Span) (gs os : List (Option ℕ)) (m : Made f ts o ys gs os) where
  handed_at : (x : ℕ) → got os x ≡ give (got gs) (λ r. 0) (kept o ys) x
  handed_at x = ap (λ h. h x) m.handed

  good : Goods f.temps (trail_of f) ys
  good = (let q = m.count in order_good f.temps (trail_of f) (spans_from 0 ts) ys m.permutation (collect_good f.temps (trail_of f) 0 ts (omega (arith, q)) (λ k l. m.tells k (omega (arith, q, l)) ∙ ap (trail_of f) (omega arith))))

  differ : Differ ys
  differ = order_differ (spans_from 0 ts) ys m.permutation (collect_distinct 0 ts)

  from : From 0 ys
  from = order_from 0 ys (goods_ranges f ys good) (λ i d h. omega arith) m.rises

  -- what is not put out is handed what the scan gives
  placed : (x : ℕ) → x < f.temps → where_from x (got os x) ≡ chosen o (kept o ys) x
  placed x l = elim (truth (o x)) [
    | inl e ↦ ap (where_from x) (handed_at x ∙ give_none (got gs) (λ r. 0) (kept o ys) x (kept_out o x ys e) ∙ m.begun x l ∙ ap first_got e) ∙ sym (ap (λ b. cond b (Slot x) (place_in (scan (λ r. 0) (kept o ys)) x)) e)
    | inr e ↦ ap (where_from x) (handed_at x) ∙ give_is (got gs) (λ r. 0) (kept o ys) x (kept_differ o ys differ) (m.begun x l ∙ ap first_got e) ∙ sym (ap (λ b. cond b (Slot x) (place_in (scan (λ r. 0) (kept o ys)) x)) e)
  ]

  out_none : (x : ℕ) → o x ≡ true → got os x ≡ None
  out_none x e = elim (le_or f.temps x) [
    | inl l ↦ (let q = m.long in let h = l.0 in get_or_past os x None (omega (arith, q, h)))
    | inr l ↦ handed_at x ∙ give_none (got gs) (λ r. 0) (kept o ys) x (kept_out o x ys e) ∙ m.begun x l.0 ∙ ap first_got e
  ]

  past : (x : ℕ) → f.temps ≤ x → got os x ≡ None
  past x h = (let q = m.long in get_or_past os x None (omega (arith, q, h)))

  regs : AllPlaces IsChosen (numbered 0 os)
  regs = all_places IsChosen (numbered 0 os) (λ x l. elim (some_or (got os x)) [
    | inl h ↦ subst IsChosen (sym (numbered_reg 0 os x h.0 h.1)) (subst IsChosen (sym (placed x (let q = numbered_length 0 os in let k = m.long in omega (arith, l, q, k))) ∙ ap (where_from x) h.1) (chosen_regs o (kept o ys) x))
    | inr h ↦ slot_chosen (place_of (numbered 0 os) x) (numbered_slot 0 os x h)
  ])

  spans : (x p : ℕ) → o x ≡ false → HeldAt f x p → HoldsAt (kept o ys) x p
  spans x p e h =
      let l = held_under f x p m.names m.params h in
      let t = held_trail f x p h in
      let q = m.count in
      let held : (trail_at ts x).held ≡ true = ap (λ z. z.held) (m.tells x l) ∙ t.0 in
      let crosses : (trail_at ts x).crosses ≡ false = elim (truth (trail_at ts x).crosses) [ inl c ↦ absurd (false≢true (sym e ∙ m.crossing x c)) | inr c ↦ c ] in
      let i : is_in x (spans_from 0 ts) ≡ true = ap (λ z. is_in z (spans_from 0 ts)) (omega arith) ∙ collect_in 0 ts x (omega (arith, l, q)) held crosses in
      good_holds f.temps (trail_of f) (kept o ys) x p (kept_good o f.temps (trail_of f) ys good) (kept_in o x ys e (order_in x (spans_from 0 ts) ys m.permutation i)) t.1 t.2

  apart : (x y : ℕ) → x ≢ y → place_of (numbered 0 os) x ≡ place_of (numbered 0 os) y → (p : ℕ) → HeldAt f x p → HeldAt f y p → ⊥
  apart x y d e p h k =
      let q = m.long in
      let lx = held_under f x p m.names m.params h in
      let ly = held_under f y p m.names m.params k in
      elim (numbered_same 0 os x y (omega (arith, lx, q)) (omega (arith, ly, q)) e) [
        | inl i ↦ d i
        | inr r ↦ chosen_apart (HeldAt f) o (kept o ys) 0 (kept_from o 0 ys from) spans x y d (sym (placed x lx) ∙ ap (where_from x) r.1 ∙ sym (ap (where_from y) r.2) ∙ placed y ly) p h k
      ]

  crosses_slot : (x : ℕ) → (trailed x [] f.body false 1 no_trail).crosses ≡ true → IsSlot (place_of (numbered 0 os) x)
  crosses_slot x e = elim (le_or f.temps x) [
    | inl l ↦ numbered_slot 0 os x (past x l.0)
    | inr l ↦ numbered_slot 0 os x (out_none x (m.crossing x (ap (λ z. z.crosses) (m.tells x l.0) ∙ stood_keeps (is_among f.params x) 0 (trailed x [] f.body false 1 no_trail) e)))
  ]

  pub made_safe : IsSafe f (numbered 0 os)
  made_safe = interval f (numbered 0 os) (numbered_length 0 os ∙ m.long) regs apart (crossed_across (numbered 0 os) [] f.body 1 (λ x. no_trail) crosses_slot)

  none_out : AtMostNineMeet f → NoneLiveAcrossCalls f → (x : ℕ) → o x ≡ false
  none_out nine calls x = m.spared (scan_all (λ r. 0) (λ p. 0) 0 ys from (λ p h. (let z = over_zero p 9 in omega (arith, z))) (λ p. (let a = few_meet f ys (goods_spans f ys good differ) nine p in omega (arith, a)))) x ∙ elim (le_or f.temps x) [
    | inl l ↦ (let q = m.count in let h = l.0 in ap (λ z. z.crosses) (get_or_past ts x no_trail (omega (arith, q, h))))
    | inr l ↦ ap (λ z. z.crosses) (m.tells x l.0) ∙ none_stood (is_among f.params x) 0 (trailed x [] f.body false 1 no_trail) (none_crosses x [] f.body 1 no_trail calls refl)
  ]

  pub made_spares : SparesSlots f (numbered 0 os)
  made_spares nine calls = all_places IsRegister (numbered 0 os) (λ x l.
      let none = none_out nine calls in
      let q = numbered_length 0 os in
      let k = m.long in
      let h : x < f.temps = omega (arith, l, q, k) in
      let r = choose_no_slot o ys from (few_meet f ys (goods_spans f ys good differ) nine) none x in
      let w : where_from x (got os x) ≡ Reg r.0 = placed x h ∙ ap (λ z. chosen o z x) (kept_all o ys none) ∙ r.1 in
      let g : got os x ≡ Some r.0 = reg_from x (got os x) r.0 w in
      subst IsRegister (sym (numbered_reg 0 os x r.0 g)) tt)
