-- A trail has the least range that holds each place where its temporary stands.
use Rattle.std.proofs.Common.{◌≡◌, ℕ, suc, ◌+◌, ◌≤◌, ◌⊎◌, inl, inr, Bool, true, false, ◌&&◌, not, min, max, List, [], ◌∷◌, refl, sym, ◌∙◌, subst, arith}
use Rattle.std.proofs.lemmas.Bool.{false≢true}
use Rattle.mid_code.specs.Code.{NodesT, Stop, Do, Call, Choose, Block, Loop, Leave, Again, Return, FunctionT, maybe}
use Rattle.mid_code.specs.Paths.{Frame, Branched, Blocked, Looped}
use Rattle.mid_code.specs.Live.{is_among, is_target, Live, labels, live_behind, is_live_at}
use Rattle.mid_code.specs.Spans.{places, Stands, StandsAt, HeldAt, Span, IsSpan}
use Rattle.mid_code.proofs.Liveness.{path_computed, computed_path, found_used}
use Rattle.reg_choose.proofs.Scanned.{le_or}
use Rattle.reg_choose.specs.declared.trail.Trail.{Trail}
use Rattle.reg_choose.specs.inner.Trails.{no_trail, longer, stood, crossing, trailed, trail_of}

-- the range of R is that of r, and the places H
pub record Hull (H : ℕ → Type 0) (r R : Trail) : Type 0 where
  pub holds : (p : ℕ) → H p → (R.held ≡ true) × (R.first ≤ p) × (p ≤ R.last)
  pub keeps : r.held ≡ true → (R.held ≡ true) × (R.first ≤ r.first) × (r.last ≤ R.last)
  pub first : R.held ≡ true → ((r.held ≡ true) × (R.first ≡ r.first)) ⊎ H R.first
  pub last : R.held ≡ true → ((r.held ≡ true) × (R.last ≡ r.last)) ⊎ H R.last

hull_none : (r : Trail) → Hull (λ p. ⊥) r r
hull_none r = record {
  holds = λ p h. absurd h;
  keeps = λ h. (h, omega arith, omega arith);
  first = λ h. inl (h, refl);
  last = λ h. inl (h, refl);
}

-- other words for the places
hull_as : (H G : ℕ → Type 0) (r R : Trail) → ((p : ℕ) → H p → G p) → ((p : ℕ) → G p → H p) → Hull H r R → Hull G r R
hull_as H G r R f g h = record {
  holds = λ p k. h.holds p (g p k);
  keeps = h.keeps;
  first = λ k. elim (h.first k) [ inl a ↦ inl a | inr a ↦ inr (f R.first a) ];
  last = λ k. elim (h.last k) [ inl a ↦ inl a | inr a ↦ inr (f R.last a) ];
}

hull_join : (H G : ℕ → Type 0) (r s t : Trail) → Hull H r s → Hull G s t → Hull (λ p. G p ⊎ H p) r t
hull_join H G r s t h g = record {
  holds = λ p k. elim k [ inl a ↦ g.holds p a | inr a ↦ (let b = h.holds p a in let c = g.keeps b.0 in (c.0, omega (arith, b.1, c.1), omega (arith, b.2, c.2))) ];
  keeps = λ k. (let b = h.keeps k in let c = g.keeps b.0 in (c.0, omega (arith, b.1, c.1), omega (arith, b.2, c.2)));
  first = λ k. elim (g.first k) [ inl a ↦ elim (h.first a.0) [ inl b ↦ inl (b.0, a.1 ∙ b.1) | inr b ↦ inr (inr (subst H (sym a.1) b)) ] | inr a ↦ inr (inl a) ];
  last = λ k. elim (g.last k) [ inl a ↦ elim (h.last a.0) [ inl b ↦ inl (b.0, a.1 ∙ b.1) | inr b ↦ inr (inr (subst H (sym a.1) b)) ] | inr a ↦ inr (inl a) ];
}

min_cases : (a b : ℕ) → ((min a b ≡ a) ⊎ (min a b ≡ b)) × (min a b ≤ a) × (min a b ≤ b)
min_cases a b = (elim (le_or a b) [ inl t ↦ inl (let k = t.0 in omega (arith, k)) | inr t ↦ inr (let k = t.0 in omega (arith, k)) ], omega arith, omega arith)

max_cases : (a b : ℕ) → ((max a b ≡ a) ⊎ (max a b ≡ b)) × (a ≤ max a b) × (b ≤ max a b)
max_cases a b = (elim (le_or a b) [ inl t ↦ inr (let k = t.0 in omega (arith, k)) | inr t ↦ inl (let k = t.0 in omega (arith, k)) ], omega arith, omega arith)

hull_longer : (n : ℕ) (held : Bool) (first last : ℕ) (crosses : Bool) → Hull (λ p. p ≡ n) (record { held = held; first = first; last = last; crosses = crosses }) (longer n (record { held = held; first = first; last = last; crosses = crosses }))
hull_longer n true f l c =
    let a = min_cases n f in
    let b = max_cases n l in
    record {
      holds = λ p e. (refl, (let q = a.1 in omega (arith, e, q)), (let q = b.1 in omega (arith, e, q)));
      keeps = λ h. (refl, a.2, b.2);
      first = λ h. elim a.0 [ inl e ↦ inr e | inr e ↦ inl (refl, e) ];
      last = λ h. elim b.0 [ inl e ↦ inr e | inr e ↦ inl (refl, e) ];
    }
hull_longer n false f l c = record {
  holds = λ p e. (refl, omega (arith, e), omega (arith, e));
  keeps = λ h. absurd (false≢true h);
  first = λ h. inr refl;
  last = λ h. inr refl;
}

hull_stood : (Q : Type 0) (b : Bool) (n : ℕ) (r : Trail) → (b ≡ true → Q) → (Q → b ≡ true) → Hull (λ p. (p ≡ n) × Q) r (stood b n r)
hull_stood Q true n r f g = hull_as (λ p. p ≡ n) (λ p. (p ≡ n) × Q) r (longer n r) (λ p e. (e, f refl)) (λ p k. k.0) (hull_longer n r.held r.first r.last r.crosses)
hull_stood Q false n r f g = hull_as (λ p. ⊥) (λ p. (p ≡ n) × Q) r r (λ p h. absurd h) (λ p k. false≢true (g k.1)) (hull_none r)

hull_crossing : (H : ℕ → Type 0) (r R : Trail) (b : Bool) → Hull H r R → Hull H r (crossing b R)
hull_crossing H r R b h = record { holds = h.holds; keeps = h.keeps; first = h.first; last = h.last }

-- a node that has no target
plainly : (x : ℕ) (fs : List (Frame ℕ)) (c : NodesT ℕ) (n : ℕ) (r : Trail) → is_target c x ≡ false → Hull (λ p. (p ≡ n) × Stands x fs c) r (stood (is_live_at x fs c) n r)
plainly x fs c n r t = hull_stood (Stands x fs c) (is_live_at x fs c) n r
    (λ e. inr (inr (computed_path x fs c e)))
    (λ s. elim s [ inl u ↦ found_used x fs c u | inr k ↦ elim k [ inl u ↦ absurd (false≢true (sym t ∙ u)) | inr l ↦ path_computed x fs c l ] ])

-- one that may have a target
targeted : (x : ℕ) (fs : List (Frame ℕ)) (c : NodesT ℕ) (n : ℕ) (r : Trail) → Hull (λ p. (p ≡ n) × Stands x fs c) r (stood (is_target c x) n (stood (is_live_at x fs c) n r))
targeted x fs c n r =
    let a = hull_stood (Live x fs c) (is_live_at x fs c) n r (computed_path x fs c) (path_computed x fs c) in
    let b = hull_stood (is_target c x ≡ true) (is_target c x) n (stood (is_live_at x fs c) n r) (λ e. e) (λ e. e) in
    hull_as (λ p. ((p ≡ n) × (is_target c x ≡ true)) ⊎ ((p ≡ n) × Live x fs c)) (λ p. (p ≡ n) × Stands x fs c) r (stood (is_target c x) n (stood (is_live_at x fs c) n r))
    (λ p k. elim k [ inl h ↦ (h.0, inr (inl h.1)) | inr h ↦ (h.0, inr (inr h.1)) ])
    (λ p k. elim k.1 [ inl u ↦ inr (k.0, computed_path x fs c (found_used x fs c u)) | inr h ↦ elim h [ inl e ↦ inl (k.0, e) | inr l ↦ inr (k.0, l) ] ])
    (hull_join (λ p. (p ≡ n) × Live x fs c) (λ p. (p ≡ n) × (is_target c x ≡ true)) r (stood (is_live_at x fs c) n r) (stood (is_target c x) n (stood (is_live_at x fs c) n r)) a b)

pub trail_hull : (x : ℕ) (fs : List (Frame ℕ)) (c : NodesT ℕ) (n : ℕ) (r : Trail) → Hull (λ p. StandsAt x fs c n p) r (trailed x (labels x fs) c (live_behind x fs) n r)
trail_hull x fs Stop n r = hull_none r
trail_hull x fs (Do o c) n r =
    let k = trailed x (labels x fs) c (live_behind x fs) (suc n) r in
    hull_join (λ p. StandsAt x fs c (suc n) p) (λ p. (p ≡ n) × Stands x fs (Do o c)) r k _ (trail_hull x fs c (suc n) r) (targeted x fs (Do o c) n k)
trail_hull x fs (Call t f args c) n r =
    let k = trailed x (labels x fs) c (live_behind x fs) (suc n) r in
    let b = is_live_at x fs c && not (is_among (maybe t) x) in
    hull_join (λ p. StandsAt x fs c (suc n) p) (λ p. (p ≡ n) × Stands x fs (Call t f args c)) r (crossing b k) _ (hull_crossing (λ p. StandsAt x fs c (suc n) p) r k b (trail_hull x fs c (suc n) r)) (targeted x fs (Call t f args c) n (crossing b k))
trail_hull x fs (Choose q a b c) n r =
    let m = suc (places a + (places b + n)) in
    let r1 = trailed x (labels x fs) c (live_behind x fs) m r in
    let r2 = trailed x (labels x fs) b (is_live_at x fs c) (suc (places a + n)) r1 in
    let r3 = trailed x (labels x fs) a (is_live_at x fs c) (suc n) r2 in
    let h1 = trail_hull x fs c m r in
    let h2 = trail_hull x (Branched c ∷ fs) b (suc (places a + n)) r1 in
    let h3 = trail_hull x (Branched c ∷ fs) a (suc n) r2 in
    hull_join _ (λ p. (p ≡ n) × Stands x fs (Choose q a b c)) r r3 _
    (hull_join _ (λ p. StandsAt x (Branched c ∷ fs) a (suc n) p) r r2 r3
    (hull_join (λ p. StandsAt x fs c m p) (λ p. StandsAt x (Branched c ∷ fs) b (suc (places a + n)) p) r r1 r2 h1 h2) h3)
    (plainly x fs (Choose q a b c) n r3 refl)
trail_hull x fs (Block b c) n r =
    let m = suc (places b + n) in
    let r1 = trailed x (labels x fs) c (live_behind x fs) m r in
    let r2 = trailed x (labels x (Blocked c ∷ fs)) b (is_live_at x fs c) (suc n) r1 in
    hull_join _ (λ p. (p ≡ n) × Stands x fs (Block b c)) r r2 _
    (hull_join (λ p. StandsAt x fs c m p) (λ p. StandsAt x (Blocked c ∷ fs) b (suc n) p) r r1 r2 (trail_hull x fs c m r) (trail_hull x (Blocked c ∷ fs) b (suc n) r1))
    (plainly x fs (Block b c) n r2 refl)
trail_hull x fs (Loop b c) n r =
    let m = suc (places b + n) in
    let r1 = trailed x (labels x fs) c (live_behind x fs) m r in
    let r2 = trailed x (labels x (Looped b c ∷ fs)) b (is_live_at x fs c) (suc n) r1 in
    hull_join _ (λ p. (p ≡ n) × Stands x fs (Loop b c)) r r2 _
    (hull_join (λ p. StandsAt x fs c m p) (λ p. StandsAt x (Looped b c ∷ fs) b (suc n) p) r r1 r2 (trail_hull x fs c m r) (trail_hull x (Looped b c ∷ fs) b (suc n) r1))
    (plainly x fs (Loop b c) n r2 refl)
trail_hull x fs (Leave k c) n r =
    let r1 = trailed x (labels x fs) c (live_behind x fs) (suc n) r in
    hull_join (λ p. StandsAt x fs c (suc n) p) (λ p. (p ≡ n) × Stands x fs (Leave k c)) r r1 _ (trail_hull x fs c (suc n) r) (plainly x fs (Leave k c) n r1 refl)
trail_hull x fs (Again k c) n r =
    let r1 = trailed x (labels x fs) c (live_behind x fs) (suc n) r in
    hull_join (λ p. StandsAt x fs c (suc n) p) (λ p. (p ≡ n) × Stands x fs (Again k c)) r r1 _ (trail_hull x fs c (suc n) r) (plainly x fs (Again k c) n r1 refl)
trail_hull x fs (Return p c) n r =
    let r1 = trailed x (labels x fs) c (live_behind x fs) (suc n) r in
    hull_join (λ p. StandsAt x fs c (suc n) p) (λ q. (q ≡ n) × Stands x fs (Return p c)) r r1 _ (trail_hull x fs c (suc n) r) (plainly x fs (Return p c) n r1 refl)

-- of a whole function
pub function_hull : (f : FunctionT ℕ) (x : ℕ) → Hull (HeldAt f x) no_trail (trail_of f x)
function_hull f x =
    let r = trailed x [] f.body false 1 no_trail in
    hull_join (λ p. StandsAt x [] f.body 1 p) (λ p. (p ≡ 0) × (is_among f.params x ≡ true)) no_trail r _ (trail_hull x [] f.body 1 no_trail) (hull_stood (is_among f.params x ≡ true) (is_among f.params x) 0 r (λ e. e) (λ e. e))

abbrev pub span_of : FunctionT ℕ → ℕ → Span
span_of f x = record { temp = x; first = (trail_of f x).first; last = (trail_of f x).last }

pub held_span : (f : FunctionT ℕ) (x : ℕ) → (trail_of f x).held ≡ true → IsSpan f (span_of f x)
held_span f x h =
    let u = function_hull f x in
    record {
      first_held = elim (u.first h) [ inl a ↦ absurd (false≢true a.0) | inr a ↦ a ];
      last_held = elim (u.last h) [ inl a ↦ absurd (false≢true a.0) | inr a ↦ a ];
      least = λ p k. ((u.holds p k).1, (u.holds p k).2);
    }

pub held_trail : (f : FunctionT ℕ) (x p : ℕ) → HeldAt f x p → ((trail_of f x).held ≡ true) × ((trail_of f x).first ≤ p) × (p ≤ (trail_of f x).last)
held_trail f x p h = (function_hull f x).holds p h
