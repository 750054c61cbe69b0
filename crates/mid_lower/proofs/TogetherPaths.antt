-- Points that lead to points by paths that end no local, and the locals that are made on the way.
use Rattle.std.proofs.Common.{◌≡◌, ℕ, zero, suc, ◌==◌, ◌||◌, inl, inr, ◌⊎◌, Bool, true, false, List, [], ◌∷◌, ◌++◌, Option, refl, sym, subst, eqb-true, true≢false}
use Rattle.c_meaning.specs.Frames.{is_among}
use Rattle.mid_code.specs.Code.{OpT, FreshO, EndO, Stop, Do, Call, Choose, Block, Loop, Leave, Again}
use Rattle.mid_code.specs.Paths.{Frame, Branched, Blocked, Looped, Point, at, leaving, repeating, next_points, SomePoint, Path}
use Rattle.mid_code.specs.Live as live
use Rattle.mid_code.specs.Open.{without, open_behind, AllAmong, Comes}
use Rattle.mid_code.proofs.Opened.{with_itself, with_other, some_long, some_each}
use Rattle.lower_trees.specs.Pieces.{Nodes, coded}
use Rattle.lower_trees.specs.Parts.{made}

abbrev pub Frames : Type 0
Frames = List (Frame ℕ)

-- the first node ends no local
abbrev pub EndsNone : Nodes → Type 0
EndsNone (Do (EndO j) c) = ⊥
EndsNone _ = Unit {0}

-- some path that ends no local
pub record Leads (p q : Point ℕ) : Type 0 where
  pub steps : ℕ
  pub path : Path EndsNone steps p q

-- one of these points leads there
abbrev pub OneLeads : List (Point ℕ) → Point ℕ → Type 0
OneLeads ps q = SomePoint (λ r. Leads r q) ps

pub here : (p : Point ℕ) → Leads p p
here p = record { steps = zero; path = refl }

-- ---- one step

counted : (ps : List (Point ℕ)) (q : Point ℕ) → OneLeads ps q → (n : ℕ) × SomePoint (λ r. Path EndsNone n r q) ps
counted [] q h = absurd h
counted (p ∷ ps) q h = elim h [ inl l ↦ (l.steps, inl l.path) | inr l ↦ (let r = counted ps q l in (r.0, inr r.1)) ]

onward : (fs : Frames) (c : Nodes) (q : Point ℕ) → EndsNone c → OneLeads (next_points fs c) q → Leads (at fs c) q
onward fs c q e h = let r = counted (next_points fs c) q h in record { steps = suc r.0; path = (e, r.1) }

module _ {fs : Frames} {q : Point ℕ} where
  pub doing : {o : OpT ℕ} {c : Nodes} → EndsNone (Do o c) → Leads (at fs c) q → Leads (at fs (Do o c)) q
  doing {o = o} {c = c} e l = onward fs (Do o c) q e (inl l)

  pub calling : {t : Option ℕ} {f : ℕ} {args : List ℕ} {c : Nodes} → Leads (at fs c) q → Leads (at fs (Call t f args c)) q
  calling {t = t} {f = f} {args = args} {c = c} l = onward fs (Call t f args c) q tt (inl l)

  pub first_way : {p : ℕ} {a b c : Nodes} → Leads (at (Branched c ∷ fs) a) q → Leads (at fs (Choose p a b c)) q
  first_way {p = p} {a = a} {b = b} {c = c} l = onward fs (Choose p a b c) q tt (inl l)

  pub second_way : {p : ℕ} {a b c : Nodes} → Leads (at (Branched c ∷ fs) b) q → Leads (at fs (Choose p a b c)) q
  second_way {p = p} {a = a} {b = b} {c = c} l = onward fs (Choose p a b c) q tt (inr (inl l))

  pub into_block : {b c : Nodes} → Leads (at (Blocked c ∷ fs) b) q → Leads (at fs (Block b c)) q
  into_block {b = b} {c = c} l = onward fs (Block b c) q tt (inl l)

  pub into_loop : {b c : Nodes} → Leads (at (Looped b c ∷ fs) b) q → Leads (at fs (Loop b c)) q
  into_loop {b = b} {c = c} l = onward fs (Loop b c) q tt (inl l)

  pub way_ends : {c : Nodes} → Leads (at fs c) q → Leads (at (Branched c ∷ fs) Stop) q
  way_ends {c = c} l = onward (Branched c ∷ fs) Stop q tt (inl l)

  pub block_ends : {c : Nodes} → Leads (at fs c) q → Leads (at (Blocked c ∷ fs) Stop) q
  block_ends {c = c} l = onward (Blocked c ∷ fs) Stop q tt (inl l)

  pub loop_ends : {b c : Nodes} → Leads (at fs c) q → Leads (at (Looped b c ∷ fs) Stop) q
  loop_ends {b = b} {c = c} l = onward (Looped b c ∷ fs) Stop q tt (inl l)

  pub leave_leads : {k : ℕ} {c : Nodes} → OneLeads (leaving fs k) q → Leads (at fs (Leave k c)) q
  leave_leads {k = k} {c = c} l = onward fs (Leave k c) q tt l

  pub again_leads : {k : ℕ} {c : Nodes} → OneLeads (repeating fs k) q → Leads (at fs (Again k c)) q
  again_leads {k = k} {c = c} l = onward fs (Again k c) q tt l

-- ---- locals that are made on the way

-- each of these is still to be made, or is open
abbrev pub Expected : (js ks made : List ℕ) → Type 0
Expected [] ks made = Unit {0}
Expected (j ∷ js) ks made = ((is_among j ks ≡ true) ⊎ (live.is_among made j ≡ true)) × Expected js ks made

-- Some path from here makes these locals, and ends none that is open.
abbrev pub Reaching : List ℕ → Point ℕ → Type 0
Reaching ks p = (js made : List ℕ) → Expected js ks made → (n : ℕ) × Comes js n made p

expected : (js ks ks' made made' : List ℕ) → ((j : ℕ) → (is_among j ks ≡ true) ⊎ (live.is_among made j ≡ true) → (is_among j ks' ≡ true) ⊎ (live.is_among made' j ≡ true)) → Expected js ks made → Expected js ks' made'
expected [] ks ks' made made' f e = tt
expected (j ∷ js) ks ks' made made' f e = (f j e.0, expected js ks ks' made made' f e.1)

all_open : (js made : List ℕ) → Expected js [] made → AllAmong js made
all_open [] made e = tt
all_open (j ∷ js) made e = (elim e.0 [ inl f ↦ absurd (true≢false (sym f)) | inr f ↦ f ], all_open js made e.1)

pub none_made : (p : Point ℕ) → Reaching [] p
none_made p js made e = (0, all_open js made e)

still_open : (c : Nodes) (made : List ℕ) (j : ℕ) → EndsNone c → live.is_among made j ≡ true → live.is_among (open_behind made c) j ≡ true
still_open (Do (EndO k) c) made j e o = absurd e
still_open (Do (FreshO k) c) made j e o = with_other k j made o
still_open c made j e o = o

walked : (js ks : List ℕ) (r : Point ℕ) → Reaching ks r → (n : ℕ) (p : Point ℕ) (made : List ℕ) → Path EndsNone n p r → Expected js ks made → (m : ℕ) × Comes js m made p
walked js ks r h zero p made w e = subst (λ q. (m : ℕ) × Comes js m made q) (sym w) (h js made e)
walked js ks r h (suc n) p made w e =
    let behind = expected js ks ks made (open_behind made p.code) (λ j o. elim o [ inl f ↦ inl f | inr f ↦ inr (still_open p.code made j w.0 f) ]) e in
    let s = some_long (λ m q. Comes js m (open_behind made p.code) q) (next_points p.frames p.code)
    (some_each (λ q. Path EndsNone n q r) (λ q. (m : ℕ) × Comes js m (open_behind made p.code) q) (λ q v. walked js ks r h n q (open_behind made p.code) v behind) (next_points p.frames p.code) w.1) in
    (suc s.0, s.1)

pub led : (ks : List ℕ) (p r : Point ℕ) → Leads p r → Reaching ks r → Reaching ks p
led ks p r l h js made e = walked js ks r h l.steps p made l.path e

one_made : (k : ℕ) (ks : List ℕ) (fs : Frames) (c : Nodes) → Reaching ks (at fs c) → Reaching (k ∷ ks) (at fs (Do (FreshO k) c))
one_made k ks fs c h js made e = let r = h js (k ∷ without k made) (expected js (k ∷ ks) ks made (k ∷ without k made) (λ j o. by j (j == k) refl o) e) in (suc r.0, inl r.1)
  where
    by : (j : ℕ) (b : Bool) → (j == k) ≡ b → ((b || is_among j ks) ≡ true) ⊎ (live.is_among made j ≡ true) → (is_among j ks ≡ true) ⊎ (live.is_among (k ∷ without k made) j ≡ true)
    by j true s o = inr (subst (λ i. live.is_among (k ∷ without k made) i ≡ true) (sym (eqb-true j k s)) (with_itself k made))
    by j false s o = elim o [ inl f ↦ inl f | inr f ↦ inr (with_other k j made f) ]

pub all_made : (ks js : List ℕ) (fs : Frames) (c : Nodes) → Reaching js (at fs c) → Reaching (ks ++ js) (at fs (coded (made ks) c))
all_made [] js fs c h = h
all_made (k ∷ ks) js fs c h = one_made k (ks ++ js) fs (coded (made ks) c) (all_made ks js fs c h)

pub made_leads : (ks : List ℕ) (c : Nodes) (fs : Frames) (q : Point ℕ) → Leads (at fs c) q → Leads (at fs (coded (made ks) c)) q
made_leads [] c fs q l = l
made_leads (k ∷ ks) c fs q l = doing tt (made_leads ks c fs q l)
