-- What it is for mid code to follow a tree, and the steps of following.
use Rattle.std.proofs.Common.{◌≡◌, ℕ, ◌+◌, ◌*◌, ◌<◌, ◌≤◌, Bool, true, false, cond, eqb, List, [], ◌++◌, length, Option, Ok, Err, refl, sym, ap, ◌∙◌, subst, arith}
use Rattle.std.proofs.lemmas.Bool.{eqb-true, eq-eqb, false≢true}
use Rattle.kit_base.specs.declared.event.Event.{Event}
use Rattle.c_tree.specs.declared.span.Span.{Span}
use Rattle.obj_mem.specs.Objects.{ObjectT}
use Rattle.obj_mem.specs.declared.cell.Cell.{Cell}
use Rattle.obj_mem.specs.declared.refusal.Refusal.TheVariants.{Strays, Faults}
use Rattle.obj_mem.specs.Stores.{local_object}
use Rattle.obj_mem.specs.Queries.{Answer}
use Rattle.obj_mem.specs.Worlds.{World}
use Rattle.obj_mem.specs.Runs as run
use Rattle.c_meaning.specs.declared.end.End.{End}
use Rattle.c_meaning.specs.declared.end.End.TheVariants.{Halted, Fault, Starved, Stray, Deep, OutOfBound}
use Rattle.c_meaning.specs.Runs.{ending}
use Rattle.c_meaning.specs.Outcomes.{Val, Value, Place, NoValue, Stops, asked, then_value, then_place}
use Rattle.mid_code.specs.Code.{OpT, NodesT, Do}
use Rattle.mid_code.specs.Meaning.{Res, Over, did, does, Lang}
use Rattle.mid_code.specs.States.{temporaries, put, to, spent, over_worlds}
use Rattle.mid_code.specs.inner.Passing.{state_of, Prefix}
use Rattle.mid_lower.proofs.Grows.{Mid, Grows, append_nil, more, node_grows}
use Rattle.mid_lower.proofs.Under.{Under, Alike}
use Rattle.mid_lower.proofs.Lives.{Later, Gone, later_same, later_then, later_gone}
use Rattle.mid_lower.proofs.Fits.{Site}

-- What a state of mid code has beside the world of the tree: `extra` are the objects of the locals behind the function's own, of which those before
-- `floor` may be in use. No code reads `floor`.
pub record Side : Type 0 where
  pub objs : List ObjectT
  pub work : ℕ
  pub temps : ℕ → Cell
  pub given : Cell
  pub extra : List (Option ℕ)
  pub floor : ℕ

abbrev pub mk : World → Side → Mid
mk w x = record { world = record { store = record w.store { objects = x.objs; locals = w.store.locals ++ x.extra }; events = w.events; work = x.work }; cells = x.temps; given = x.given }

-- a temporary set, at the cost of one operation
abbrev pub set : ℕ → Cell → Side → Side
set t v x = record x { temps = put temporaries x.temps t v; work = x.work + 8 }

-- the cost of one node
abbrev pub paid : Side → Side
paid x = record x { work = x.work + 8 }

-- The beginning of what is asked for: the function that is called, how many locals are its own, the objects, and those of the locals behind its own;
-- and how many of these may be in use.
pub record Base : Type 0 where
  pub function : Option ℕ
  pub own : ℕ
  pub objects : List ObjectT
  pub extra : List (Option ℕ)
  pub floor : ℕ

abbrev pub base_of : World → Side → Base
base_of w x = record { function = w.store.function; own = length w.store.locals; objects = w.store.objects; extra = x.extra; floor = x.floor }

-- Where what is asked for is to come; which temporaries stay: those before `first`, but this one, and but the fixed ones of which these are
-- passed over; what the work may be, and how much more at an end; the beginning.
pub record Goal : Type 0 where
  pub at : ℕ
  pub first : ℕ
  pub skip : ℕ
  pub temps : ℕ → Cell
  pub less : ℕ
  pub from : ℕ
  pub ends : ℕ
  pub base : Base

-- what an expression leaves of its work: a place has to be read
abbrev pub left : Bool → ℕ
left true = 52
left false = 28

abbrev pub goal : Bool → (t n : ℕ) → World → Side → Goal
goal b t n w x = record { at = t; first = n; skip = 0; temps = x.temps; less = 64 * w.work + left b; from = x.work; ends = left b; base = base_of w x }

abbrev pub events_of : Res Mid → List Event
events_of q = (state_of q).world.events

-- the temporaries of loops over cells and of tests come first
abbrev pub scratch : ℕ
scratch = 6

-- What mid code has is what the tree has, as far as it lives; and the locals that are not in use have no object that lives.
pub record Fitting (os os' : List ObjectT) (extra : List (Option ℕ)) (floor : ℕ) : Type 0 where
  pub under : Under os os'
  pub unused : (i : ℕ) → floor ≤ i → Gone os (local_object extra i)

abbrev pub Fit : World → Side → Type 0
Fit w x = Fitting w.store.objects x.objs x.extra x.floor

-- The objects and locals of a point on the way. The locals in use are as they were.
pub record Stays (β : Base) (w : World) (x : Side) : Type 0 where
  pub fit : Fit w x
  pub same_function : w.store.function ≡ β.function
  pub same_own : length w.store.locals ≡ β.own
  pub later : Later β.objects w.store.objects
  pub same_floor : x.floor ≡ β.floor
  pub long : length x.extra ≡ length β.extra
  pub keep : (i : ℕ) → i < β.floor → local_object x.extra i ≡ local_object β.extra i

-- a point on the way, with so much to spare
pub record Now (γ : Goal) (s : ℕ) (w : World) (x : Side) : Type 0 where
  pub stays : Stays γ.base w x
  pub below : (j : ℕ) → scratch + γ.skip ≤ j → j < γ.first → eqb j γ.at ≡ false → x.temps j ≡ γ.temps j
  pub cost : x.work + γ.less + s ≤ γ.from + 64 * w.work

-- a function that returns
pub record Out (γ : Goal) (w : World) (x : Side) : Type 0 where
  pub under : Under w.store.objects x.objs
  pub later : Later γ.base.objects w.store.objects
  pub cost : x.work + γ.less ≤ γ.from + 64 * w.work

-- the end of a run
pub record Fin (γ : Goal) (w : World) (x : Side) : Type 0 where
  pub under : Under w.store.objects x.objs
  pub cost : x.work + γ.less ≤ γ.from + γ.ends + 64 * w.work

-- a temporary that may be set
abbrev pub Free : Goal → ℕ → Type 0
Free γ t = (j : ℕ) → scratch + γ.skip ≤ j → j < γ.first → eqb j γ.at ≡ false → eqb j t ≡ false

-- the ends: after a stray only the events before it count
abbrev pub Kept : Goal → End → World → Res Mid → Type 0
Kept γ (Stray span) w m = Prefix w.events (events_of m)
Kept γ Halted w m = (x : Side) × (m ≡ Over run.Halted (mk w x)) × Fin γ w x
Kept γ (Fault k) w m = (x : Side) × (m ≡ Over (run.Fault k) (mk w x)) × Fin γ w x
Kept γ Starved w m = (x : Side) × (m ≡ Over run.Starved (mk w x)) × Fin γ w x
Kept γ (Deep span) w m = (x : Side) × (m ≡ Over run.Deep (mk w x)) × Fin γ w x
Kept γ OutOfBound w m = (x : Side) × (m ≡ Over run.OutOfBound (mk w x)) × Fin γ w x

-- mid code follows an expression, which comes to a place or not
abbrev pub SimV : Goal → (Mid → Res Mid) → Bool → Val → Res Mid → Type 0
SimV γ k b (Value c w) m = (b ≡ false) × (x : Side) × (m ≡ k (mk w x)) × Now γ 0 w x × (x.temps γ.at ≡ c)
SimV γ k b (Place p w) m = (b ≡ true) × (x : Side) × (m ≡ k (mk w x)) × Now γ 0 w x × (x.temps γ.at ≡ p)
SimV γ k b (NoValue w) m = (b ≡ false) × (x : Side) × (m ≡ k (mk w x)) × Now γ 0 w x
SimV γ k b (Stops f w) m = Kept γ f w m

-- a kind of outcomes, what it is to follow one, and how one stops
pub record Way (γ : Goal) : Type 1 where
  pub R : Type 0
  pub stop : End → World → R
  pub T : R → Res Mid → Type 0
  pub stops : (f : End) (w : World) (m : Res Mid) → Kept γ f w m → T (stop f w) m

abbrev pub way_v : (γ : Goal) → (Mid → Res Mid) → Bool → Way γ
way_v γ k b = record { R = Val; stop = Stops; T = SimV γ k b; stops = λ f w m h. h }

-- ---- temporaries

eq_to : (j t : ℕ) → (eqb j t ≡ true → ⊥) → eqb j t ≡ false
eq_to j t h = go (eqb j t) refl
  where
    go : (b : Bool) → eqb j t ≡ b → eqb j t ≡ false
    go true e = absurd (h e)
    go false e = e

pub eqb_less : (j t : ℕ) → j < t → eqb j t ≡ false
eqb_less j t h = eq_to j t (λ e. let f : j ≡ t = eqb-true j t e in absurd (omega arith))

pub eqb_more : (j t : ℕ) → t < j → eqb j t ≡ false
eqb_more j t h = eq_to j t (λ e. let f : j ≡ t = eqb-true j t e in absurd (omega arith))

abbrev pub putting : (ℕ → Cell) → ℕ → Cell → ℕ → Cell
putting f t v = put temporaries f t v

pub put_other : (f : ℕ → Cell) (t j : ℕ) (v : Cell) → eqb j t ≡ false → putting f t v j ≡ f j
put_other f t j v h = ap (λ b. cond b v (f j)) h

pub put_at : (f : ℕ → Cell) (t : ℕ) (v : Cell) → putting f t v t ≡ v
put_at f t v = ap (λ b. cond b v (f t)) (eq-eqb t t refl)

-- which may be set
pub at_free : (γ : Goal) → Free γ γ.at
at_free γ j a b c = c

pub above_free : (γ : Goal) (t : ℕ) → γ.first ≤ t → Free γ t
above_free γ t le j a b c = eqb_less j t (omega (arith, le, b))

pub low_free : (γ : Goal) (t : ℕ) → t < scratch + γ.skip → Free γ t
low_free γ t lt j a b c = eqb_more j t (omega (arith, lt, a))

-- ---- points

-- the same objects and locals
pub restay : (β : Base) (w : World) (x : Side) (v : World) (y : Side) → v.store ≡ w.store → y.objs ≡ x.objs → y.extra ≡ x.extra → y.floor ≡ x.floor → Stays β w x → Stays β v y
restay β w x v y es eo ex el h = record {
  fit = record {
    under = subst (λ os. Under v.store.objects os) (sym eo) (subst (λ u. Under u.objects x.objs) (sym es) h.fit.under);
    unused = λ i le. subst (λ e. Gone v.store.objects (local_object e i)) (sym ex) (subst (λ u. Gone u.objects (local_object x.extra i)) (sym es) (h.fit.unused i (omega (arith, le, el))));
  };
  same_function = ap (λ u. u.function) es ∙ h.same_function;
  same_own = ap (λ u. length u.locals) es ∙ h.same_own;
  later = subst (λ u. Later β.objects u.objects) (sym es) h.later;
  same_floor = el ∙ h.same_floor;
  long = ap length ex ∙ h.long;
  keep = λ i lt. ap (λ e. local_object e i) ex ∙ h.keep i lt;
}

-- behind a part that began here
pub stays_then : (β : Base) (w : World) (x : Side) (v : World) (y : Side) → Stays β w x → Stays (base_of w x) v y → Stays β v y
stays_then β w x v y h p = record {
  fit = p.fit;
  same_function = p.same_function ∙ h.same_function;
  same_own = p.same_own ∙ h.same_own;
  later = later_then β.objects w.store.objects v.store.objects h.later p.later;
  same_floor = p.same_floor ∙ h.same_floor;
  long = p.long ∙ h.long;
  keep = λ i lt. p.keep i (let e = h.same_floor in omega (arith, lt, e)) ∙ h.keep i lt;
}

pub stays_here : (w : World) (x : Side) → Fit w x → Stays (base_of w x) w x
stays_here w x u = record { fit = u; same_function = refl; same_own = refl; later = later_same w.store.objects; same_floor = refl; long = refl; keep = λ i lt. refl }

-- what changes the objects alone
pub stays_later : (β : Base) (w : World) (x : Side) (v : World) (y : Side) → v.store.function ≡ w.store.function → length v.store.locals ≡ length w.store.locals → y.extra ≡ x.extra → y.floor ≡ x.floor → Under v.store.objects y.objs → Later w.store.objects v.store.objects → Stays β w x → Stays β v y
stays_later β w x v y ef el ex eo u l h = record {
  fit = record { under = u; unused = λ i le. subst (λ e. Gone v.store.objects (local_object e i)) (sym ex) (later_gone w.store.objects v.store.objects (local_object x.extra i) l (h.fit.unused i (omega (arith, le, eo)))) };
  same_function = ef ∙ h.same_function;
  same_own = el ∙ h.same_own;
  later = later_then β.objects w.store.objects v.store.objects h.later l;
  same_floor = eo ∙ h.same_floor;
  long = ap length ex ∙ h.long;
  keep = λ i lt. ap (λ e. local_object e i) ex ∙ h.keep i lt;
}

pub set_now : (γ : Goal) (s : ℕ) (w : World) (x : Side) (t : ℕ) (v : Cell) → Free γ t → Now γ (s + 8) w x → Now γ s w (set t v x)
set_now γ s w x t v free h = record {
  stays = restay γ.base w x w (set t v x) refl refl refl refl h.stays;
  below = λ j a b c. put_other x.temps t j v (free j a b c) ∙ h.below j a b c;
  cost = omega (arith, h.cost);
}

-- the work alone differs
pub now_work : (γ : Goal) (s s' : ℕ) (w v : World) (x : Side) (work : ℕ) → v.store ≡ w.store → work + γ.less + s' ≤ γ.from + 64 * v.work → Now γ s w x → Now γ s' v (record x { work = work })
now_work γ s s' w v x work e le h = record {
  stays = restay γ.base w x v (record x { work = work }) e refl refl refl h.stays;
  below = h.below;
  cost = le;
}

pub spare : (γ : Goal) (s s' : ℕ) (w : World) (x : Side) → s' ≤ s → Now γ s w x → Now γ s' w x
spare γ s s' w x le h = record { stays = h.stays; below = h.below; cost = omega (arith, h.cost, le) }

pub less_now : (γ : Goal) (s : ℕ) (w : World) (x : Side) → Now γ s w x → Now γ 0 w x
less_now γ s w x h = spare γ s 0 w x (omega arith) h

pub paid_now : (γ : Goal) (s : ℕ) (w : World) (x : Side) → Now γ (s + 8) w x → Now γ s w (paid x)
paid_now γ s w x h = now_work γ (s + 8) s w w x (x.work + 8) refl (omega (arith, h.cost)) h

pub fin_now : (γ : Goal) (s : ℕ) (w : World) (x : Side) → Now γ s w x → Fin γ w x
fin_now γ s w x h = record { under = h.stays.fit.under; cost = omega (arith, h.cost) }

-- an end at this point
pub stopped : (γ : Goal) (f : End) (w : World) (x : Side) (m : Res Mid) → Fin γ w x → m ≡ Over (ending f) (mk w x) → Kept γ f w m
stopped γ (Stray span) w x m h e = ([], ap events_of e ∙ sym (append_nil w.events))
stopped γ Halted w x m h e = (x, e, h)
stopped γ (Fault k) w x m h e = (x, e, h)
stopped γ Starved w x m h e = (x, e, h)
stopped γ (Deep span) w x m h e = (x, e, h)
stopped γ OutOfBound w x m h e = (x, e, h)

-- the ends of a part are those of the whole
module _ (γ γ' : Goal) (le : γ.less + γ'.from + γ'.ends ≤ γ'.less + γ.from + γ.ends) where
  wider : (w : World) (x : Side) → Fin γ' w x → Fin γ w x
  wider w x h = record { under = h.under; cost = omega (arith, h.cost, le) }

  pub kept_wider : (f : End) (w : World) (m : Res Mid) → Kept γ' f w m → Kept γ f w m
  kept_wider (Stray span) w m h = h
  kept_wider Halted w m h = (h.0, h.1, wider w h.0 h.2)
  kept_wider (Fault k) w m h = (h.0, h.1, wider w h.0 h.2)
  kept_wider Starved w m h = (h.0, h.1, wider w h.0 h.2)
  kept_wider (Deep span) w m h = (h.0, h.1, wider w h.0 h.2)
  kept_wider OutOfBound w m h = (h.0, h.1, wider w h.0 h.2)

-- the ends pass through what follows
pub kept_through : (γ : Goal) (f : End) (w : World) (m : Res Mid) (go : Res Mid → Res Mid) → ((g : run.Ending) (t : Mid) → go (Over g t) ≡ Over g t) → ((q : Res Mid) → Prefix (events_of q) (events_of (go q))) → Kept γ f w m → Kept γ f w (go m)
kept_through γ (Stray span) w m go h g k = more _ _ _ k (g m)
kept_through γ Halted w m go h g k = (k.0, ap go k.1 ∙ h run.Halted (mk w k.0), k.2)
kept_through γ (Fault n) w m go h g k = (k.0, ap go k.1 ∙ h (run.Fault n) (mk w k.0), k.2)
kept_through γ Starved w m go h g k = (k.0, ap go k.1 ∙ h run.Starved (mk w k.0), k.2)
kept_through γ (Deep span) w m go h g k = (k.0, ap go k.1 ∙ h run.Deep (mk w k.0), k.2)
kept_through γ OutOfBound w m go h g k = (k.0, ap go k.1 ∙ h run.OutOfBound (mk w k.0), k.2)

-- ---- parts

-- after a part's value, in a, whose own temporaries were those from n on
pub value_now : (γ : Goal) (s a n : ℕ) (b : Bool) (w wa : World) (x xa : Side) → Now γ s w x → Free γ a → γ.first ≤ n → Now (goal b a n w x) 0 wa xa → Now γ (s + left b) wa xa
value_now γ s a n b w wa x xa h free le p = record {
  stays = stays_then γ.base w x wa xa h.stays p.stays;
  below = λ j c d e. p.below j (omega (arith, c)) (omega (arith, d, le)) (free j c d e) ∙ h.below j c d e;
  cost = omega (arith, h.cost, p.cost);
}

part_le : (γ : Goal) (s a n : ℕ) (b : Bool) (w : World) (x : Side) → Now γ s w x → γ.less + (goal b a n w x).from + (goal b a n w x).ends ≤ (goal b a n w x).less + γ.from + γ.ends
part_le γ s a n b w x h = omega (arith, h.cost)

-- the temporaries before n stay, but a
abbrev pub Before : (a n : ℕ) → Side → Side → Type 0
Before a n x xa = (j : ℕ) → scratch ≤ j → j < n → eqb j a ≡ false → xa.temps j ≡ x.temps j

-- what follows a cell in a; the outcome came from there
abbrev pub Follows : (γ : Goal) (σ : Way γ) → (s a n : ℕ) → Side → (Mid → Res Mid) → (r : Val) → (of : Cell → World → Val) → (Cell → World → σ.R) → Type 0
Follows γ σ s a n x ka r of go = (v : Cell) (wa : World) (xa : Side) → r ≡ of v wa → Now γ s wa xa → xa.temps a ≡ v → Before a n x xa → σ.T (go v wa) (ka (mk wa xa))

module _ (γ : Goal) (σ : Way γ) (s a n : ℕ) (w : World) (x : Side) (ka : Mid → Res Mid) (h : Now γ s w x) (free : Free γ a) (le : γ.first ≤ n) (g : (t : Mid) → Grows t (ka t)) where
  pub strays : (span : Span) (wa : World) (xa : Side) (m : Res Mid) → m ≡ ka (mk wa xa) → σ.T (σ.stop (Stray span) wa) m
  strays span wa xa m e = σ.stops (Stray span) wa m (subst (λ q. Prefix wa.events (events_of q)) (sym e) (g (mk wa xa)))

  -- a value that is used, of what is no place
  pub bind : (span : Span) (r : Val) (m : Res Mid) → SimV (goal false a n w x) ka false r m → (go : Cell → World → σ.R) → Follows γ σ (s + 28) a n x ka r Value go → σ.T (then_value σ.stop span r go) m
  bind span (Value c wa) m p go f = subst (σ.T (go c wa)) (sym p.2) (f c wa p.1 refl (value_now γ s a n false w wa x p.1 h free le p.3) p.4 (λ j d e ne. p.3.below j (omega (arith, d)) e ne))
  bind span (Place q wa) m p go f = absurd (false≢true p.0)
  bind span (NoValue wa) m p go f = strays span wa p.1 m p.2
  bind span (Stops f wa) m p go _ = σ.stops f wa m (kept_wider γ (goal false a n w x) (part_le γ s a n false w x h) f wa m p)

-- a place that is used
pub bind_place : (γ : Goal) (k : Mid → Res Mid) (b : Bool) (s a n : ℕ) (w : World) (x : Side) (ka : Mid → Res Mid) → Now γ s w x → Free γ a → γ.first ≤ n → ((t : Mid) → Grows t (ka t)) → (pb : Bool) (span : Span) (r : Val) (m : Res Mid) → SimV (goal pb a n w x) ka pb r m → (go : Cell → World → Val) → Follows γ (way_v γ k b) (s + 52) a n x ka r Place go → SimV γ k b (then_place span r go) m
bind_place γ k b s a n w x ka h free le g true span (Place q wa) m p go f =
    subst (SimV γ k b (go q wa)) (sym p.2) (f q wa p.1 refl (value_now γ s a n true w wa x p.1 h free le p.3) p.4 (λ j d e ne. p.3.below j (omega (arith, d)) e ne))
bind_place γ k b s a n w x ka h free le g false span (Place q wa) m p go f = absurd (false≢true p.0)
bind_place γ k b s a n w x ka h free le g pb span (Value c wa) m p go f = strays γ (way_v γ k b) s a n w x ka h free le g span wa p.1 m p.2
bind_place γ k b s a n w x ka h free le g pb span (NoValue wa) m p go f = strays γ (way_v γ k b) s a n w x ka h free le g span wa p.1 m p.2
bind_place γ k b s a n w x ka h free le g pb span (Stops f wa) m p go _ = kept_wider γ (goal pb a n w x) (part_le γ s a n pb w x h) f wa m p

-- ---- operations

abbrev pub L : Site → Lang ℕ
L S = over_worlds temporaries S.code S.frames

abbrev pub M : Site → NodesT ℕ → Mid → Res Mid
M S = does (L S) S.bound S.prev'

pub M_grows : (S : Site) (c : NodesT ℕ) (t : Mid) → Grows t (M S c t)
M_grows S = node_grows S.code S.frames S.bound S.prev' S.grows

-- other temporaries stay
abbrev pub Rest : ℕ → Side → Side → Type 0
Rest t x y = (j : ℕ) → eqb j t ≡ false → y.temps j ≡ x.temps j

module _ (S : Site) where
  -- an operation that sets a temporary, after which f goes on
  pub op_of : (γ : Goal) (σ : Way γ) (s : ℕ) (span : Span) (w : World) (x : Side) (t : ℕ) (q q' : Answer Cell) (o : OpT ℕ) (c : NodesT ℕ) → Now γ (s + 8) w x → Free γ t → Alike q q' → (L S).act o (mk w x) ≡ to temporaries t q' (spent 8 (mk w x)) → (go : Cell → σ.R) → ((v : Cell) → q ≡ Ok v → (y : Side) → Now γ s w y → y.temps t ≡ v → Rest t x y → σ.T (go v) (M S c (mk w y))) → σ.T (asked σ.stop span w q go) (M S (Do o c) (mk w x))
  op_of γ σ s span w x t (Ok v) q' o c h free a e go f =
      subst (σ.T (go v)) (sym (ap (λ d. did d (M S c)) (e ∙ ap (λ q. to temporaries t q (spent 8 (mk w x))) a)))
      (f v refl (set t v x) (set_now γ s w x t v free h) (put_at x.temps t v) (λ j ne. put_other x.temps t j v ne))
  op_of γ σ s span w x t (Err Strays) q' o c h free a e go f = σ.stops (Stray span) w (M S (Do o c) (mk w x)) (M_grows S (Do o c) (mk w x))
  op_of γ σ s span w x t (Err (Faults v)) q' o c h free a e go f =
      σ.stops (Fault v) w (M S (Do o c) (mk w x)) (stopped γ (Fault v) w (paid x) (M S (Do o c) (mk w x)) (fin_now γ s w (paid x) (paid_now γ s w x h)) (ap (λ d. did d (M S c)) (e ∙ ap (λ q. to temporaries t q (spent 8 (mk w x))) a)))

  pub op : (γ : Goal) (σ : Way γ) (s : ℕ) (span : Span) (w : World) (x : Side) (t : ℕ) (q q' : Answer Cell) (o : OpT ℕ) (c : NodesT ℕ) → Now γ (s + 8) w x → Free γ t → Alike q q' → (L S).act o (mk w x) ≡ to temporaries t q' (spent 8 (mk w x)) → (go : Cell → σ.R) → ((v : Cell) (y : Side) → Now γ s w y → y.temps t ≡ v → Rest t x y → σ.T (go v) (M S c (mk w y))) → σ.T (asked σ.stop span w q go) (M S (Do o c) (mk w x))
  op γ σ s span w x t q q' o c h free a e go f = op_of γ σ s span w x t q q' o c h free a e go (λ v qv y hy at rest. f v y hy at rest)

  -- an operation that always sets a temporary
  pub sets : {R : Type 0} (T : R → Res Mid → Type 0) (γ : Goal) (s : ℕ) (w : World) (x : Side) (t : ℕ) (v : Cell) (o : OpT ℕ) (c : NodesT ℕ) → Now γ (s + 8) w x → Free γ t → (L S).act o (mk w x) ≡ to temporaries t (Ok v) (spent 8 (mk w x)) → (r : R) → ((y : Side) → Now γ s w y → y.temps t ≡ v → Rest t x y → T r (M S c (mk w y))) → T r (M S (Do o c) (mk w x))
  sets T γ s w x t v o c h free e r f = subst (T r) (sym (ap (λ d. did d (M S c)) e)) (f (set t v x) (set_now γ s w x t v free h) (put_at x.temps t v) (λ j ne. put_other x.temps t j v ne))
