-- The pass that puts addresses and known words where they are used: how states are alike while an operation is held back.
use Rattle.std.proofs.Common.{◌≡◌, ℕ, ◌+◌, ◌≤◌, Bool, true, false, not, ◌&&◌, ◌||◌, cond, eqb, List, [], ◌∷◌, ◌++◌, Option, Some, None, Ok, refl, sym, ap, ◌∙◌, arith}
use Rattle.std.proofs.lemmas.Bool.{true≢false, false≢true, eqb-true, eq-eqb}
use Rattle.kit_base.specs.declared.event.Event.{Event}
use Rattle.obj_mem.specs.declared.cell.Cell.{Cell}
use Rattle.obj_mem.specs.declared.cell.Cell.TheVariants.{Num, Ptr}
use Rattle.obj_mem.specs.Stores.{Store}
use Rattle.obj_mem.specs.Worlds.{World, on_store, spend, happened}
use Rattle.mid_code.specs.Code.{OpT, ConstO, GlobalO, StepO, CodeT}
use Rattle.mid_code.specs.States.{State, temporaries, put, put_in, stepped, in_world, spent, over_worlds}
use Rattle.mid_code.specs.inner.Passing.{Pass}
use Rattle.mid_improve.specs.declared.sinking.Walk.{Walk}
use Rattle.mid_improve.specs.declared.sinking.Walk.TheVariants as walk
use Rattle.mid_improve.specs.inner.Sinking.{is_free, Held, held_ops, hides, fixes, ops_at, held_behind}
use Rattle.mid_improve.proofs.Tabled.{both}
use Rattle.mid_improve.proofs.SweepPass.{SameWorlds, put_off}

-- ---- worlds

-- the same store and port operations, and at least so much less work
pub record LessWorlds (n : ℕ) (v w : World) : Type 0 where
  pub store : w.store ≡ v.store
  pub events : w.events ≡ v.events
  pub work : w.work + n ≤ v.work

pub less_same : (n : ℕ) (v w : World) → LessWorlds n v w → SameWorlds v w
less_same n v w a = record { store = a.store; events = a.events; work = let h = a.work in omega (arith, h) }

pub less_spend : (n : ℕ) (v w : World) (m : ℕ) → LessWorlds n v w → LessWorlds n (spend m v) (spend m w)
less_spend n v w m a = record { store = a.store; events = a.events; work = let h = a.work in omega (arith, h) }

pub less_store : (n : ℕ) (v w : World) (f h : Store → Store) → f ≡ h → LessWorlds n v w → LessWorlds n (on_store f v) (on_store h w)
less_store n v w f h e a = record { store = λ i. sym e i (a.store i); events = a.events; work = a.work }

pub less_happened : (n : ℕ) (v w : World) (e : Event) → LessWorlds n v w → LessWorlds n (happened e v) (happened e w)
less_happened n v w e a = record { store = a.store; events = ap (λ es. es ++ e ∷ []) a.events; work = a.work }

-- ---- one temporary takes a cell

pub put_on : (a : ℕ → Cell) (t : ℕ) (c : Cell) → put temporaries a t c t ≡ c
put_on a t c = ap (λ x. cond x c (a t)) (eq-eqb t t refl)

put_same : (a b : ℕ → Cell) (t : ℕ) (c d : Cell) (r : ℕ) → c ≡ d → a r ≡ b r → put temporaries a t c r ≡ put temporaries b t d r
put_same a b t c d r e h = go (eqb r t)
  where
    go : (x : Bool) → cond x c (a r) ≡ cond x d (b r)
    go true = e
    go false = h

-- ---- states

-- what is held back weighs so much
abbrev pub held_weight : Held → ℕ
held_weight None = 0
held_weight (Some p) = 8

-- the temporary holds what the operation that is held back puts there; an address is made of two others
abbrev pub Holds : Held → (ℕ → Cell) → Type 0
Holds None a = Unit {0}
Holds (Some (ConstO t word)) a = a t ≡ Num word
Holds (Some (GlobalO t number)) a = a t ≡ Ptr number 0
Holds (Some (StepO t p n)) a = (eqb p t ≡ false) × (eqb n t ≡ false) × (stepped (a p) (a n) ≡ Ok (a t))
Holds (Some p) a = ⊥

pub record Agree (h : Held) (s t : State ℕ) : Type 0 where
  pub worlds : LessWorlds (held_weight h) s.world t.world
  pub given : s.given ≡ t.given
  pub cells : (r : ℕ) → hides h r ≡ false → s.cells r ≡ t.cells r
  pub held : Holds h s.cells

eqb_off : (a b : ℕ) → eqb a b ≡ false → eqb b a ≡ false
eqb_off a b e = go (eqb b a) refl
  where
    go : (x : Bool) → eqb b a ≡ x → eqb b a ≡ false
    go true f = absurd (true≢false (sym (eq-eqb a b (sym (eqb-true b a f))) ∙ e))
    go false f = f

-- neither of two
pub neither : (x y : Bool) → (x || y) ≡ false → (x ≡ false) × (y ≡ false)
neither true y e = absurd (true≢false e)
neither false y e = (refl, e)

holds_put : (h : Held) (a : ℕ → Cell) (q : ℕ) (c : Cell) → fixes h q ≡ false → Holds h a → Holds h (put temporaries a q c)
holds_put None a q c e k = tt
holds_put (Some (ConstO t word)) a q c e k = put_off a q c t (eqb_off q t e) ∙ k
holds_put (Some (GlobalO t number)) a q c e k = put_off a q c t (eqb_off q t e) ∙ k
holds_put (Some (StepO t p n)) a q c e k =
    let all = neither (eqb q t) (eqb q p || eqb q n) e in
    let two = neither (eqb q p) (eqb q n) all.1 in
    let pointer = put_off a q c p (eqb_off q p two.0) in
    let words = put_off a q c n (eqb_off q n two.1) in
    (k.0, k.1, (λ i. stepped (pointer i) (words i)) ∙ k.2 ∙ ap Ok (sym (put_off a q c t (eqb_off q t all.0))))
holds_put (Some _) a q c e k = absurd k

module _ (h : Held) (s t : State ℕ) (a : Agree h s t) where
  pub world_agrees : (v w : World) → LessWorlds (held_weight h) v w → Agree h (in_world v s) (in_world w t)
  world_agrees v w b = record { worlds = b; given = a.given; cells = a.cells; held = a.held }

  pub spent_agrees : (n : ℕ) → Agree h (spent n s) (spent n t)
  spent_agrees n = world_agrees (spend n s.world) (spend n t.world) (less_spend (held_weight h) s.world t.world n a.worlds)

  -- a temporary that need not keep its cell takes the same one
  pub put_agrees : (q : ℕ) (c d : Cell) → fixes h q ≡ false → c ≡ d → Agree h (put_in temporaries q c s) (put_in temporaries q d t)
  put_agrees q c d off e = record {
    worlds = a.worlds;
    given = a.given;
    cells = λ r n. put_same s.cells t.cells q c d r e (a.cells r n);
    held = holds_put h s.cells q c off a.held;
  }

-- ---- what may be held back

abbrev pub Waits : OpT ℕ → Type 0
Waits (ConstO t word) = Unit {0}
Waits (GlobalO t number) = Unit {0}
Waits (StepO t p n) = (eqb p t ≡ false) × (eqb n t ≡ false)
Waits _ = ⊥

both_off : (x y : Bool) → (not x && not y) ≡ true → (x ≡ false) × (y ≡ false)
both_off true y e = absurd (false≢true e)
both_off false true e = absurd (false≢true e)
both_off false false e = (refl, refl)

-- what a walk holds back may be
pub waits : (w : Walk) (h : Held) (o : OpT ℕ) → is_free w h o ≡ true → Waits o
waits walk.Addresses None (GlobalO t number) e = tt
waits walk.Addresses (Some (GlobalO g number)) (StepO t p n) e = both_off (eqb p t) (eqb n t) (both (eqb p g) (not (eqb p t) && not (eqb n t)) e).1
waits walk.Words h (ConstO t word) e = tt
waits walk.Words h (GlobalO t number) e = tt
waits walk.Globals h (GlobalO t number) e = tt
waits walk.Addresses _ _ e = absurd (false≢true e)
waits walk.Words _ _ e = absurd (false≢true e)
waits walk.Globals _ _ e = absurd (false≢true e)

-- ---- the pass

abbrev pub sinking : Walk → (x y : CodeT ℕ) → (frames : List ℕ) → Pass (over_worlds temporaries x frames) (over_worlds temporaries y frames)
sinking w x y frames = record {
  K = Option ℕ;
  I = Held;
  fn = λ f. f;
  opens = λ f. None;
  closes = λ f. None;
  R = λ f h s t. Agree h s t;
  G = λ f s t. Agree None s t;
  E = λ s t. SameWorlds s.world t.world;
  O = λ s t. SameWorlds s.world t.world;
  D = λ s t. SameWorlds s.world t.world;
  ev = λ s. s.world.events;
  ev' = λ t. t.world.events;
  weaker = λ i j. i ≡ j;
  -- what is held back behind the operation may be done at once
  op = λ f h o ps k. (late : Bool) × (ps ≡ ops_at w h o ++ cond late (held_ops (held_behind w h o)) []) × (k ≡ cond late None (held_behind w h o));
  test = λ f h a b. (b ≡ a) × (h ≡ None);
  giving = λ f h a b. (b ≡ a) × (h ≡ None);
  call = λ f h t g args u brgs k. (u ≡ t) × (brgs ≡ args) × (h ≡ None) × (k ≡ None);
}
