-- The sweep as a pass: at each point the states agree in what is live there.
use Rattle.std.proofs.Common.{◌≡◌, ℕ, ◌≤◌, Bool, true, false, cond, eqb, List, [], ◌∷◌, ◌++◌, Option, Some, None, refl, sym, ap, ◌∙◌, arith}
use Rattle.std.proofs.lemmas.Bool.{eqb-true, true≢false}
use Rattle.kit_base.specs.declared.event.Event.{Event}
use Rattle.obj_mem.specs.declared.cell.Cell.{Cell}
use Rattle.obj_mem.specs.Stores.{Store}
use Rattle.obj_mem.specs.Worlds.{World, on_store, spend, happened}
use Rattle.mid_code.specs.Code.{OpT, uses, target, maybe, FunctionT, CodeT}
use Rattle.mid_code.specs.Invariants.{AllOf}
use Rattle.mid_code.specs.States.{State, temporaries, put, put_in, in_world, spent, over_worlds, function_at}
use Rattle.mid_code.specs.inner.Passing.{Pass}
use Rattle.mid_improve.specs.Settled.{only_puts}
use Rattle.mid_improve.specs.inner.Wanted.{Set}
use Rattle.mid_improve.specs.inner.Sweep.{left, no_labels, none_live}

-- ---- worlds

-- the same store and port operations, and no more work
pub record SameWorlds (v w : World) : Type 0 where
  pub store : w.store ≡ v.store
  pub events : w.events ≡ v.events
  pub work : w.work ≤ v.work

pub worlds_spend : (v w : World) (n : ℕ) → SameWorlds v w → SameWorlds (spend n v) (spend n w)
worlds_spend v w n a = record { store = a.store; events = a.events; work = let h = a.work in omega (arith, h) }

pub worlds_first : (v w : World) (n : ℕ) → SameWorlds v w → SameWorlds (spend n v) w
worlds_first v w n a = record { store = a.store; events = a.events; work = let h = a.work in omega (arith, h) }

pub worlds_store : (v w : World) (f h : Store → Store) → f ≡ h → SameWorlds v w → SameWorlds (on_store f v) (on_store h w)
worlds_store v w f h e a = record { store = λ i. sym e i (a.store i); events = a.events; work = a.work }

pub worlds_happened : (v w : World) (e : Event) → SameWorlds v w → SameWorlds (happened e v) (happened e w)
worlds_happened v w e a = record { store = a.store; events = ap (λ es. es ++ e ∷ []) a.events; work = a.work }

-- ---- one temporary takes a cell

abbrev pub hits : Option ℕ → ℕ → Bool
hits None r = false
hits (Some t) r = eqb r t

pub put_off : (a : ℕ → Cell) (t : ℕ) (c : Cell) (r : ℕ) → eqb r t ≡ false → put temporaries a t c r ≡ a r
put_off a t c r e = ap (λ x. cond x c (a r)) e

pub put_both : (a b : ℕ → Cell) (t : ℕ) (c d : Cell) (r : ℕ) → c ≡ d → (eqb r t ≡ false → a r ≡ b r) → put temporaries a t c r ≡ put temporaries b t d r
put_both a b t c d r e h = go (eqb r t) refl
  where
    go : (x : Bool) → eqb r t ≡ x → cond x c (a r) ≡ cond x d (b r)
    go true f = e
    go false f = h f

-- ---- states

pub record Agree (live : Set) (s t : State ℕ) : Type 0 where
  pub worlds : SameWorlds s.world t.world
  pub given : s.given ≡ t.given
  pub cells : (r : ℕ) → live r ≡ true → s.cells r ≡ t.cells r

-- what is live behind it is live before it
abbrev pub Less : Set → Set → Type 0
Less i k = (r : ℕ) → k r ≡ true → i r ≡ true

-- and so but for a target
abbrev pub Through : Set → Option ℕ → Set → Type 0
Through i t k = (r : ℕ) → hits t r ≡ false → k r ≡ true → i r ≡ true

abbrev pub Uses : Set → List ℕ → Type 0
Uses i qs = AllOf (λ q. i q ≡ true) qs

pub less_agrees : (i k : Set) (s t : State ℕ) → Less i k → Agree i s t → Agree k s t
less_agrees i k s t h a = record { worlds = a.worlds; given = a.given; cells = λ r n. a.cells r (h r n) }

module _ (i : Set) (s t : State ℕ) (a : Agree i s t) where
  pub world_agrees : (v w : World) → SameWorlds v w → Agree i (in_world v s) (in_world w t)
  world_agrees v w b = record { worlds = b; given = a.given; cells = a.cells }

  pub spent_agrees : (n : ℕ) → Agree i (spent n s) (spent n t)
  spent_agrees n = world_agrees (spend n s.world) (spend n t.world) (worlds_spend s.world t.world n a.worlds)

  -- a temporary takes the same cell
  pub put_agrees : (k : Set) (q : ℕ) (c d : Cell) → Through i (Some q) k → c ≡ d → Agree k (put_in temporaries q c s) (put_in temporaries q d t)
  put_agrees k q c d h e = record { worlds = a.worlds; given = a.given; cells = λ r n. put_both s.cells t.cells q c d r e (λ f. a.cells r (h r f n)) }

  -- a temporary that is not live takes a cell on the first side alone
  pub dead_agrees : (k : Set) (q : ℕ) (c : Cell) → Less i k → k q ≡ false → Agree k (put_in temporaries q c (spent 8 s)) t
  dead_agrees k q c h dead = record {
    worlds = worlds_first s.world t.world 8 a.worlds;
    given = a.given;
    cells = λ r n. put_off s.cells q c r (off r n (eqb r q) refl) ∙ a.cells r (h r n);
  }
    where
      off : (r : ℕ) → k r ≡ true → (x : Bool) → eqb r q ≡ x → eqb r q ≡ false
      off r n true f = absurd (true≢false (sym n ∙ ap k (eqb-true r q f) ∙ dead))
      off r n false f = f

-- ---- the pass

-- an operation stays, or it is taken out
pub data Sweeps (i : Set) (o : OpT ℕ) (ps : List (OpT ℕ)) (k : Set) : Type 0 where
  stays : ps ≡ o ∷ [] → Uses i (uses o) → Through i (target o) k → Sweeps i o ps k
  goes : ps ≡ [] → only_puts o ≡ true → Less i k → ((t : ℕ) → target o ≡ Some t → k t ≡ false) → Sweeps i o ps k

abbrev pub body_left : FunctionT ℕ → Set
body_left f = left f.temps no_labels f.body none_live

abbrev pub opened : CodeT ℕ → Option ℕ → Set
opened x None = body_left x.start
opened x (Some h) = body_left (function_at x h)

abbrev pub sweeping : (x y : CodeT ℕ) → (frames : List ℕ) → Pass (over_worlds temporaries x frames) (over_worlds temporaries y frames)
sweeping x y frames = record {
  K = Option ℕ;
  I = Set;
  fn = λ f. f;
  opens = λ f. opened x f;
  closes = λ f. none_live;
  R = λ f i s t. Agree i s t;
  G = λ f s t. Agree none_live s t;
  E = λ s t. SameWorlds s.world t.world;
  O = λ s t. SameWorlds s.world t.world;
  D = λ s t. SameWorlds s.world t.world;
  ev = λ s. s.world.events;
  ev' = λ t. t.world.events;
  weaker = λ i j. Less i j;
  op = λ f i o ps k. Sweeps i o ps k;
  test = λ f i a b. (b ≡ a) × (i a ≡ true);
  giving = λ f i a b. (b ≡ a) × Uses i (maybe a);
  call = λ f i t h args u brgs k. (u ≡ t) × (brgs ≡ args) × Uses i args × Through i t k;
}
