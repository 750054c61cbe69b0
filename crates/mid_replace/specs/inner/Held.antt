-- How states are alike before and after the words of some locals are held in temporaries.
use Rattle.std.specs.Prelude.{◌≡◌, ℕ, suc, ◌+◌, ◌≤◌, ◌<◌, true, false, List, length, Option, Some}
use Rattle.obj_mem.specs.declared.cell.Cell.{Cell}
use Rattle.obj_mem.specs.declared.cell.Cell.TheVariants.{Unwritten, Num, Ptr, Null}
use Rattle.obj_mem.specs.declared.cell.ObjectKind.TheVariants.{Local}
use Rattle.obj_mem.specs.Objects.{ObjectT, object_at, cell_at}
use Rattle.obj_mem.specs.Stores.{local_object, words_here}
use Rattle.obj_mem.specs.Worlds.{World}
use Rattle.mid_code.specs.Code.{CodeT, maybe, uses, target}
use Rattle.mid_code.specs.States.{State, temporaries, over_worlds, sizes_of, function_at}
use Rattle.mid_code.specs.Invariants.{AllOf}
use Rattle.mid_code.specs.inner.Passing.{Pass}
use Rattle.mid_code.specs.inner.Alike.{Known}
use Rattle.mid_code.specs.inner.Programs.{SoFar}
use Rattle.mid_scalars.specs.inner.Named.{Name, Away, name_at, IsHere, LocalKnown, Begun, Core, count_of, KeptStates}
use Rattle.mid_replace.specs.inner.Facts.{Fact, Plain, Word, Place, Any, Plan, Weaker, IsPlain, with_target, facts_behind, Follows, replaced_op, IsFine}

-- the address of a word of a local that is held: where its object lives, it is the one made last
abbrev pub Points : List Name → World → (k w : ℕ) → Cell → Type 0
Points ns v k w Unwritten = Unit {0}
Points ns v k w (Num n) = ⊥
Points ns v k w (Ptr o i) = (i ≡ w) × (name_at ns o ≡ Away k) × ((object_at v.store.objects o).lives ≡ true → local_object v.store.locals k ≡ Some o)
Points ns v k w Null = ⊥

-- what a fact tells of the cells of a temporary on both sides
abbrev pub Tells : List Name → World → Fact → (c d : Cell) → Type 0
Tells ns v Plain c d = Known (IsHere ns) c d
Tells ns v (Word n) c d = (c ≡ Num n) × (d ≡ Num n)
Tells ns v (Place k w) c d = Points ns v k w c
Tells ns v Any c d = Unit {0}

-- the cells of a local that is held and lives
pub record Holds (ns : List Name) (size : ℕ) (x : ObjectT) (cells : ℕ → Cell) : Type 0 where
  pub kind : x.kind ≡ Local
  pub long : length x.cells ≡ size
  pub cell : (w : ℕ) → w < size → Known (IsHere ns) (cell_at x w) (cells w)

-- sizes and temporaries fit the plan
pub record Fits (X : Option ℕ → Plan) (x y : CodeT ℕ) (frames : List ℕ) : Type 0 where
  pub globals : y.globals ≡ x.globals
  pub literals : y.literals ≡ x.literals
  pub main : y.main ≡ x.main
  pub params : (g : ℕ) → (function_at y g).params ≡ (function_at x g).params
  pub locals : (g : ℕ) → (function_at y g).locals ≡ (function_at x g).locals
  pub in_range : (f : Option ℕ) (k : ℕ) → (X f).held k ≡ true → k < count_of (sizes_of x frames) f
  pub words : (f : Option ℕ) (k : ℕ) → (X f).held k ≡ true → (X f).size k ≡ words_here (sizes_of x frames) f k
  pub above : (f : Option ℕ) (k w : ℕ) → (X f).held k ≡ true → w < (X f).size k → (X f).temps ≤ (X f).variable k w
  pub apart : (f : Option ℕ) (j k w v : ℕ) → (X f).held j ≡ true → (X f).held k ≡ true → w < (X f).size j → v < (X f).size k → (X f).variable j w ≡ (X f).variable k v
      → (j ≡ k) × (w ≡ v)
  -- when a function begins, all may be known to be plain
  pub base : (f : Option ℕ) (q : ℕ) → Weaker Plain ((X f).base q)

pub record Alive (X : Option ℕ → Plan) (x y : CodeT ℕ) (frames : List ℕ) (κ : Begun) (i : ℕ → Fact) (s t : State ℕ) : Type 0 where
  pub names : List Name
  pub core : Core (suc (length x.globals + length x.literals)) κ names s.world.store.objects t.world.store.objects
  pub answers : t.world.store.answers ≡ s.world.store.answers
  pub events : t.world.events ≡ s.world.events
  pub work : t.world.work ≤ s.world.work
  pub fn : s.world.store.function ≡ κ.fn
  pub fn' : t.world.store.function ≡ κ.fn
  pub used : t.world.store.used ≡ s.world.store.used
  pub count : length s.world.store.locals ≡ count_of (sizes_of x frames) κ.fn
  pub count' : length t.world.store.locals ≡ count_of (sizes_of x frames) κ.fn
  pub known : (q : ℕ) → q < (X κ.fn).temps → Tells names s.world (i q) (s.cells q) (t.cells q)
  pub hidden : (k o : ℕ) → (X κ.fn).held k ≡ true → local_object s.world.store.locals k ≡ Some o → (name_at names o ≡ Away k) × (length κ.names ≤ o)
  -- the object that the second side makes for a local that is held is no other's
  pub spare : (k p : ℕ) → (X κ.fn).held k ≡ true → local_object t.world.store.locals k ≡ Some p → (p < length t.world.store.objects) × ((o : ℕ) → IsHere names o p → ⊥)
  pub holds : (k o : ℕ) → (X κ.fn).held k ≡ true → local_object s.world.store.locals k ≡ Some o → (object_at s.world.store.objects o).lives ≡ true
      → Holds names ((X κ.fn).size k) (object_at s.world.store.objects o) (λ w. t.cells ((X κ.fn).variable k w))
  pub locals : (k : ℕ) → k < count_of (sizes_of x frames) κ.fn → (X κ.fn).held k ≡ false
      → LocalKnown names (local_object s.world.store.locals k) (local_object t.world.store.locals k)

-- behind a return, also the result is known
pub record Given (X : Option ℕ → Plan) (x y : CodeT ℕ) (frames : List ℕ) (κ : Begun) (s t : State ℕ) : Type 0 where
  pub alive : Alive X x y frames κ ((X κ.fn).base) s t
  pub result : Known (IsHere alive.names) s.given t.given

abbrev pub AllNamed : Plan → List ℕ → Type 0
AllNamed X qs = AllOf (λ q. q < X.temps) qs

abbrev pub AllPlain : (ℕ → Fact) → List ℕ → Type 0
AllPlain i qs = AllOf (λ q. IsPlain (i q)) qs

abbrev pub replacing : (Option ℕ → Plan) → (x y : CodeT ℕ) → (frames : List ℕ) → Pass (over_worlds temporaries x frames) (over_worlds temporaries y frames)
replacing X x y frames = record {
  K = Begun;
  I = ℕ → Fact;
  fn = λ κ. κ.fn;
  opens = λ f. (X f).base;
  closes = λ f. (X f).base;
  R = λ κ i s t. Alive X x y frames κ i s t;
  G = λ κ s t. Given X x y frames κ s t;
  E = KeptStates x;
  O = KeptStates x;
  D = λ s t. SoFar s.world t.world;
  ev = λ s. s.world.events;
  ev' = λ t. t.world.events;
  weaker = λ i j. Follows i j;
  op = λ f i o ps k. (ps ≡ replaced_op (X f) i o) × IsFine (X f) (length x.globals) (length x.literals) (count_of (sizes_of x frames) f) i o
      × AllNamed (X f) (uses o) × AllNamed (X f) (maybe (target o)) × Follows (facts_behind (X f) i o) k;
  test = λ f i a b. (b ≡ a) × IsPlain (i a) × (a < (X f).temps);
  giving = λ f i a b. (b ≡ a) × AllPlain i (maybe a) × AllNamed (X f) (maybe a) × Follows i ((X f).base);
  call = λ f i t g args u brgs k. (u ≡ t) × (brgs ≡ args) × AllPlain i args × AllNamed (X f) args × AllNamed (X f) (maybe t) × Follows (with_target t Plain i) k;
}
