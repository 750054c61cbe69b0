-- How states are alike before and after promotion.
use Rattle.std.specs.Prelude.{◌≡◌, ℕ, zero, suc, ◌+◌, ◌≤◌, ◌<◌, true, false, List, [], ◌∷◌, ◌++◌, length, Option, Some, None}
use Rattle.obj_mem.specs.declared.cell.Cell.{Cell}
use Rattle.obj_mem.specs.declared.cell.Cell.TheVariants.{Unwritten, Num, Ptr, Null}
use Rattle.obj_mem.specs.declared.cell.ObjectKind.TheVariants.{Local}
use Rattle.obj_mem.specs.Objects.{ObjectT, object_at, cell_at}
use Rattle.obj_mem.specs.Stores.{Sizes, local_object, words_here}
use Rattle.obj_mem.specs.Worlds.{World}
use Rattle.mid_code.specs.Code.{CodeT, maybe}
use Rattle.mid_code.specs.Live.{is_among}
use Rattle.mid_code.specs.States.{State, temporaries, over_worlds, sizes_of, function_at}
use Rattle.mid_code.specs.inner.Passing.{Pass}
use Rattle.mid_code.specs.inner.Alike.{Known, Twin}
use Rattle.mid_code.specs.inner.Programs.{SoFar, KeptWorlds}
use Rattle.mid_scalars.specs.inner.Plan.{Own, Address, Variable, Plan, promoted_op, GoodOp, AllOwn}

-- What became of an object: it is not there yet, it was of a promoted local of its call, or it is this object.
pub data Name : Type 0 where
  Nowhere : Name
  Away : (local : ℕ) → Name
  Here : (number : ℕ) → Name

abbrev pub name_at : List Name → ℕ → Name
name_at [] o = Nowhere
name_at (x ∷ xs) zero = x
name_at (x ∷ xs) (suc o) = name_at xs o

abbrev pub IsHere : List Name → ℕ → ℕ → Type 0
IsHere ns o p = name_at ns o ≡ Here p

pub record Mem (ns : List Name) (xs ys : List ObjectT) : Type 0 where
  pub long : length ns ≡ length xs
  pub below : (o p : ℕ) → IsHere ns o p → p < length ys
  pub one : (o q p : ℕ) → IsHere ns o p → IsHere ns q p → o ≡ q
  pub twin : (o p : ℕ) → IsHere ns o p → Twin (IsHere ns) (object_at xs o) (object_at ys p)

-- the address of a promoted local: where its object lives, it is the one made last
abbrev pub Points : List Name → World → ℕ → Cell → Type 0
Points ns v k Unwritten = Unit {0}
Points ns v k (Num n) = ⊥
Points ns v k (Ptr o i) = (i ≡ 0) × (name_at ns o ≡ Away k) × ((object_at v.store.objects o).lives ≡ true → local_object v.store.locals k ≡ Some o)
Points ns v k Null = ⊥

abbrev pub LocalKnown : List Name → Option ℕ → Option ℕ → Type 0
LocalKnown ns None m = m ≡ None
LocalKnown ns (Some o) m = (p : ℕ) × IsHere ns o p × (m ≡ Some p)

-- what a call began with
pub record Begun : Type 0 where
  pub fn : Option ℕ
  pub names : List Name
  pub objects : List ObjectT
  pub base : ℕ

-- names come at the end, and the new ones stand above the base
pub record Later (ns : List Name) (base : ℕ) (ms : List Name) : Type 0 where
  pub rest : List Name
  pub is : ms ≡ ns ++ rest
  pub above : (o p : ℕ) → IsHere rest o p → base ≤ p

-- what holds of objects through a call, whatever its temporaries; so many objects were there at the opening
pub record Core (opened : ℕ) (κ : Begun) (ns : List Name) (xs ys : List ObjectT) : Type 0 where
  pub later : Later κ.names κ.base ns
  pub base_in : κ.base ≤ length ys
  pub mem : Mem ns xs ys
  pub frozen : (o k : ℕ) → name_at κ.names o ≡ Away k → object_at xs o ≡ object_at κ.objects o
  pub fixed : (o : ℕ) → o < opened → IsHere ns o o

-- the cell of a promoted local that lives
pub record Holds (ns : List Name) (x : ObjectT) (c : Cell) : Type 0 where
  pub kind : x.kind ≡ Local
  pub long : length x.cells ≡ 1
  pub cell : Known (IsHere ns) (cell_at x 0) c

-- the sizes of locals fit the plan, on both sides
abbrev pub count_of : Sizes → Option ℕ → ℕ
count_of z None = 0
count_of z (Some f) = length (z.locals f)

pub record Fits (X : Plan) (x y : CodeT ℕ) (frames : List ℕ) : Type 0 where
  pub globals : y.globals ≡ x.globals
  pub literals : y.literals ≡ x.literals
  pub main : y.main ≡ x.main
  pub params : (g : ℕ) → (function_at y g).params ≡ (function_at x g).params
  pub params_own : (g q : ℕ) → is_among (function_at x g).params q ≡ true → X.kind (Some g) q ≡ Own
  pub in_range : (f : Option ℕ) (k : ℕ) → X.promoted f k ≡ true → k < count_of (sizes_of x frames) f
  pub one_word : (f : Option ℕ) (k : ℕ) → X.promoted f k ≡ true → words_here (sizes_of x frames) f k ≡ 1
  pub words : (f : Option ℕ) (k : ℕ) → k < count_of (sizes_of x frames) f → X.promoted f k ≡ false
      → words_here (sizes_of y frames) f (X.moved f k) ≡ words_here (sizes_of x frames) f k
  pub moved_in : (f : Option ℕ) (k : ℕ) → k < count_of (sizes_of x frames) f → X.promoted f k ≡ false → X.moved f k < count_of (sizes_of y frames) f
  pub moved_apart : (f : Option ℕ) (k l : ℕ) → k < count_of (sizes_of x frames) f → l < count_of (sizes_of x frames) f → X.promoted f k ≡ false
      → X.promoted f l ≡ false → X.moved f k ≡ X.moved f l → k ≡ l
  pub address_is : (f : Option ℕ) (q k : ℕ) → X.kind f q ≡ Address k → X.promoted f k ≡ true
  pub variable_is : (f : Option ℕ) (k : ℕ) → X.promoted f k ≡ true → X.kind f (X.variable f k) ≡ Variable k

pub record Alive (X : Plan) (x y : CodeT ℕ) (frames : List ℕ) (κ : Begun) (s t : State ℕ) : Type 0 where
  pub names : List Name
  pub core : Core (suc (length x.globals + length x.literals)) κ names s.world.store.objects t.world.store.objects
  pub answers : t.world.store.answers ≡ s.world.store.answers
  pub events : t.world.events ≡ s.world.events
  pub work : t.world.work ≤ s.world.work
  pub fn : s.world.store.function ≡ κ.fn
  pub fn' : t.world.store.function ≡ κ.fn
  pub used : t.world.store.used ≡ s.world.store.used
  pub count : length s.world.store.locals ≡ count_of (sizes_of x frames) κ.fn
  pub count' : length t.world.store.locals ≡ count_of (sizes_of y frames) κ.fn
  pub own : (q : ℕ) → X.kind κ.fn q ≡ Own → Known (IsHere names) (s.cells q) (t.cells q)
  pub address : (q k : ℕ) → X.kind κ.fn q ≡ Address k → Points names s.world k (s.cells q)
  pub hidden : (k o : ℕ) → X.promoted κ.fn k ≡ true → local_object s.world.store.locals k ≡ Some o → (name_at names o ≡ Away k) × (length κ.names ≤ o)
  pub variable : (k o : ℕ) → X.promoted κ.fn k ≡ true → local_object s.world.store.locals k ≡ Some o
      → (object_at s.world.store.objects o).lives ≡ true → Holds names (object_at s.world.store.objects o) (t.cells (X.variable κ.fn k))
  pub locals : (k : ℕ) → k < count_of (sizes_of x frames) κ.fn → X.promoted κ.fn k ≡ false
      → LocalKnown names (local_object s.world.store.locals k) (local_object t.world.store.locals (X.moved κ.fn k))

-- behind a return, also the result is known
pub record Given (X : Plan) (x y : CodeT ℕ) (frames : List ℕ) (κ : Begun) (s t : State ℕ) : Type 0 where
  pub alive : Alive X x y frames κ s t
  pub result : Known (IsHere alive.names) s.given t.given

abbrev pub KeptStates : CodeT ℕ → State ℕ → State ℕ → Type 0
KeptStates x s t = KeptWorlds (length x.globals) (length x.globals + length x.literals) s.world t.world

abbrev pub promoting : Plan → (x y : CodeT ℕ) → (frames : List ℕ) → Pass (over_worlds temporaries x frames) (over_worlds temporaries y frames)
promoting X x y frames = record {
  K = Begun;
  I = Unit {0};
  fn = λ κ. κ.fn;
  opens = λ f. tt;
  closes = λ f. tt;
  R = λ κ i s t. Alive X x y frames κ s t;
  G = λ κ s t. Given X x y frames κ s t;
  E = KeptStates x;
  O = KeptStates x;
  D = λ s t. SoFar s.world t.world;
  ev = λ s. s.world.events;
  ev' = λ t. t.world.events;
  weaker = λ i j. Unit {0};
  op = λ f i o ps k. (ps ≡ promoted_op X f o) × GoodOp X (length x.globals) (length x.literals) f (count_of (sizes_of x frames) f) o;
  test = λ f i a b. (b ≡ a) × (X.kind f a ≡ Own);
  giving = λ f i a b. (b ≡ a) × AllOwn X f (maybe a);
  call = λ f i t g args u brgs k. (u ≡ t) × (brgs ≡ args) × AllOwn X f (maybe t) × AllOwn X f args;
}
