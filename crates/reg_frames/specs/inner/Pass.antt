-- The pass from temporaries to places: how states are alike.
use Rattle.std.specs.Prelude.{ℕ, ◌≡◌, ◌≢◌, Bool, true, false, List, [], ◌∷◌, map, length, Option, Some, None}
use Rattle.obj_mem.specs.Worlds.{World}
use Rattle.mid_code.specs.declared.placed.Where.{Where}
use Rattle.mid_code.specs.Code.{CodeT, uses, target, maybe}
use Rattle.mid_code.specs.Live.{is_among, live_before, is_live_at}
use Rattle.mid_code.specs.Safe.{IsSlot}
use Rattle.mid_code.specs.States.{State, temporaries, registers_and_slots, over_worlds, function_at}
use Rattle.mid_code.specs.inner.Passing.{Pass}
use Rattle.mid_code.specs.inner.Alike.{Known, Memory}
use Rattle.reg_frames.specs.inner.Placing.{placed_op, placed_maybe}

-- objects keep their numbers
abbrev pub SameNumber : ℕ → ℕ → Type 0
SameNumber o p = o ≡ p

pub record WorldsAlike (v w : World) : Type 0 where
  pub count : length w.store.objects ≡ length v.store.objects
  pub memory : Memory SameNumber v.store.objects w.store.objects
  pub answers : w.store.answers ≡ v.store.answers
  pub function : w.store.function ≡ v.store.function
  pub locals : w.store.locals ≡ v.store.locals
  pub used : w.store.used ≡ v.store.used
  pub events : w.events ≡ v.events
  pub work : w.work ≡ v.work

-- the live temporaries, at a point
abbrev pub LiveSet : Type 0
LiveSet = ℕ → Bool

-- What is live is unwritten, or stands in its place.
pub record StatesAlike (w : ℕ → Where) (live : LiveSet) (s : State ℕ) (t : State Where) : Type 0 where
  pub worlds : WorldsAlike s.world t.world
  pub cells : (x : ℕ) → live x ≡ true → Known SameNumber (s.cells x) (t.cells (w x))

-- a target stands in no place of another temporary that is live behind it
abbrev pub Apart : (ℕ → Where) → Option ℕ → LiveSet → Type 0
Apart w t live = (x y : ℕ) → t ≡ Some x → live y ≡ true → w x ≡ w y → x ≡ y

-- what is live before a node
abbrev pub Before : (used target : List ℕ) → (before behind : LiveSet) → Type 0
Before used target before behind = (x : ℕ) → before x ≡ live_before (is_among used x) (is_among target x) (behind x)

abbrev pub AllLive : LiveSet → List ℕ → Type 0
AllLive live [] = Unit {0}
AllLive live (x ∷ xs) = (live x ≡ true) × AllLive live xs

-- over a call only slots stay
abbrev pub Stays : (ℕ → Where) → Option ℕ → LiveSet → Type 0
Stays w t live = (y : ℕ) → live y ≡ true → t ≢ Some y → IsSlot (w y)

-- the pass, by the places of each function's temporaries
abbrev pub places_pass : (w : Option ℕ → ℕ → Where) → (x : CodeT ℕ) → (y : CodeT Where) → (frames frames' : List ℕ)
    → Pass (over_worlds temporaries x frames) (over_worlds registers_and_slots y frames')
places_pass w x y frames frames' = record {
  K = Option ℕ;
  I = LiveSet;
  fn = λ f. f;
  opens = λ f. opens f;
  closes = λ f. λ q. false;
  R = λ f live s t. StatesAlike (w f) live s t;
  G = λ f s t. StatesAlike (w f) (λ q. false) s t × Known SameNumber s.given t.given;
  E = λ s t. WorldsAlike s.world t.world;
  O = λ s t. WorldsAlike s.world t.world;
  D = λ s t. WorldsAlike s.world t.world;
  ev = λ s. s.world.events;
  ev' = λ t. t.world.events;
  weaker = λ i j. (q : ℕ) → j q ≡ true → i q ≡ true;
  op = λ f i o ps k. (ps ≡ placed_op (w f) o ∷ []) × Before (uses o) (maybe (target o)) i k × Apart (w f) (target o) k;
  test = λ f i a b. (b ≡ w f a) × (i a ≡ true);
  giving = λ f i a b. (b ≡ placed_maybe (w f) a) × AllLive i (maybe a);
  call = λ f i t g args u brgs k. (u ≡ placed_maybe (w f) t) × (brgs ≡ map (w f) args) × Before args (maybe t) i k × Apart (w f) t k × Stays (w f) t k;
}
  where
    opens : Option ℕ → LiveSet
    opens None = λ q. is_live_at q [] x.start.body
    opens (Some g) = λ q. is_live_at q [] (function_at x g).body
