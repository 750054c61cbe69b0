-- A pass over whole programs: what its start, the call of main and its ends are, so that it keeps runs.
use Rattle.std.specs.Prelude.{ℕ, ◌≡◌, ◌≤◌, ◌<◌, ◌+◌, List, [], Option, Some, None, slice_get, length}
use Rattle.obj_mem.specs.declared.cell.Cell.TheVariants.{Num}
use Rattle.obj_mem.specs.Objects.{ObjectT, object_at}
use Rattle.obj_mem.specs.Worlds.{World}
use Rattle.obj_mem.specs.Runs.{IsCard}
use Rattle.mid_code.specs.Code.{CodeT}
use Rattle.mid_code.specs.States.{Places, State, over_worlds}
use Rattle.mid_code.specs.Runs.{opening}
use Rattle.mid_code.specs.inner.Passing.{Pass, Like, Keeps}

-- the same port operations, and no more work
pub record SoFar (v w : World) : Type 0 where
  pub events : w.events ≡ v.events
  pub work : w.work ≤ v.work

-- a word of an object is kept, in the object of the same number
abbrev pub KeepsObject : (xs ys : List ObjectT) → ℕ → Type 0
KeepsObject xs ys o = (i n : ℕ) → slice_get (object_at xs o).cells i ≡ Some (Num n) → slice_get (object_at ys o).cells i ≡ Some (Num n)

-- and all words of the globals and of the card, which have the first numbers and this one
pub record KeptWorlds (globals card : ℕ) (v w : World) : Type 0 where
  pub so_far : SoFar v w
  pub there : (o : ℕ) → o < globals → o < length v.store.objects → o < length w.store.objects
  pub of_globals : (o : ℕ) → o < globals → KeepsObject v.store.objects w.store.objects o
  pub of_card : KeepsObject v.store.objects w.store.objects card

pub record Program {P P' : Type 0} (k : Places P) (k' : Places P') (x : CodeT P) (x' : CodeT P') (frames frames' : List ℕ)
    (X : Pass (over_worlds k x frames) (over_worlds k' x' frames')) : Type 0 where
  pub keeps : Keeps (over_worlds k x frames) (over_worlds k' x' frames') X
  pub ev : (s : State P) → X.ev s ≡ s.world.events
  pub ev' : (t : State P') → X.ev' t ≡ t.world.events
  pub globals : length x'.globals ≡ length x.globals
  pub literals : length x'.literals ≡ length x.literals
  pub main : x'.main ≡ x.main
  -- the start
  pub begun : X.K
  pub of_start : X.fn begun ≡ None
  pub start : Like X None [] (X.opens None) x.start.body x'.start.body (X.closes None)
  pub opening : (answers : List ℕ) (card : Option (List ℕ)) → IsCard card → X.R begun (X.opens None) (opening x answers card) (opening x' answers card)
  -- also behind a return it goes on to main
  pub goes : (s : State P) (t : State P') → X.G begun s t → X.R begun (X.closes None) s t
  pub call : X.call None (X.closes None) None x.main [] None [] (X.closes None)
  -- the ends
  pub ended : (s : State P) (t : State P') → X.E s t → KeptWorlds (length x.globals) (length x.globals + length x.literals) s.world t.world
  pub out : (s : State P) (t : State P') → X.O s t → KeptWorlds (length x.globals) (length x.globals + length x.literals) s.world t.world
  pub deep : (s : State P) (t : State P') → X.D s t → SoFar s.world t.world
