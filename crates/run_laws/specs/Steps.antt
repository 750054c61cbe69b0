-- What the words of a program have done after some steps, where they agree with what it means.
use Rattle.std.specs.Prelude.{ℕ, ◌≡◌, ◌≢◌, ◌≤◌, ◌⊎◌, List, ◌++◌, Option}
use Rattle.kit_base.specs.declared.event.Event.{Event}
use Rattle.v32_isa.specs.Runs.{End, Going, Undecodable, machine_runs}
use Rattle.v32_isa.specs.Runs as machine
use Rattle.obj_mem.specs.Runs.{Ending, Halted, Fault, Starved, Stray, Deep, OutOfBound, Run, Meaning, IsCard}
use Rattle.mid_code.specs.Agrees.{AgreesWithin}

-- the first operations begin the second
abbrev pub Begins : List Event → List Event → Type 0
Begins front whole = (rest : List Event) × (whole ≡ front ++ rest)

-- The words are still going, and their operations so far begin those of the run that is meant.
pub record HasBegun (meant : Run) (so_far : machine.Run) : Type 0 where
  pub going : so_far.end ≡ Going
  pub begins : Begins so_far.events meant.events

-- The words have made the operations of the run that is meant, no others, and have that end.
pub record HasMade (end : End) (meant : Run) (so_far : machine.Run) : Type 0 where
  pub ended : so_far.end ≡ end
  pub same : so_far.events ≡ meant.events

-- At some number of steps the words have ended so, with the operations that are meant; after these steps they have, or have begun.
pub record EndsSo (end : End) (meant : Run) (runs : ℕ → machine.Run) (steps : ℕ) : Type 0 where
  pub at_last : (last : ℕ) × HasMade end meant (runs last)
  pub so_far : HasBegun meant (runs steps) ⊎ HasMade end meant (runs steps)

-- At some number of steps the words have made the operations that are meant; after these steps they have begun, or made those and perhaps more.
pub record GoesThatFar (meant : Run) (runs : ℕ → machine.Run) (steps : ℕ) : Type 0 where
  pub at_last : (last : ℕ) × HasMade Going meant (runs last)
  pub so_far : HasBegun meant (runs steps) ⊎ Begins meant.events (runs steps).events

-- What the words have done after so many steps, by how the run that is meant with this bound ends. `runs` has the words' run for each number of steps.
abbrev pub HasDone : Ending → (bound : ℕ) → (meant : Run) → (runs : ℕ → machine.Run) → (steps : ℕ) → Type 0
HasDone Halted bound meant runs steps = EndsSo machine.Halted meant runs steps
HasDone (Fault number) bound meant runs steps = EndsSo (machine.Fault number) meant runs steps
HasDone Starved bound meant runs steps = EndsSo machine.Starved meant runs steps
HasDone OutOfBound bound meant runs steps = steps ≤ bound → HasBegun meant (runs steps)
HasDone Stray bound meant runs steps = GoesThatFar meant runs steps
HasDone Deep bound meant runs steps = GoesThatFar meant runs steps

-- For every bound and every number of steps. For as many steps there is always a bound that tells: the same number.
abbrev pub StepsAreMeant : Type 0
StepsAreMeant =
    (times : ℕ) (addresses : List ℕ) (meaning : Meaning) (words : List ℕ) → AgreesWithin times addresses meaning words
    → (bound : ℕ) (answers : List ℕ) (card : Option (List ℕ)) → IsCard card
    → (steps : ℕ) → HasDone (meaning bound answers card).end bound (meaning bound answers card) (machine_runs words answers card) steps

-- Where the run that is meant neither strays nor has no room for a frame, no word that cannot be decoded is fetched within as many steps as its bound.
abbrev pub NoWordIsUndecodable : Type 0
NoWordIsUndecodable =
    (times : ℕ) (addresses : List ℕ) (meaning : Meaning) (words : List ℕ) → AgreesWithin times addresses meaning words
    → (bound : ℕ) (answers : List ℕ) (card : Option (List ℕ)) → IsCard card
    → (meaning bound answers card).end ≢ Stray → (meaning bound answers card).end ≢ Deep
    → (steps address : ℕ) → steps ≤ bound → (machine_runs words answers card steps).end ≢ Undecodable address
