-- Whether the meaning of a program fails before a recorded run is over. Of the recorded run it is known how many port operations it made, and whether it
-- ended.
use Rattle.std.specs.Prelude.{ℕ, ◌≡◌, ◌<◌, ◌⊎◌, Bool, true, ◌||◌, nat_lt, List, length, Option, if◌then◌else◌}
use Rattle.c_types.specs.Programs.{ProgramT}
use Rattle.c_meaning.specs.declared.end.End.{End}
use Rattle.c_meaning.specs.declared.end.End.TheVariants as end
use Rattle.c_meaning.specs.Runs.{Final, final_of}
use Rattle.c_watch.specs.declared.verdict.Watched.{Watched}
use Rattle.c_watch.specs.declared.verdict.Watched.TheVariants.{Met, Stray, Deep}

-- it strays, or a call has no room for its frame
abbrev pub Fails : End → Type 0
Fails end.Halted = ⊥
Fails (end.Fault number) = ⊥
Fails end.Starved = ⊥
Fails (end.Stray span) = Unit {0}
Fails (end.Deep span) = Unit {0}
Fails end.OutOfBound = ⊥

-- It fails before: where the recorded run ended, at any time; where it did not, with fewer port operations than the recorded run made.
pub record FailsBefore (events : ℕ) (ended : Bool) (x : Final) : Type 0 where
  pub fails : Fails x.end
  pub before : (ended ≡ true) ⊎ (length x.world.events < events)

-- the verdict on an end
abbrev pub verdict_of : End → Watched
verdict_of end.Halted = Met
verdict_of (end.Fault number) = Met
verdict_of end.Starved = Met
verdict_of (end.Stray span) = Stray span
verdict_of (end.Deep span) = Deep span
verdict_of end.OutOfBound = Met

-- the end, with its place, where the run fails before
unfoldable pub watched_by : (events : ℕ) → (ended : Bool) → Final → Watched
watched_by events ended x = if ended || nat_lt (length x.world.events) events then verdict_of x.end else Met

-- the program is kept to: with no bound does it fail before
abbrev pub Kept : ProgramT → (frames answers : List ℕ) → (card : Option (List ℕ)) → (events : ℕ) → (ended : Bool) → Type 0
Kept p frames answers card events ended = (n : ℕ) → FailsBefore events ended (final_of p frames n answers card) → ⊥

-- what a verdict tells
pub record Tells (events : ℕ) (ended : Bool) (x : Final) : Type 0 where
  pub met : watched_by events ended x ≡ Met → FailsBefore events ended x → ⊥
  pub else_met : (FailsBefore events ended x → ⊥) → watched_by events ended x ≡ Met
  pub fails : FailsBefore events ended x → watched_by events ended x ≡ verdict_of x.end

abbrev pub VerdictsTell : Type 0
VerdictsTell = (events : ℕ) (ended : Bool) (x : Final) → Tells events ended x
