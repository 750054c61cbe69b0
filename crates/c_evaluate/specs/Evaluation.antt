-- What is left of a run, and what the evaluator answers.
use Rattle.std.specs.Prelude.{ℕ, ◌≡◌, Bool, List, [], ◌∷◌, Option}
use Rattle.kit_base.specs.declared.event.Event.{Event}
use Rattle.c_types.specs.Programs.{ProgramT}
use Rattle.c_meaning.specs.declared.end.End.{End}
use Rattle.c_meaning.specs.Runs.{Final, final_of}
use Rattle.c_evaluate.specs.declared.answer.Advanced.{Advanced}
use Rattle.c_evaluate.specs.declared.answer.Advanced.TheVariants.{Made, Ended}

-- What is left of a run: its port operations in order, and its end.
pub record Left : Type 0 where
  pub events : List Event
  pub end : End

abbrev pub left_of : Final → Left
left_of x = record { events = x.world.events; end = x.end }

-- the whole run of a program, where its frames have these sizes, for a bound, the answers of ports, and a card where one is connected
abbrev pub run_of : ProgramT → (frames : List ℕ) → (bound : ℕ) → (answers : List ℕ) → (card : Option (List ℕ)) → Left
run_of p frames n answers card = left_of (final_of p frames n answers card)

-- A runner: what is left of its run, and whether it has refused.
pub record RunnerT : Type 0 where
  pub left : Left
  pub refused : Bool

-- The next port operation is given, and is left no more; or the end, where none is left.
abbrev pub Gives : Advanced → (before after : Left) → Type 0
Gives (Made e) before after = (before.events ≡ e ∷ after.events) × (before.end ≡ after.end)
Gives (Ended end) before after = (before.events ≡ []) × (before.end ≡ end) × (after ≡ before)
