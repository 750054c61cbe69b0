-- What any command leaves in the files, at any status.
use Rattle.std.specs.Prelude.{ℕ, ◌≡◌, true, List, ◌++◌, Option, Some, None, Ok, IsSomeAnd}
use Rattle.std.specs.FinMap.{get}
use Rattle.kit_base.specs.Held.{Held}
use Rattle.kit_base.specs.Effects.{Effect, all_done}
use Rattle.output_laws.specs.Begun.{AreFronts}
use Rattle.kit_words.specs.Command.{Command, command_of}
use Rattle.kit_words.specs.Created.{created_names}
use Rattle.kit_words.specs.Forms.{differs_from}
use Rattle.kit_tools.specs.Work.{Work}
use Rattle.kit_core.specs.Due.{form_due}
use Rattle.kit_core.specs.Generating.{front_of}
use Rattle.kit_core.specs.Holding.{RunFrontsStand}

-- What a command begins to do to the files: the effects of its front, or these and then the effects of a work that is due among the files with the
-- front done.
pub data Begins (command : Option Command) (held : Held) (effects : List Effect) : Type 0 where
  begins_front : effects ≡ front_of command → Begins command held effects
  begins_work : (made : Held) → all_done (front_of command) (Some held) ≡ Some made → (work : Work) → form_due command made (Ok work)
      → effects ≡ front_of command ++ work.effects → Begins command held effects

-- the name is none that the command creates
abbrev pub IsNoOutput : Option Command → List ℕ → Type 0
IsNoOutput None name = Unit {0}
IsNoOutput (Some command) name = differs_from name (created_names command) ≡ true

-- Each file that these effects create is as before or holds a front of its bytes, and every other file is as before; so each that is none of the
-- outputs that the words name.
pub record LeavesFronts (words : List (List ℕ)) (held : Held) (after : Option Held) : Type 0 where
  pub effects : List Effect
  pub begun : Begins (command_of words) held effects
  pub fronts : IsSomeAnd after (λ files. AreFronts effects held files)
  pub others : (name : List ℕ) → IsNoOutput (command_of words) name → IsSomeAnd after (λ files. get files name ≡ get held name)

-- so nothing is changed by a run, or it was due, and its files are as before or hold fronts of its frames, its samples and its card
abbrev pub RunsLeaveFronts : Type 0
RunsLeaveFronts = (words : List (List ℕ)) (held : Held) (after : Option Held) → LeavesFronts words held after → RunFrontsStand words held after
