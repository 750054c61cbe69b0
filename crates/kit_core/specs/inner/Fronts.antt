-- What a command with a front answers and leaves, and the parts of `gen`. Only private functions cite this.
use Rattle.std.specs.Prelude.{ℕ, ◌≡◌, ◌⊎◌, List, Option, Some, Result, Ok, Err}
use Rattle.kit_base.specs.Held.{Held}
use Rattle.kit_base.specs.Effects.{Effect, all_done}
use Rattle.kit_base.specs.declared.failure.Failure.TheVariants as failures
use Rattle.kit_tools.specs.declared.refusal.DueRefusal.{DueRefusal}
use Rattle.kit_tools.specs.Refusal.{Refusal}
use Rattle.kit_tools.specs.declared.refusal.RefusalCause.TheVariants as refusals
use Rattle.kit_tools.specs.declared.shown.Shown.{Shown}
use Rattle.kit_tools.specs.Work.{Work}
use Rattle.kit_tools.specs.Carrying.{LeavesBy}
use Rattle.kit_words.specs.Command.{Command}
use Rattle.kit_core.specs.Due.{command_reads, form_due}
use Rattle.kit_core.specs.Generating.{front_of}
use Rattle.kit_core.specs.Outcome.{ComesInFront}

-- the front is done, and what the command leaves is due among the files that are held then
pub record LeavesBehind (front : List Effect) (Due : Held → Result Work DueRefusal → Type 0) (Reads : Held → List ℕ
    → Type 0) (result : Result Shown Refusal) (held : Held) (after : Option Held) : Type 0 where
  pub made : Held
  pub made_is : all_done front (Some held) ≡ Some made
  pub leaves : LeavesBy result (Due made) (Reads made) made after

-- it stopped before its front or inside it
abbrev pub StopsBy : Result Shown Refusal → List Effect → Held → Option Held → Type 0
StopsBy (Ok shown) front held after = ⊥
StopsBy (Err refusal) front held after = ComesInFront refusal front held after

abbrev pub Carries : Result Shown Refusal → Option Command → Held → Option Held → Type 0
Carries result command held after = LeavesBehind (front_of command) (form_due command) (command_reads command) result held after
    ⊎ StopsBy result (front_of command) held after

-- the number of a word, unless memory ran out
abbrev pub GivesNumber : Result ℕ Refusal → Result ℕ DueRefusal → Type 0
GivesNumber (Ok n) number = number ≡ Ok n
GivesNumber (Err (failures.Cause (refusals.Due refusal))) number = number ≡ Err refusal
GivesNumber (Err (failures.Cause (refusals.Failed name))) number = ⊥
GivesNumber (Err failures.Memory) number = Unit {0}
