-- Why the command of some words is refused, whatever is told of the files.
use Rattle.std.specs.Prelude.{ℕ, ◌≡◌, ◌≤◌, List, Option, None, Result, Ok, Err}
use Rattle.kit_base.specs.Held.{Held}
use Rattle.kit_base.specs.Counts.{Counts}
use Rattle.kit_base.specs.declared.failure.Failure.TheVariants as failures
use Rattle.kit_tools.specs.declared.refusal.DueRefusal.TheVariants as dues
use Rattle.kit_tools.specs.Refusal.{Refusal}
use Rattle.kit_tools.specs.declared.refusal.RefusalCause.TheVariants as refusals
use Rattle.kit_tools.specs.declared.shown.Shown.{Shown}
use Rattle.kit_tools.specs.Causes.{HasCause}
use Rattle.kit_words.specs.Command.{command_of}
use Rattle.kit_core.specs.Limits.{IsOver}

-- Words are at fault only where they are no command; every other refusal has the cause of the command that they name.
abbrev pub HasReason : List (List ℕ) → Option Held → Refusal → (before after : Counts) → Type 0
HasReason words held (failures.Cause (refusals.Due dues.Usage)) before after = command_of words ≡ None
HasReason words held refusal before after = HasCause (IsOver words held) refusal before after

abbrev pub HasReasonIn : List (List ℕ) → Option Held → Result Shown Refusal → (before after : Counts) → Type 0
HasReasonIn words held (Ok shown) before after = Unit {0}
HasReasonIn words held (Err refusal) before after = HasReason words held refusal before after

-- no count falls, and each refusal has its reason
pub record HasReasons (words : List (List ℕ)) (held : Option Held) (result : Result Shown Refusal) (before after : Counts) : Type 0 where
  pub faults_later : before.faults ≤ after.faults
  pub misses_later : before.misses ≤ after.misses
  pub overs_later : before.overs ≤ after.overs
  pub reason : HasReasonIn words held result before after

-- the words are refused, unless memory ran out
abbrev pub IsUsage : Result Shown Refusal → Type 0
IsUsage (Err (failures.Cause (refusals.Due dues.Usage))) = Unit {0}
IsUsage (Err failures.Memory) = Unit {0}
IsUsage result = ⊥
