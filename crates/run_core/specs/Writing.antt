-- What a part of a run left of its outputs, and why it was refused.
use Rattle.std.specs.Prelude.{ℕ, ◌≡◌, ◌≤◌, List, Option, Some, Result, Ok, Err, IsTrue, IfSome}
use Rattle.std.specs.Option.{option_map}
use Rattle.std.specs.FinMap.{contains_key}
use Rattle.kit_base.specs.Held.{Held}
use Rattle.kit_base.specs.Effects.{Effect, all_done, CutShort}
use Rattle.kit_base.specs.Counts.{Counts, Rose}
use Rattle.kit_base.specs.declared.outside.FileErr.{FileErr}
use Rattle.kit_base.specs.declared.outside.FileErr.TheVariants as errors
use Rattle.run_core.specs.declared.output.Output.{Output}
use Rattle.run_core.specs.declared.output.Output.TheVariants.{Frames, Samples, Card}
use Rattle.run_core.specs.declared.output.RunNames.{RunNames}
use Rattle.run_core.specs.declared.output.Unwritten.{Unwritten}
use Rattle.run_core.specs.Outputs.{Names}

abbrev pub names_of : RunNames → Names
names_of names = record { frames = names.frames.now; samples = names.samples.now; card = option_map (λ name. name.now) names.card }

-- the name of an output's file
abbrev pub IsNamed : Names → Output → List ℕ → Type 0
IsNamed names Frames name = name ≡ names.frames
IsNamed names Samples name = name ≡ names.samples
IsNamed names Card name = names.card ≡ Some name

-- the effects were cut short at one on that output's file
abbrev pub IsCut : Names → Output → List Effect → Option Held → Option Held → Type 0
IsCut names output effects before after = (name : List ℕ) × (IsNamed names output name × CutShort name effects before after)

-- the effects are all done, or they were cut short at the refused output
abbrev pub Writes : {T : Type 0} → Names → List Effect → Result T Unwritten → Option Held → Option Held → Type 0
Writes names effects (Ok x) before after = after ≡ all_done effects before
Writes names effects (Err e) before after = IsCut names e.output effects before after

-- a file of that name is there, where it is told what is held
abbrev pub IsThere : List ℕ → Option Held → Type 0
IsThere name held = IfSome held (λ m. IsTrue (contains_key m name))

-- a failed call is told by the faults
abbrev pub HasRisen : FileErr → ℕ → ℕ → Type 0
HasRisen errors.Failed faults faults' = Rose faults faults'
HasRisen errors.Missing faults faults' = Unit {0}
HasRisen errors.TooLong faults faults' = Unit {0}
HasRisen errors.Memory faults faults' = Unit {0}

abbrev pub IsTold : {T : Type 0} → Result T Unwritten → ℕ → ℕ → Type 0
IsTold (Ok x) faults faults' = Unit {0}
IsTold (Err e) faults faults' = HasRisen e.error faults faults'

-- no count falls, and a call failed only where the faults rose
pub record HasCauses {T : Type 0} (result : Result T Unwritten) (before after : Counts) : Type 0 where
  pub faults_later : before.faults ≤ after.faults
  pub misses_later : before.misses ≤ after.misses
  pub overs_later : before.overs ≤ after.overs
  pub risen : IsTold result before.faults after.faults
