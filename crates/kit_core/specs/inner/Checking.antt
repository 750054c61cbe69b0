-- What the check and the build of a project's text answer, each by itself. Only private functions cite this.
use Rattle.std.specs.Prelude.{ℕ, ◌≡◌, List, Result, Ok, Err}
use Rattle.kit_base.specs.Held.{Held}
use Rattle.kit_base.specs.declared.failure.Failure.TheVariants as failures
use Rattle.c_types.specs.Programs.{ProgramT}
use Rattle.build_core.specs.declared.error.BuildErr.{BuildErr}
use Rattle.build_core.specs.declared.building.Built.{Built}
use Rattle.build_core.specs.Build.{IsBuilt, IsUnbuilt}
use Rattle.build_core.specs.Checked.{IsAccepted, IsRejected}
use Rattle.kit_tools.specs.declared.refusal.DueRefusal.{DueRefusal}
use Rattle.kit_tools.specs.Refusal.{Refusal}
use Rattle.kit_tools.specs.declared.refusal.RefusalCause.TheVariants as refusals
use Rattle.kit_core.specs.Due.{unbuilt}

-- the refusal is one of these, unless memory ran out or a call failed
abbrev pub IsOneUnlessStopped : (DueRefusal → Type 0) → Refusal → Type 0
IsOneUnlessStopped These (failures.Cause (refusals.Due refusal)) = These refusal
IsOneUnlessStopped These (failures.Cause (refusals.Failed name)) = Unit {0}
IsOneUnlessStopped These failures.Memory = Unit {0}

-- its source has a program, or why it has none
abbrev pub TextChecked : (project text : List ℕ) → Held → Result (Unit {0}) Refusal → Type 0
TextChecked project text held (Ok x) = (p : ProgramT) × IsAccepted held text p
TextChecked project text held (Err refusal) =
    IsOneUnlessStopped (λ r. (e : BuildErr) × IsRejected held text e × (unbuilt project e ≡ failures.Cause (refusals.Due r))) refusal

-- what was built of it, or why nothing was
abbrev pub TextBuilt : (project text : List ℕ) → Held → Result Built Refusal → Type 0
TextBuilt project text held (Ok b) = IsBuilt held text b
TextBuilt project text held (Err refusal) =
    IsOneUnlessStopped (λ r. (e : BuildErr) × IsUnbuilt held text e × (unbuilt project e ≡ failures.Cause (refusals.Due r))) refusal
