-- Why a refusal comes that the files give.
use Rattle.std.specs.Prelude.{◌≡◌, ◌≤◌, ℕ, Result, Err}
use Rattle.kit_base.specs.Counts.{Counts, Rose}
use Rattle.kit_base.specs.declared.failure.Failure.{Failure}
use Rattle.kit_base.specs.declared.failure.Failure.TheVariants.{Cause}
use Rattle.c_prep.specs.declared.error.PrepFault.{PrepFault}
use Rattle.c_prep.specs.declared.error.PrepFault.TheVariants as e

-- the system failed
abbrev pub HasFailed : {T : Type 0} → Result T (Failure PrepFault) → Type 0
HasFailed (Err (Cause (e.Failed file))) = Unit {0}
HasFailed _ = ⊥

-- a file is not held
abbrev pub Lacks : {T : Type 0} → Result T (Failure PrepFault) → Type 0
Lacks (Err (Cause e.NoSource)) = Unit {0}
Lacks (Err (Cause (e.At code file line))) = code ≡ 21
Lacks _ = ⊥

-- a file is too long
abbrev pub IsOver : {T : Type 0} → Result T (Failure PrepFault) → Type 0
IsOver (Err (Cause (e.TooLong file))) = Unit {0}
IsOver _ = ⊥

-- the count does not fall, and this comes only where it rose
pub record Caused (This : Type 0) (before now : ℕ) : Type 0 where
  pub later : before ≤ now
  pub rose : This → Rose before now

pub record HasCauses {T : Type 0} (r : Result T (Failure PrepFault)) (before after : Counts) : Type 0 where
  pub failed : Caused (HasFailed r) before.faults after.faults
  pub lacked : Caused (Lacks r) before.misses after.misses
  pub over : Caused (IsOver r) before.overs after.overs
