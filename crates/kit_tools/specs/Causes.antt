-- Why a command is refused: the counts of the files, and what the command itself finds over a limit.
use Rattle.std.specs.Prelude.{ℕ, ◌⊎◌, ◌≤◌, Result, Err}
use Rattle.kit_base.specs.Counts.{Counts, Rose}
use Rattle.kit_base.specs.SourceCodes.{HasSourceCause}
use Rattle.kit_base.specs.declared.failure.Failure.TheVariants as failures
use Rattle.kit_tools.specs.declared.refusal.DueRefusal.{DueRefusal}
use Rattle.kit_tools.specs.declared.refusal.DueRefusal.TheVariants as dues
use Rattle.kit_tools.specs.Refusal.{Refusal}
use Rattle.kit_tools.specs.declared.refusal.RefusalCause.TheVariants as refusals

-- A refusal by the files comes only where its count rose, one of a number word or of a cartridge's
-- size only where it is over its limit. A build's refusal of a limit is of either kind. The words of a
-- command are not at fault.
abbrev pub HasDueCause : (over : Type 0) → DueRefusal → (before after : Counts) → Type 0
HasDueCause over dues.Usage before after = ⊥
HasDueCause over (dues.Source code file line) before after = HasSourceCause code before after
HasDueCause over (dues.Missing name) before after = Rose before.misses after.misses
HasDueCause over (dues.Limit name) before after = Rose before.overs after.overs ⊎ over
HasDueCause over (dues.OutOfRange word) before after = over
HasDueCause over dues.LongCartridge before after = over
HasDueCause over refusal before after = Unit {0}

abbrev pub HasCause : (over : Type 0) → Refusal → (before after : Counts) → Type 0
HasCause over (failures.Cause (refusals.Due refusal)) before after = HasDueCause over refusal before after
HasCause over (failures.Cause (refusals.Failed name)) before after = Rose before.faults after.faults
HasCause over failures.Memory before after = Unit {0}

abbrev pub HasRisen : {T : Type 0} → (over : Type 0) → Result T Refusal → (before after : Counts) → Type 0
HasRisen over (Err refusal) before after = HasCause over refusal before after
HasRisen over result before after = Unit {0}

-- a refusal that no call of the files gave, nor the reading of a source
abbrev pub IsOwnDue : (over : Type 0) → DueRefusal → Type 0
IsOwnDue over dues.Usage = ⊥
IsOwnDue over (dues.Source code file line) = ⊥
IsOwnDue over (dues.Missing name) = ⊥
IsOwnDue over (dues.Limit name) = ⊥
IsOwnDue over (dues.OutOfRange word) = over
IsOwnDue over dues.LongCartridge = over
IsOwnDue over refusal = Unit {0}

abbrev pub IsOwn : (over : Type 0) → Refusal → Type 0
IsOwn over (failures.Cause (refusals.Due refusal)) = IsOwnDue over refusal
IsOwn over (failures.Cause (refusals.Failed name)) = ⊥
IsOwn over failures.Memory = Unit {0}

-- no count falls, and each refusal has its cause
pub record HasCausesOr {T : Type 0} (over : Type 0) (result : Result T Refusal) (before after : Counts) : Type 0 where
  pub faults_later : before.faults ≤ after.faults
  pub misses_later : before.misses ≤ after.misses
  pub overs_later : before.overs ≤ after.overs
  pub risen : HasRisen over result before after

-- the same where nothing but a file can be over a limit
abbrev pub HasCauses : {T : Type 0} → Result T Refusal → (before after : Counts) → Type 0
HasCauses result before after = HasCausesOr ⊥ result before after

-- no count of the files or of the sink falls
pub record HasOnlyRisen (before after : Counts) (unput unput' : ℕ) : Type 0 where
  pub faults_later : before.faults ≤ after.faults
  pub misses_later : before.misses ≤ after.misses
  pub overs_later : before.overs ≤ after.overs
  pub unput_later : unput ≤ unput'

-- the count did not rise
abbrev pub IsUnrisen : ℕ → ℕ → Type 0
IsUnrisen before now = Rose before now → ⊥
