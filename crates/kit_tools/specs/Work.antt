-- What a command does once nothing refused it, and what is left where a refusal came.
use Rattle.std.specs.Prelude.{ℕ, ◌≡◌, ◌⊎◌, List, [], ◌∷◌, ◌++◌, Option, Some, Result, Ok, Err, codes}
use Rattle.kit_base.specs.Held.{Held}
use Rattle.kit_base.specs.Effects.{Effect, CutShort}
use Rattle.kit_base.specs.declared.failure.Failure.TheVariants as failures
use Rattle.kit_tools.specs.declared.refusal.DueRefusal.{DueRefusal}
use Rattle.kit_tools.specs.Refusal.{Refusal}
use Rattle.kit_tools.specs.declared.refusal.RefusalCause.TheVariants as refusals

-- What a command does once nothing refused it: what it creates and appends, in order, the text
-- that is put after that, and the status that is answered then.
pub record Work : Type 0 where
  pub effects : List Effect
  pub text : List ℕ
  pub status : ℕ

-- nothing is created, and `ok` is put
abbrev pub accepted : Work
accepted = record { effects = []; text = codes "ok" ++ 10 ∷ []; status = 0 }

-- a work that is due, or a refusal that is
abbrev pub as_due : Result Work DueRefusal → Result Work Refusal
as_due (Ok work) = Ok work
as_due (Err refusal) = Err (failures.Cause (refusals.Due refusal))

-- The outputs that were due were cut short at a refused call on the file of that name: those before
-- it are done in full, that one in part, and none after it was begun.
abbrev pub StopsWriting : List ℕ → (Result Work DueRefusal → Type 0) → Held → Option Held → Type 0
StopsWriting name Due held after = (work : Work) × Due (Ok work) × CutShort name work.effects (Some held) after

-- a read of one of these names failed, and nothing was changed
abbrev pub StopsReading : List ℕ → (List ℕ → Type 0) → Held → Option Held → Type 0
StopsReading name Reads held after = Reads name × (after ≡ Some held)

-- The refusal came, and this is held after it: one that is due, or a failing call of the files,
-- or want of memory at any place.
abbrev pub ComesBy : Refusal → (Result Work DueRefusal → Type 0) → (List ℕ → Type 0) → Held → Option Held → Type 0
ComesBy (failures.Cause (refusals.Due refusal)) Due Reads held after = Due (Err refusal) × (after ≡ Some held)
ComesBy (failures.Cause (refusals.Failed name)) Due Reads held after = StopsReading name Reads held after ⊎ StopsWriting name Due held after
ComesBy failures.Memory Due Reads held after = (after ≡ Some held) ⊎ ((name : List ℕ) × StopsWriting name Due held after)

-- the same where one thing is due
abbrev pub Comes : Refusal → Result Work Refusal → (List ℕ → Type 0) → Held → Option Held → Type 0
Comes refusal due Reads held after = ComesBy refusal (λ d. due ≡ as_due d) Reads held after
