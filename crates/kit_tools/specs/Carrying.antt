-- What the parts of a command answer and leave, each by itself.
use Rattle.std.specs.Prelude.{ℕ, ◌≡◌, List, [], ◌∷◌, ◌++◌, Option, Some, Result, Ok, Err, Contains}
use Rattle.kit_base.specs.Held.{Held}
use Rattle.kit_base.specs.Effects.{Effect, all_done, CutShort}
use Rattle.kit_base.specs.Digits.{word_digits}
use Rattle.kit_base.specs.declared.failure.Failure.TheVariants as failures
use Rattle.trace_core.specs.Putting.{trace_text}
use Rattle.run_core.specs.Ending.{end_text}
use Rattle.kit_tools.specs.Running.{end_status}
use Rattle.kit_tools.specs.Watching.{watch_line}
use Rattle.kit_tools.specs.declared.shown.Shown.{Shown}
use Rattle.kit_tools.specs.declared.shown.Shown.TheVariants as shown
use Rattle.kit_tools.specs.declared.refusal.DueRefusal.{DueRefusal}
use Rattle.kit_tools.specs.Refusal.{Refusal}
use Rattle.kit_tools.specs.declared.refusal.RefusalCause.TheVariants as refusals
use Rattle.kit_tools.specs.Work.{Work, accepted, as_due, ComesBy}

-- a reading part: its answer is the one that is due, unless memory ran out or a call failed
abbrev pub GivesBy : {X Y : Type 0} → (X → Y) → Result X Refusal → Result Y Refusal → Type 0
GivesBy view (Ok x) due = due ≡ Ok (view x)
GivesBy view (Err (failures.Cause (refusals.Due refusal))) due = due ≡ Err (failures.Cause (refusals.Due refusal))
GivesBy view (Err (failures.Cause (refusals.Failed name))) due = Unit {0}
GivesBy view (Err failures.Memory) due = Unit {0}

-- a call that failed was of one of these files
abbrev pub FailsIn : (List ℕ → Type 0) → Refusal → Type 0
FailsIn Reads (failures.Cause (refusals.Due refusal)) = Unit {0}
FailsIn Reads (failures.Cause (refusals.Failed name)) = Reads name
FailsIn Reads failures.Memory = Unit {0}

abbrev pub FailsAt : List (List ℕ) → Refusal → Type 0
FailsAt names refusal = FailsIn (Contains names) refusal

-- a writing part: it was cut short inside its effects
abbrev pub IsCut : Refusal → List Effect → Option Held → Option Held → Type 0
IsCut (failures.Cause (refusals.Due refusal)) effects before after = ⊥
IsCut (failures.Cause (refusals.Failed name)) effects before after = CutShort name effects before after
IsCut failures.Memory effects before after = (name : List ℕ) × CutShort name effects before after

-- the text that is to be put
abbrev pub text_of : Shown → List ℕ
text_of shown.Nothing = []
text_of shown.Accepted = accepted.text
text_of (shown.Run trace) = trace_text trace
text_of (shown.Ended ending end) = end_text ending end
text_of (shown.Watched verdict) = watch_line verdict
text_of (shown.Lines lines) = lines.items
text_of (shown.Word front word) = front.items ++ (word_digits word ++ 10 ∷ [])

-- and the status that is answered then
abbrev pub shown_status : Shown → ℕ
shown_status shown.Nothing = 0
shown_status shown.Accepted = 0
shown_status (shown.Run trace) = 0
shown_status (shown.Ended ending end) = end_status end
shown_status (shown.Watched verdict) = 0
shown_status (shown.Lines lines) = 0
shown_status (shown.Word front word) = 0

-- a work that is due is done, and its text and status are handed on; or it was cut short
pub record IsCarriedOut (work : Work) (shown : Shown) (before after : Option Held) : Type 0 where
  pub outputs : after ≡ all_done work.effects before
  pub text : text_of shown ≡ work.text
  pub status : shown_status shown ≡ work.status

abbrev pub IsCarried : Work → Result Shown Refusal → Option Held → Option Held → Type 0
IsCarried work (Ok shown) before after = IsCarriedOut work shown before after
IsCarried work (Err e) before after = IsCut e work.effects before after

-- a whole command: its work was done but for its text, which is handed on, or its refusal came
abbrev pub LeavesBy : Result Shown Refusal → (Result Work DueRefusal → Type 0) → (List ℕ → Type 0) → Held → Option Held → Type 0
LeavesBy (Ok shown) Due Reads held after =
    (work : Work) × Due (Ok work) × (after ≡ all_done work.effects (Some held)) × (text_of shown ≡ work.text) × (shown_status shown ≡ work.status)
LeavesBy (Err refusal) Due Reads held after = ComesBy refusal Due Reads held after

-- the same where one thing is due
abbrev pub Leaves : Result Shown Refusal → Result Work Refusal → (List ℕ → Type 0) → Held → Option Held → Type 0
Leaves result due Reads held after = LeavesBy result (λ d. due ≡ as_due d) Reads held after
