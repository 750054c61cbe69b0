-- What a command answered, left in the files and put, in the five ways that it can end.
use Rattle.std.specs.Prelude.{ℕ, ◌≡◌, ◌⊎◌, List, ◌++◌, take, Option, Some, option_map, Result, Ok, Err}
use Rattle.kit_base.specs.Held.{Held}
use Rattle.kit_base.specs.Effects.{Effect, all_done, CutShort}
use Rattle.kit_base.specs.declared.failure.Failure.TheVariants as failures
use Rattle.kit_tools.specs.declared.refusal.DueRefusal.{DueRefusal}
use Rattle.kit_tools.specs.declared.refusal.RefusalCause.TheVariants as refusals
use Rattle.kit_tools.specs.Refusal.{Refusal, due_line, due_status, line_of}
use Rattle.kit_words.specs.Command.{Command, command_of}
use Rattle.kit_tools.specs.Work.{Work, ComesBy}
use Rattle.kit_core.specs.Due.{command_due, command_reads, form_due}
use Rattle.kit_core.specs.Generating.{front_of}

-- what was put, with that piece behind it, where it is told
abbrev pub putting : List ℕ → Option (List ℕ) → Option (List ℕ)
putting piece before = option_map (λ bytes. bytes ++ piece) before

-- Status 0, or 3 of a run that ended by a fault: all effects are done, and the text is put whole.
pub record IsDone (Due : Result Work DueRefusal → Type 0) (held : Held) (status : ℕ) (after : Option Held) (before put : Option (List ℕ)) : Type 0 where
  pub work : Work
  pub is_due : Due (Ok work)
  pub status_is : status ≡ work.status
  pub files : after ≡ all_done work.effects (Some held)
  pub text : put ≡ putting work.text before

-- Status 1, 2, 4, 6 or 7: the refusal is the one that is due, nothing was created or changed, and
-- its line is put.
pub record IsRefused (Due : Result Work DueRefusal → Type 0) (held : Held) (status : ℕ) (after : Option Held) (before put : Option (List ℕ)) : Type 0 where
  pub refusal : DueRefusal
  pub is_due : Due (Err refusal)
  pub status_is : status ≡ due_status refusal
  pub files : after ≡ Some held
  pub text : put ≡ putting (due_line refusal) before

-- Status 5: a call on the file of that name failed, a read or an output, and its line is put.
pub record HasFileFault (Due : Result Work DueRefusal → Type 0) (Reads : List ℕ
    → Type 0) (held : Held) (status : ℕ) (after : Option Held) (before put : Option (List ℕ)) : Type 0 where
  pub name : List ℕ
  pub files : ComesBy (failures.Cause (refusals.Failed name)) Due Reads held after
  pub status_is : status ≡ 5
  pub text : put ≡ putting (line_of (failures.Cause (refusals.Failed name))) before

-- what is put where these files are left: the text of the work that was done, or the line of the
-- refusal that came
abbrev pub IsShown : List ℕ → (Result Work DueRefusal → Type 0) → (List ℕ → Type 0) → Held → Option Held → Type 0
IsShown text Due Reads held after =
    ((work : Work) × Due (Ok work) × (after ≡ all_done work.effects (Some held)) × (text ≡ work.text))
    ⊎ ((refusal : Refusal) × ComesBy refusal Due Reads held after × (text ≡ line_of refusal))

-- Status 8, where memory ran out, and 9, where the sink failed: a front of the text or of the
-- refusal's line was put, and then a front of the line of 8.
pub record IsCutOff (Due : Result Work DueRefusal → Type 0) (Reads : List ℕ
    → Type 0) (held : Held) (after : Option Held) (before put : Option (List ℕ)) : Type 0 where
  pub whole : List ℕ
  pub shown : IsShown whole Due Reads held after
  pub count : ℕ
  pub line_count : ℕ
  pub text : put ≡ putting (take count whole ++ take line_count (line_of failures.Memory)) before

pub data EndsAs (Due : Result Work DueRefusal → Type 0) (Reads : List ℕ
    → Type 0) (held : Held) (status : ℕ) (after : Option Held) (before put : Option (List ℕ)) : Type 0 where
  Done : IsDone Due held status after before put → EndsAs Due Reads held status after before put
  Refused : IsRefused Due held status after before put → EndsAs Due Reads held status after before put
  FileFault : HasFileFault Due Reads held status after before put → EndsAs Due Reads held status after before put
  OutOfMemory : status ≡ 8 → IsCutOff Due Reads held after before put → EndsAs Due Reads held status after before put
  SinkFault : status ≡ 9 → IsCutOff Due Reads held after before put → EndsAs Due Reads held status after before put

-- A refusal that comes before a command's front or inside it: a call on one of the front's files failed, or memory ran out.
abbrev pub ComesInFront : Refusal → List Effect → Held → Option Held → Type 0
ComesInFront (failures.Cause (refusals.Due refusal)) front held after = ⊥
ComesInFront (failures.Cause (refusals.Failed name)) front held after = CutShort name front (Some held) after
ComesInFront failures.Memory front held after = (after ≡ Some held) ⊎ ((name : List ℕ) × CutShort name front (Some held) after)

-- Then its line is put at status 5, or a front of that line at 8 or 9, and then a front of the line of 8.
pub data StopsInFront (front : List Effect) (held : Held) (status : ℕ) (after : Option Held) (before put : Option (List ℕ)) : Type 0 where
  FrontFault : (name : List ℕ) → CutShort name front (Some held) after → status ≡ 5 → put ≡ putting (line_of (failures.Cause (refusals.Failed name))) before
      → StopsInFront front held status after before put
  FrontCutOff : (refusal : Refusal) → ComesInFront refusal front held after → (status ≡ 8) ⊎ (status ≡ 9) → (count line_count : ℕ)
      → put ≡ putting (take count (line_of refusal) ++ take line_count (line_of failures.Memory)) before → StopsInFront front held status after before put

-- The front is done, and the command ended among the files that are held then.
pub record EndsBehind (front : List Effect) (Due : Held → Result Work DueRefusal → Type 0) (Reads : Held → List ℕ
    → Type 0) (held : Held) (status : ℕ) (after : Option Held) (before put : Option (List ℕ)) : Type 0 where
  pub made : Held
  pub made_is : all_done front (Some held) ≡ Some made
  pub ends : EndsAs (Due made) (Reads made) made status after before put

abbrev pub FormEnds : Option Command → Held → ℕ → Option Held → Option (List ℕ) → Option (List ℕ) → Type 0
FormEnds command held status after before put =
    EndsBehind (front_of command) (form_due command) (command_reads command) held status after before put
    ⊎ StopsInFront (front_of command) held status after before put

-- the command of these words, among the files held, ended with that status, left these files and
-- put what is put now behind what was put before
abbrev pub IsOutcome : List (List ℕ) → Held → ℕ → Option Held → Option (List ℕ) → Option (List ℕ) → Type 0
IsOutcome words held status after before put = FormEnds (command_of words) held status after before put

-- the status that is due, where no call fails and memory is there
abbrev pub status_due : Result Work DueRefusal → ℕ
status_due (Ok work) = work.status
status_due (Err refusal) = due_status refusal

-- the status is one that is due among the files with the command's front done
pub record HasDueStatus (words : List (List ℕ)) (held : Held) (status : ℕ) : Type 0 where
  pub made : Held
  pub made_is : all_done (front_of (command_of words)) (Some held) ≡ Some made
  pub answer : Result Work DueRefusal
  pub is_due : command_due words made answer
  pub status_is : status ≡ status_due answer
