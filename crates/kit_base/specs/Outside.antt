-- What the calls of the outside answer, and why.
use Rattle.std.specs.Prelude.{ℕ, ◌≡◌, ◌≤◌, Bool, true, false, List, length, Option, Some, None, Result, Ok, Err, IsErrOf, Vec, if◌then◌else◌, nat_le}
use Rattle.std.specs.declared.alloc.Global.{Global}
use Rattle.std.specs.FinMap.{get}
use Rattle.kit_base.specs.Held.{Held}
use Rattle.kit_base.specs.Counts.{Rose}
use Rattle.kit_base.specs.declared.outside.FileErr.{FileErr}
use Rattle.kit_base.specs.declared.outside.FileErr.TheVariants as errors
use Rattle.kit_base.specs.declared.outside.SinkErr.{SinkErr}
use Rattle.kit_base.specs.declared.outside.SinkErr.TheVariants as sink_errors

-- the answer that a file of these bytes is due
abbrev pub due_of : Option (List ℕ) → Result (List ℕ) FileErr
due_of None = Err errors.Missing
due_of (Some bytes) = if nat_le (length bytes) 268435456 then Ok bytes else Err errors.TooLong

-- the answer that a name is due among the files that are held
abbrev pub due : Held → List ℕ → Result (List ℕ) FileErr
due m name = due_of (get m name)

-- The answer is the one that is due, unless the call failed or memory ran out.
abbrev pub Answers : Result (Vec ℕ Global) FileErr → Result (List ℕ) FileErr → Type 0
Answers (Ok v) d = d ≡ Ok v.items
Answers (Err errors.Missing) d = d ≡ Err errors.Missing
Answers (Err errors.TooLong) d = d ≡ Err errors.TooLong
Answers (Err errors.Failed) d = Unit {0}
Answers (Err errors.Memory) d = Unit {0}

-- the count does not fall, and the error comes only where it rose
pub record HasCause {T : Type 0} (e : FileErr) (before now : ℕ) (result : Result T FileErr) : Type 0 where
  pub later : before ≤ now
  pub rose : IsErrOf result e → Rose before now

pub record HasSinkCause {T : Type 0} (before now : ℕ) (result : Result T SinkErr) : Type 0 where
  pub later : before ≤ now
  pub rose : IsErrOf result sink_errors.Failed → Rose before now

-- the errors of a call that writes
abbrev pub IsOfWriting : FileErr → Type 0
IsOfWriting errors.Missing = ⊥
IsOfWriting errors.TooLong = ⊥
IsOfWriting errors.Failed = Unit {0}
IsOfWriting errors.Memory = Unit {0}

-- whether a call failed
abbrev pub is_failed : FileErr → Bool
is_failed errors.Failed = true
is_failed errors.Missing = false
is_failed errors.TooLong = false
is_failed errors.Memory = false

abbrev pub has_failed : {T : Type 0} → Result T FileErr → Bool
has_failed (Ok x) = false
has_failed (Err e) = is_failed e

abbrev pub is_sink_failed : SinkErr → Bool
is_sink_failed sink_errors.Failed = true
is_sink_failed sink_errors.Memory = false

abbrev pub has_sink_failed : {T : Type 0} → Result T SinkErr → Bool
has_sink_failed (Ok x) = false
has_sink_failed (Err e) = is_sink_failed e
