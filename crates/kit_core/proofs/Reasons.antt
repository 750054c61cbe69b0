-- Why a command ends with its status, and what is put then.
use Rattle.std.proofs.Common.{ℕ, ◌≡◌, ◌≤◌, ◌⊎◌, ◌∙◌, refl, sym, arith, List, inl, inr}
use Rattle.std.specs.Prelude.{Option, None, Ok, Err, Result}
use Rattle.kit_base.specs.Held.{Held}
use Rattle.kit_base.specs.Counts.{Counts, Rose}
use Rattle.kit_base.specs.declared.failure.Failure.TheVariants as failures
use Rattle.kit_words.specs.Command.{command_of}
use Rattle.kit_tools.specs.Refusal.{Refusal, line_of, status_of}
use Rattle.kit_tools.specs.Carrying.{shown_status, text_of}
use Rattle.kit_tools.specs.declared.refusal.DueRefusal.{DueRefusal}
use Rattle.kit_tools.specs.declared.refusal.DueRefusal.TheVariants as dues
use Rattle.kit_tools.specs.declared.refusal.RefusalCause.TheVariants as refusals
use Rattle.kit_tools.specs.declared.shown.Shown.{Shown}
use Rattle.kit_core.specs.Outcome.{putting}
use Rattle.kit_core.specs.inner.Putting.{Shows}
use Rattle.kit_core.specs.Limits.{IsOver}
use Rattle.kit_core.specs.inner.Causes.{HasReason, HasReasons, IsUsage}
use Rattle.kit_core.specs.Lines.{IsPut, Text, Line, Front, PutsSource}
use Rattle.kit_tools.specs.Causes.{HasCause, HasDueCause, HasCausesOr}

-- ---- from a command's causes to the reasons of its words

module _ (words : List (List ℕ)) (held : Option Held) where
  due_reason : (r : DueRefusal) (before after : Counts) → HasDueCause (IsOver words held) r before after → HasReason words held (failures.Cause (refusals.Due r)) before after
  due_reason dues.Usage b a cause = absurd cause
  due_reason (dues.Source c l k) b a cause = cause
  due_reason (dues.Missing n) b a cause = cause
  due_reason (dues.Bad c n l) b a cause = cause
  due_reason (dues.Limit n) b a cause = cause
  due_reason (dues.OutOfRange w) b a cause = cause
  due_reason dues.LongCartridge b a cause = cause

  reason_of : (e : Refusal) (before after : Counts) → HasCause (IsOver words held) e before after → HasReason words held e before after
  reason_of (failures.Cause (refusals.Due r)) b a cause = due_reason r b a cause
  reason_of (failures.Cause (refusals.Failed n)) b a cause = cause
  reason_of failures.Memory b a cause = tt

  pub reasons : (r : Result Shown Refusal) (before after : Counts) → HasCausesOr (IsOver words held) r before after → HasReasons words held r before after
  reasons (Ok v) b a h = record { faults_later = h.faults_later; misses_later = h.misses_later; overs_later = h.overs_later; reason = tt }
  reasons (Err e) b a h = record { faults_later = h.faults_later; misses_later = h.misses_later; overs_later = h.overs_later; reason = reason_of e b a h.risen }

-- ---- a status below 8 is that of the refusal

module _ (full : ℕ) (whole : List ℕ) (status : ℕ) (was put : Option (List ℕ)) (n : ℕ) (low : n ≤ 7) (is : status ≡ n) where
  shown_low : Shows full whole status was put → (full ≡ n) × (put ≡ putting whole was)
  shown_low (inl h) = (sym h.0 ∙ is, h.1)
  shown_low (inr h) = elim h.0 [ inl eight ↦ absurd (omega (arith, low)) | inr nine ↦ absurd (omega (arith, low)) ]

module _ (words : List (List ℕ)) (held : Option Held) (before after : Counts) where
  missing_for : (e : Refusal) → HasReason words held e before after → status_of e ≡ 4 → Rose before.misses after.misses
  missing_for (failures.Cause (refusals.Due dues.Usage)) h is = absurd (omega arith)
  missing_for (failures.Cause (refusals.Due (dues.Source c l k))) h is = absurd (omega arith)
  missing_for (failures.Cause (refusals.Due (dues.Missing n))) h is = h
  missing_for (failures.Cause (refusals.Due (dues.Bad c n l))) h is = absurd (omega arith)
  missing_for (failures.Cause (refusals.Due (dues.Limit n))) h is = absurd (omega arith)
  missing_for (failures.Cause (refusals.Due (dues.OutOfRange w))) h is = absurd (omega arith)
  missing_for (failures.Cause (refusals.Due dues.LongCartridge)) h is = absurd (omega arith)
  missing_for (failures.Cause (refusals.Failed n)) h is = absurd (omega arith)
  missing_for failures.Memory h is = absurd (omega arith)

  failed_for : (e : Refusal) → HasReason words held e before after → status_of e ≡ 5 → Rose before.faults after.faults
  failed_for (failures.Cause (refusals.Due dues.Usage)) h is = absurd (omega arith)
  failed_for (failures.Cause (refusals.Due (dues.Source c l k))) h is = absurd (omega arith)
  failed_for (failures.Cause (refusals.Due (dues.Missing n))) h is = absurd (omega arith)
  failed_for (failures.Cause (refusals.Due (dues.Bad c n l))) h is = absurd (omega arith)
  failed_for (failures.Cause (refusals.Due (dues.Limit n))) h is = absurd (omega arith)
  failed_for (failures.Cause (refusals.Due (dues.OutOfRange w))) h is = absurd (omega arith)
  failed_for (failures.Cause (refusals.Due dues.LongCartridge)) h is = absurd (omega arith)
  failed_for (failures.Cause (refusals.Failed n)) h is = h
  failed_for failures.Memory h is = absurd (omega arith)

  limit_for : (e : Refusal) → HasReason words held e before after → status_of e ≡ 7 → Rose before.overs after.overs ⊎ IsOver words held
  limit_for (failures.Cause (refusals.Due dues.Usage)) h is = absurd (omega arith)
  limit_for (failures.Cause (refusals.Due (dues.Source c l k))) h is = absurd (omega arith)
  limit_for (failures.Cause (refusals.Due (dues.Missing n))) h is = absurd (omega arith)
  limit_for (failures.Cause (refusals.Due (dues.Bad c n l))) h is = absurd (omega arith)
  limit_for (failures.Cause (refusals.Due (dues.Limit n))) h is = h
  limit_for (failures.Cause (refusals.Due (dues.OutOfRange w))) h is = inr h
  limit_for (failures.Cause (refusals.Due dues.LongCartridge)) h is = inr h
  limit_for (failures.Cause (refusals.Failed n)) h is = absurd (omega arith)
  limit_for failures.Memory h is = absurd (omega arith)

  usage_for : (e : Refusal) → HasReason words held e before after → status_of e ≡ 1 → command_of words ≡ None
  usage_for (failures.Cause (refusals.Due dues.Usage)) h is = h
  usage_for (failures.Cause (refusals.Due (dues.Source c l k))) h is = absurd (omega arith)
  usage_for (failures.Cause (refusals.Due (dues.Missing n))) h is = absurd (omega arith)
  usage_for (failures.Cause (refusals.Due (dues.Bad c n l))) h is = absurd (omega arith)
  usage_for (failures.Cause (refusals.Due (dues.Limit n))) h is = absurd (omega arith)
  usage_for (failures.Cause (refusals.Due (dues.OutOfRange w))) h is = absurd (omega arith)
  usage_for (failures.Cause (refusals.Due dues.LongCartridge)) h is = absurd (omega arith)
  usage_for (failures.Cause (refusals.Failed n)) h is = absurd (omega arith)
  usage_for failures.Memory h is = absurd (omega arith)

  module _ (was put : Option (List ℕ)) where
    source_for : (e : Refusal) → HasReason words held e before after → status_of e ≡ 2 → put ≡ putting (line_of e) was → PutsSource before after was put
    source_for (failures.Cause (refusals.Due dues.Usage)) h is text = absurd (omega arith)
    source_for (failures.Cause (refusals.Due (dues.Source c l k))) h is text = record { code = c; file = l; line = k; cause = h; text = text }
    source_for (failures.Cause (refusals.Due (dues.Missing n))) h is text = absurd (omega arith)
    source_for (failures.Cause (refusals.Due (dues.Bad c n l))) h is text = absurd (omega arith)
    source_for (failures.Cause (refusals.Due (dues.Limit n))) h is text = absurd (omega arith)
    source_for (failures.Cause (refusals.Due (dues.OutOfRange w))) h is text = absurd (omega arith)
    source_for (failures.Cause (refusals.Due dues.LongCartridge)) h is text = absurd (omega arith)
    source_for (failures.Cause (refusals.Failed n)) h is text = absurd (omega arith)
    source_for failures.Memory h is text = absurd (omega arith)

    -- of a refusal whose line was put
    module _ (e : Refusal) (status : ℕ) (h : HasReasons words held (Err e) before after) (shows : Shows (status_of e) (line_of e) status was put) where
      pub missing_reason : status ≡ 4 → Rose before.misses after.misses
      missing_reason is = missing_for e h.reason (shown_low (status_of e) (line_of e) status was put 4 (omega arith) is shows).0

      pub failed_reason : status ≡ 5 → Rose before.faults after.faults
      failed_reason is = failed_for e h.reason (shown_low (status_of e) (line_of e) status was put 5 (omega arith) is shows).0

      pub limit_reason : status ≡ 7 → Rose before.overs after.overs ⊎ IsOver words held
      limit_reason is = limit_for e h.reason (shown_low (status_of e) (line_of e) status was put 7 (omega arith) is shows).0

      pub usage_reason : status ≡ 1 → command_of words ≡ None
      usage_reason is = usage_for e h.reason (shown_low (status_of e) (line_of e) status was put 1 (omega arith) is shows).0

      pub source_reason : status ≡ 2 → PutsSource before after was put
      source_reason is =
          let low = shown_low (status_of e) (line_of e) status was put 2 (omega arith) is shows in
          source_for e h.reason low.0 low.1

-- words that are no command
pub usage_status : (e : Refusal) (status : ℕ) (whole : List ℕ) (was put : Option (List ℕ)) → IsUsage (Err e) → Shows (status_of e) whole status was put
    → (status ≡ 1) ⊎ ((status ≡ 8) ⊎ (status ≡ 9))
usage_status (failures.Cause (refusals.Due dues.Usage)) status whole was put h (inl s) = inl s.0
usage_status (failures.Cause (refusals.Due dues.Usage)) status whole was put h (inr s) = inr s.0
usage_status (failures.Cause (refusals.Due (dues.Source c l k))) status whole was put h shows = absurd h
usage_status (failures.Cause (refusals.Due (dues.Missing n))) status whole was put h shows = absurd h
usage_status (failures.Cause (refusals.Due (dues.Bad c n l))) status whole was put h shows = absurd h
usage_status (failures.Cause (refusals.Due (dues.Limit n))) status whole was put h shows = absurd h
usage_status (failures.Cause (refusals.Due (dues.OutOfRange w))) status whole was put h shows = absurd h
usage_status (failures.Cause (refusals.Due dues.LongCartridge)) status whole was put h shows = absurd h
usage_status (failures.Cause (refusals.Failed n)) status whole was put h shows = absurd h
usage_status failures.Memory status whole was put h (inl s) = inr (inl s.0)
usage_status failures.Memory status whole was put h (inr s) = inr s.0

-- what was put
pub line_put : (e : Refusal) (status : ℕ) (was put : Option (List ℕ)) → Shows (status_of e) (line_of e) status was put → IsPut status was put
line_put e status was put (inl h) = Line e h.0 h.1
line_put e status was put (inr h) = Front h.0 (line_of e) (inr (e, refl)) h.1.0 h.1.1 h.1.2

pub text_put : (v : Shown) (status : ℕ) (was put : Option (List ℕ)) → Shows (shown_status v) (text_of v) status was put → IsPut status was put
text_put v status was put (inl h) = Text v h.0 h.1
text_put v status was put (inr h) = Front h.0 (text_of v) (inl (v, refl)) h.1.0 h.1.1 h.1.2
