-- From what a command left and what was put to its outcome.
use Rattle.std.proofs.Common.{ℕ, ◌≡◌, ◌⊎◌, inl, inr, List, ◌++◌, take, refl, sym, ap, ◌∙◌, append-nil}
use Rattle.std.proofs.Math.Seq.{take-length}
use Rattle.std.specs.Prelude.{Option, Result, Ok, length}
use Rattle.kit_base.specs.Held.{Held}
use Rattle.kit_base.specs.declared.failure.Failure.TheVariants as failures
use Rattle.kit_tools.specs.declared.refusal.DueRefusal.{DueRefusal}
use Rattle.kit_tools.specs.declared.refusal.RefusalCause.TheVariants as refusals
use Rattle.kit_tools.specs.Refusal.{Refusal, status_of, line_of}
use Rattle.kit_tools.specs.Work.{Work, ComesBy}
use Rattle.kit_core.specs.Outcome.{putting, EndsAs, Done, Refused, FileFault, OutOfMemory, SinkFault, IsCutOff}
use Rattle.kit_tools.specs.Carrying.{LeavesBy, shown_status, text_of}
use Rattle.kit_core.specs.inner.Putting.{Shows}
use Rattle.kit_tools.specs.declared.shown.Shown.{Shown}

module _ (Due : Result Work DueRefusal → Type 0) (Reads : List ℕ → Type 0) (m : Held) (status : ℕ) (after : Option Held) (before put : Option (List ℕ)) where
  -- memory ran out, or the sink failed
  cut_off : (status ≡ 8) ⊎ (status ≡ 9) → IsCutOff Due Reads m after before put → EndsAs Due Reads m status after before put
  cut_off (inl s) h = OutOfMemory s h
  cut_off (inr s) h = SinkFault s h

  pub outcome_done : (v : Shown) → LeavesBy (Ok v) Due Reads m after → Shows (shown_status v) (text_of v) status before put → EndsAs Due Reads m status after before put
  outcome_done v (work, is_due, files, text, same) (inl (s, p)) =
      Done (record { work = work; is_due = is_due; status_is = s ∙ same; files = files; text = p ∙ ap (λ xs. putting xs before) text })
  outcome_done v (work, is_due, files, text, same) (inr (s, (count, line_count, p))) =
      cut_off s (record { whole = text_of v; shown = inl (work, is_due, files, text); count = count; line_count = line_count; text = p })

  memory_line : (list : List ℕ) → putting list before ≡ putting (take (length list) list ++ take 0 list) before
  memory_line list = ap (λ xs. putting xs before) (sym (append-nil (take (length list) list) ∙ take-length list))

  shown_whole : (e : Refusal) → ComesBy e Due Reads m after → status ≡ status_of e → put ≡ putting (line_of e) before → EndsAs Due Reads m status after before put
  shown_whole (failures.Cause (refusals.Due r)) comes s p = Refused (record { refusal = r; is_due = comes.0; status_is = s; files = comes.1; text = p })
  shown_whole (failures.Cause (refusals.Failed name)) comes s p = FileFault (record { name = name; files = comes; status_is = s; text = p })
  shown_whole failures.Memory comes s p =
      OutOfMemory s (record { whole = line_of failures.Memory; shown = inr (failures.Memory, comes, refl); count = length (line_of failures.Memory); line_count = 0; text = p ∙ memory_line (line_of failures.Memory) })

  pub outcome_refused : (e : Refusal) → ComesBy e Due Reads m after → Shows (status_of e) (line_of e) status before put → EndsAs Due Reads m status after before put
  outcome_refused e comes (inl (s, p)) = shown_whole e comes s p
  outcome_refused e comes (inr (s, (count, line_count, p))) =
      cut_off s (record { whole = line_of e; shown = inr (e, comes, refl); count = count; line_count = line_count; text = p })
