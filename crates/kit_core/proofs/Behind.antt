-- Commands with a front, and those without one.
use Rattle.std.proofs.Common.{ℕ, ◌≡◌, ◌⊎◌, inl, inr, List, [], ◌∷◌, ◌++◌, take, refl, sym, ap, subst, ◌∙◌, append-nil}
use Rattle.std.proofs.Math.Seq.{take-length}
use Rattle.std.specs.Prelude.{Option, Some, None, Result, Ok, Err, IfSome, length}
use Rattle.std.proofs.lemmas.Option.{IfSome_then}
use Rattle.kit_base.specs.Held.{Held}
use Rattle.kit_base.specs.Effects.{Effect, done, all_done}
use Rattle.kit_base.specs.declared.failure.Failure.TheVariants as failures
use Rattle.kit_tools.specs.declared.refusal.DueRefusal.{DueRefusal}
use Rattle.kit_tools.specs.declared.refusal.DueRefusal.TheVariants as dues
use Rattle.kit_tools.specs.declared.refusal.RefusalCause.TheVariants as refusals
use Rattle.kit_tools.specs.declared.shown.Shown.{Shown}
use Rattle.kit_tools.specs.Refusal.{Refusal, line_of, status_of}
use Rattle.kit_tools.specs.Work.{Work}
use Rattle.kit_tools.specs.Carrying.{LeavesBy, shown_status, text_of}
use Rattle.kit_words.specs.Command.{Command, Build, Convert, Trace, Run, Play, Watch, Bounds, Check, Gen}
use Rattle.kit_core.specs.Due.{command_reads, form_due, form_refused}
use Rattle.kit_core.specs.inner.Fronts.{Carries, StopsBy}
use Rattle.kit_core.specs.Generating.{front_of, sources_due}
use Rattle.kit_core.specs.Outcome.{putting, ComesInFront, EndsAs, FormEnds, FrontCutOff, FrontFault, OutOfMemory, SinkFault, StopsInFront, IsCutOff}
use Rattle.kit_core.specs.inner.Putting.{Shows}
use Rattle.kit_core.proofs.Outcomes.{outcome_done, outcome_refused}

-- what is held is told after a front as before it
pub some_made : (es : List Effect) (m : Held) → (made : Held) × (all_done es (Some m) ≡ Some made)
some_made [] m = (m, refl)
some_made (e ∷ es) m = some_made es (done e m)

-- a command without a front is carried out among the files that were held
pub plain : (c : Option Command) (r : Result Shown Refusal) (held after : Option Held) → front_of c ≡ []
    → IfSome held (λ m. LeavesBy r (form_due c m) (command_reads c m) m after) → IfSome held (λ m. Carries r c m after)
plain c r None after none h = tt
plain c r (Some m) after none h = inl (record { made = m; made_is = ap (λ es. all_done es (Some m)) none; leaves = h })

-- the same of words that name it
pub plainly : (o c : Option Command) → o ≡ c → (r : Result Shown Refusal) (held after : Option Held) → front_of c ≡ []
    → IfSome held (λ m. LeavesBy r (form_due c m) (command_reads c m) m after) → IfSome held (λ m. Carries r o m after)
plainly o c is r held after none h = subst (λ x. IfSome held (λ m. Carries r x m after)) (sym is) (plain c r held after none h)

-- the words are no form
pub no_form : (o : Option Command) → o ≡ None → (held : Option Held) → IfSome held (λ m. Carries (Err (failures.Cause (refusals.Due dues.Usage))) o m held)
no_form o is None = tt
no_form o is (Some m) = plainly o None is (Err (failures.Cause (refusals.Due dues.Usage))) (Some m) (Some m) refl (refl, refl)

-- memory may run out before the front
pub not_begun : (c : Option Command) (r : Result Shown Refusal) (held after : Option Held) → r ≡ Err failures.Memory → after ≡ held → IfSome held (λ m. Carries r c m after)
not_begun c r None after is same = tt
not_begun c r (Some m) after is same = inr (subst (λ x. StopsBy x (front_of c) m after) (sym is) (inl same))

-- ---- from what was left and what was put to the outcome

module _ (front : List Effect) (m : Held) (status : ℕ) (after : Option Held) (before put : Option (List ℕ)) where
  whole_line : (list : List ℕ) → putting list before ≡ putting (take (length list) list ++ take 0 (line_of failures.Memory)) before
  whole_line list = ap (λ xs. putting xs before) (sym (append-nil (take (length list) list) ∙ take-length list))

  stopped_whole : (e : Refusal) → ComesInFront e front m after → status ≡ status_of e → put ≡ putting (line_of e) before → StopsInFront front m status after before put
  stopped_whole (failures.Cause (refusals.Due r)) comes s p = absurd comes
  stopped_whole (failures.Cause (refusals.Failed name)) comes s p = FrontFault name comes s p
  stopped_whole failures.Memory comes s p = FrontCutOff failures.Memory comes (inl s) (length (line_of failures.Memory)) 0 (p ∙ whole_line (line_of failures.Memory))

  stopped : (e : Refusal) → ComesInFront e front m after → Shows (status_of e) (line_of e) status before put → StopsInFront front m status after before put
  stopped e comes (inl h) = stopped_whole e comes h.0 h.1
  stopped e comes (inr h) = FrontCutOff e comes h.0 h.1.0 h.1.1 h.1.2

module _ (c : Option Command) (m : Held) (status : ℕ) (after : Option Held) (before put : Option (List ℕ)) where
  pub carried_done : (v : Shown) → Carries (Ok v) c m after → Shows (shown_status v) (text_of v) status before put → FormEnds c m status after before put
  carried_done v (inl h) shows = inl (record { made = h.made; made_is = h.made_is; ends = outcome_done _ _ h.made status after before put v h.leaves shows })
  carried_done v (inr h) shows = absurd h

  pub carried_refused : (e : Refusal) → Carries (Err e) c m after → Shows (status_of e) (line_of e) status before put → FormEnds c m status after before put
  carried_refused e (inl h) shows = inl (record { made = h.made; made_is = h.made_is; ends = outcome_refused _ _ h.made status after before put e h.leaves shows })
  carried_refused e (inr h) shows = inr (stopped (front_of c) m status after before put e h shows)

module _ (c : Option Command) (held : Option Held) (status : ℕ) (after : Option Held) (before put : Option (List ℕ)) where
  pub done_told : (v : Shown) → IfSome held (λ m. Carries (Ok v) c m after) → Shows (shown_status v) (text_of v) status before put → IfSome held (λ m. FormEnds c m status after before put)
  done_told v told shows = IfSome_then held told (λ m carries. carried_done c m status after before put v carries shows)

  pub refused_told : (e : Refusal) → IfSome held (λ m. Carries (Err e) c m after) → Shows (status_of e) (line_of e) status before put → IfSome held (λ m. FormEnds c m status after before put)
  refused_told e told shows = IfSome_then held told (λ m carries. carried_refused c m status after before put e carries shows)

-- ---- a command without a front ends among the files that were held

module _ (Due : Result Work DueRefusal → Type 0) (Reads : List ℕ → Type 0) (m : Held) (status : ℕ) (after : Option Held) (before put : Option (List ℕ)) where
  cut_off : (status ≡ 8) ⊎ (status ≡ 9) → IsCutOff Due Reads m after before put → EndsAs Due Reads m status after before put
  cut_off (inl s) h = OutOfMemory s h
  cut_off (inr s) h = SinkFault s h

  stopped_plain : StopsInFront [] m status after before put → EndsAs Due Reads m status after before put
  stopped_plain (FrontFault name cut s p) = absurd cut
  stopped_plain (FrontCutOff (failures.Cause (refusals.Due r)) comes s count line_count p) = absurd comes
  stopped_plain (FrontCutOff (failures.Cause (refusals.Failed name)) comes s count line_count p) = absurd comes
  stopped_plain (FrontCutOff failures.Memory (inl same) s count line_count p) =
      cut_off s (record { whole = line_of failures.Memory; shown = inr (failures.Memory, inl same, refl); count = count; line_count = line_count; text = p })
  stopped_plain (FrontCutOff failures.Memory (inr cut) s count line_count p) = absurd cut.1

pub plain_ends : (c : Option Command) (m : Held) (status : ℕ) (after : Option Held) (before put : Option (List ℕ)) → front_of c ≡ [] → FormEnds c m status after before put
    → EndsAs (form_due c m) (command_reads c m) m status after before put
plain_ends c m status after before put none (inl h) =
    let held : Some m ≡ Some h.made = ap (λ es. all_done es (Some m)) (sym none) ∙ h.made_is in
    let same : h.made ≡ m = cc held in
    subst (λ k. EndsAs (form_due c k) (command_reads c k) k status after before put) same h.ends
plain_ends c m status after before put none (inr h) =
    stopped_plain (form_due c m) (command_reads c m) m status after before put (subst (λ es. StopsInFront es m status after before put) none h)

-- a refused command has no front
pub refused_plain : (c : Option Command) (m : Held) (e : DueRefusal) → form_refused c m e → front_of c ≡ []
refused_plain None m e h = refl
refused_plain (Some (Build project cart map_name)) m e h = refl
refused_plain (Some (Convert conversion source target)) m e h = refl
refused_plain (Some (Trace cart answers card steps)) m e h = refl
refused_plain (Some (Run words)) m e h = refl
refused_plain (Some (Play project map_name words)) m e h = refl
refused_plain (Some (Watch words)) m e h = refl
refused_plain (Some (Bounds project cart map_name text_name)) m e h = refl
refused_plain (Some (Check project)) m e h = refl
refused_plain (Some (Gen number project cart map_name)) m e h = ap (sources_due project) h
