-- What every end of a command says.
use Rattle.std.proofs.Common.{ℕ, ◌≡◌, ◌⊎◌, inl, inr, List, [], sym, ap, subst, ◌∙◌}
use Rattle.std.specs.Prelude.{Option, Some, None, Result, Ok, Err, IfSome}
use Rattle.kit_base.specs.Held.{Held}
use Rattle.kit_base.specs.Counts.{Rose}
use Rattle.kit_base.specs.Effects.{all_done, CutShort}
use Rattle.kit_base.specs.Outside.{due}
use Rattle.kit_base.specs.declared.outside.FileErr.{FileErr}
use Rattle.kit_base.specs.declared.failure.Failure.TheVariants as failures
use Rattle.build_core.specs.declared.building.Built.{Built}
use Rattle.build_core.specs.declared.error.BuildErr.{BuildErr}
use Rattle.build_core.specs.Build.{HasNoParts, IsBuilt}
use Rattle.kit_tools.specs.declared.refusal.DueRefusal.{DueRefusal}
use Rattle.kit_tools.specs.Refusal.{Refusal}
use Rattle.kit_tools.specs.declared.refusal.RefusalCause.TheVariants as refusals
use Rattle.kit_tools.specs.Causes.{IsUnrisen}
use Rattle.kit_tools.specs.Running.{settings_due, run_due}
use Rattle.kit_tools.specs.Watching.{watch_settings_due}
use Rattle.kit_words.specs.Command.{RunWords, WatchWords, Command, Build, Convert, Trace, Run, Play, Watch, Bounds, Check, Gen, command_of}
use Rattle.kit_tools.specs.Work.{Work, ComesBy}
use Rattle.kit_tools.specs.Converting.{convert_due}
use Rattle.kit_tools.specs.Tracing.{trace_due}
use Rattle.kit_core.specs.Due.{read_build_due, number_gen_due, read_build_refused, read_check_due, read_play_due, read_watch_due, read_bounds_due, form_due, form_refused, command_due, command_refused}
use Rattle.kit_core.specs.Outcome.{IsShown, EndsAs, Done, Refused, FileFault, OutOfMemory, SinkFault, FrontFault, FrontCutOff, HasDueStatus, IsOutcome, status_due}
use Rattle.kit_core.specs.Generating.{front_of, functions_due}
use Rattle.kit_core.proofs.Behind.{plain_ends, refused_plain}

-- where no work with effects is due, nothing changed
module _ (Due : Result Work DueRefusal → Type 0) (Reads : List ℕ → Type 0) (m : Held) (after : Option Held) (none : (w : Work) → Due (Ok w) → w.effects ≡ []) where
  done_still : (w : Work) → Due (Ok w) → after ≡ all_done w.effects (Some m) → after ≡ Some m
  done_still w d e = e ∙ ap (λ es. all_done es (Some m)) (none w d)

  not_cut : (name : List ℕ) (w : Work) → Due (Ok w) → CutShort name w.effects (Some m) after → ⊥
  not_cut name w d h = subst (λ es. CutShort name es (Some m) after) (none w d) h

  comes_still : (e : Refusal) → ComesBy e Due Reads m after → after ≡ Some m
  comes_still (failures.Cause (refusals.Due r)) h = h.1
  comes_still (failures.Cause (refusals.Failed n)) (inl h) = h.1
  comes_still (failures.Cause (refusals.Failed n)) (inr (w, d, h)) = absurd (not_cut n w d h)
  comes_still failures.Memory (inl h) = h
  comes_still failures.Memory (inr (n, (w, d, h))) = absurd (not_cut n w d h)

  shown_still : (text : List ℕ) → IsShown text Due Reads m after → after ≡ Some m
  shown_still text (inl (w, d, files, t)) = done_still w d files
  shown_still text (inr (e, comes, t)) = comes_still e comes

  ends_still : (status : ℕ) (before put : Option (List ℕ)) → EndsAs Due Reads m status after before put → after ≡ Some m
  ends_still status before put (Done h) = done_still h.work h.is_due h.files
  ends_still status before put (Refused h) = h.files
  ends_still status before put (FileFault h) = comes_still (failures.Cause (refusals.Failed h.name)) h.files
  ends_still status before put (OutOfMemory s h) = shown_still h.whole h.shown
  ends_still status before put (SinkFault s h) = shown_still h.whole h.shown

differ : {A : Type 0} (r : Result A Refusal) (e : Refusal) (w : A) → r ≡ Err e → r ≡ Ok w → ⊥
differ (Ok v) e w h k = absurd cc
differ (Err d) e w h k = absurd cc

-- a check has no effects
pub check_still : (project : List ℕ) (m : Held) (r : Result (List ℕ) FileErr) (w : Work) → read_check_due project m r (Ok w) → w.effects ≡ []
check_still project m (Ok text) w h = ap (λ (v : Work). v.effects) (sym h.1)
check_still project m (Err e) w h = absurd cc

-- where the input of a build is refused, no work is due of it
abbrev Law : Type 0
Law = (m : Held) (project : List ℕ) (b : Built) (e : BuildErr) → IsBuilt m project b → HasNoParts m project e → ⊥

no_build : Law → (project cart map_name : List ℕ) (m : Held) (r : Result (List ℕ) FileErr) (e : DueRefusal) (w : Work)
    → read_build_refused project m r e → read_build_due project cart map_name m r (Ok w) → ⊥
no_build law project cart map_name m (Ok text) e w h k = law m text k.0 h.0 k.1 h.1
no_build law project cart map_name m (Err f) e w h k = absurd cc

-- nor of a play whose input is refused
no_play : Law → (project map_name : List ℕ) (words : RunWords) (m : Held) (r : Result (List ℕ) FileErr) (e : DueRefusal) (w : Work)
    → read_build_refused project m r e ⊎ (settings_due words m ≡ Err (failures.Cause (refusals.Due e))) → read_play_due project map_name words m r (Ok w) → ⊥
no_play law project map_name words m (Ok text) e w (inl h) k = law m text k.built h.0 k.is_built h.1
no_play law project map_name words m (Ok text) e w (inr h) k = differ (settings_due words m) (failures.Cause (refusals.Due e)) k.settings h k.settings_are
no_play law project map_name words m (Err f) e w h k = absurd cc

-- nor of a watch whose input is refused
no_watch : Law → (words : WatchWords) (m : Held) (r : Result (List ℕ) FileErr) (e : DueRefusal) (w : Work)
    → read_build_refused words.project m r e ⊎ (watch_settings_due words m ≡ Err (failures.Cause (refusals.Due e))) → read_watch_due words m r (Ok w) → ⊥
no_watch law words m (Ok text) e w (inl h) k = law m text k.built h.0 k.is_built h.1
no_watch law words m (Ok text) e w (inr h) k = differ (watch_settings_due words m) (failures.Cause (refusals.Due e)) k.settings h k.settings_are
no_watch law words m (Err f) e w h k = absurd cc

-- nor of `bounds` whose input is refused
no_bounds : Law → (project cart map_name text_name : List ℕ) (m : Held) (r : Result (List ℕ) FileErr) (e : DueRefusal) (w : Work)
    → read_build_refused project m r e → read_bounds_due project cart map_name text_name m r (Ok w) → ⊥
no_bounds law project cart map_name text_name m (Ok text) e w h k = law m text k.built h.0 k.is_built h.1
no_bounds law project cart map_name text_name m (Err f) e w h k = absurd cc

-- nor of a number out of its range
no_gen : (d : Result ℕ DueRefusal) (project cart map_name : List ℕ) (m : Held) (e : DueRefusal) (w : Work) → d ≡ Err e → number_gen_due d project cart map_name m (Ok w) → ⊥
no_gen (Ok n) project cart map_name m e w h k = absurd cc
no_gen (Err r) project cart map_name m e w h k = absurd cc

form_still : Law → (c : Option Command) (m : Held) (e : DueRefusal) → form_refused c m e → (w : Work) → form_due c m (Ok w) → w.effects ≡ []
form_still law None m e h w k = absurd cc
form_still law (Some (Build project cart map_name)) m e h w k = absurd (no_build law project cart map_name m (due m project) e w h k)
form_still law (Some (Convert conversion source target)) m e h w k = absurd (differ (convert_due conversion source target m) (failures.Cause (refusals.Due e)) w h k)
form_still law (Some (Trace cart answers card steps)) m e h w k = absurd (differ (trace_due cart answers card steps m) (failures.Cause (refusals.Due e)) w h k)
form_still law (Some (Run words)) m e h w k = absurd (differ (run_due words m) (failures.Cause (refusals.Due e)) w h k)
form_still law (Some (Play project map_name words)) m e h w k = absurd (no_play law project map_name words m (due m project) e w h k)
form_still law (Some (Watch words)) m e h w k = absurd (no_watch law words m (due m words.project) e w h k)
form_still law (Some (Bounds project cart map_name text_name)) m e h w k = absurd (no_bounds law project cart map_name text_name m (due m project) e w h k)
form_still law (Some (Check project)) m e h w k = check_still project m (due m project) w k
form_still law (Some (Gen number project cart map_name)) m e h w k = absurd (no_gen (functions_due number) project cart map_name m e w h k)

pub untouched_told : Law → (words : List (List ℕ)) (status : ℕ) (told after : Option Held) (before put : Option (List ℕ))
    → IfSome told (λ m. IsOutcome words m status after before put) → IfSome told (λ m. (e : DueRefusal) → command_refused words m e → after ≡ told)
untouched_told law words status None after before put outcome = tt
untouched_told law words status (Some m) after before put outcome = λ e h.
    ends_still _ _ m after (form_still law (command_of words) m e h) status before put
    (plain_ends (command_of words) m status after before put (refused_plain (command_of words) m e h) outcome)

-- where no call failed, the status is one that is due, or 8
ends_due : (Due : Result Work DueRefusal → Type 0) (Reads : List ℕ → Type 0) (m : Held) (status : ℕ) (after : Option Held) (before put : Option (List ℕ))
    → EndsAs Due Reads m status after before put → (status ≡ 5 → ⊥) → (status ≡ 9 → ⊥) → ((d : Result Work DueRefusal) × Due d × (status ≡ status_due d)) ⊎ (status ≡ 8)
ends_due Due Reads m status after before put (Done h) five nine = inl (Ok h.work, h.is_due, h.status_is)
ends_due Due Reads m status after before put (Refused h) five nine = inl (Err h.refusal, h.is_due, h.status_is)
ends_due Due Reads m status after before put (FileFault h) five nine = absurd (five h.status_is)
ends_due Due Reads m status after before put (OutOfMemory s h) five nine = inr s
ends_due Due Reads m status after before put (SinkFault s h) five nine = absurd (nine s)

module _ (words : List (List ℕ)) (m : Held) (status : ℕ) (after : Option Held) (before put : Option (List ℕ)) (five : status ≡ 5 → ⊥) (nine : status ≡ 9 → ⊥) where
  due_behind : (made : Held) → all_done (front_of (command_of words)) (Some m) ≡ Some made
      → ((d : Result Work DueRefusal) × command_due words made d × (status ≡ status_due d)) ⊎ (status ≡ 8) → HasDueStatus words m status ⊎ (status ≡ 8)
  due_behind made is (inl h) = inl (record { made = made; made_is = is; answer = h.0; is_due = h.1; status_is = h.2 })
  due_behind made is (inr eight) = inr eight

  outcome_due : IsOutcome words m status after before put → HasDueStatus words m status ⊎ (status ≡ 8)
  outcome_due (inl h) = due_behind h.made h.made_is (ends_due _ _ h.made status after before put h.ends five nine)
  outcome_due (inr (FrontFault name cut s p)) = absurd (five s)
  outcome_due (inr (FrontCutOff e comes (inl s) count line_count p)) = inr s
  outcome_due (inr (FrontCutOff e comes (inr s) count line_count p)) = absurd (nine s)

pub complete_told : (words : List (List ℕ)) (status : ℕ) (told after : Option Held) (before put : Option (List ℕ)) (f f' s s' : ℕ)
    → (status ≡ 5 → Rose f f') → (status ≡ 9 → Rose s s') → IfSome told (λ m. IsOutcome words m status after before put)
    → IfSome told (λ m. IsUnrisen f f' → IsUnrisen s s' → HasDueStatus words m status ⊎ (status ≡ 8))
complete_told words status None after before put f f' s s' five nine outcome = tt
complete_told words status (Some m) after before put f f' s s' five nine outcome =
    λ no_fault no_unput. outcome_due words m status after before put (λ e. no_fault (five e)) (λ e. no_unput (nine e)) outcome
