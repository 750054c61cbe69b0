-- What any command leaves in the files: from how it ended to the fronts, and from these to the files of a run.
use Rattle.std.proofs.Common.{ℕ, ◌≡◌, ◌⊎◌, inl, inr, List, [], ◌∷◌, ◌++◌, refl, sym, ap, subst, ◌∙◌}
use Rattle.std.specs.Prelude.{Option, Some, None, Result, Ok, IfSome, IsSomeAnd}
use Rattle.std.specs.FinMap.{get, nat_cmp-IsAntisymmetric, same_map, slice_cmp-IsAntisymmetric}
use Rattle.std.proofs.lemmas.Cmp.{nat_list_cmp_total}
use Rattle.kit_base.specs.Held.{Held, emptied}
use Rattle.kit_base.specs.Effects.{Effect, Creates, Appends, all_done, done, CutShort}
use Rattle.kit_base.proofs.Cuts.{all_done-append, cut_second}
use Rattle.kit_base.specs.declared.failure.Failure.TheVariants as failures
use Rattle.run_core.specs.Outputs.{run_outputs}
use Rattle.output_laws.specs.Begun.{AreBegun, AreFronts}
use Rattle.output_laws.specs.Standing.{AreApart, FrontsStand}
use Rattle.output_laws.proofs.Begun.{begun_fronts}
use Rattle.output_laws.proofs.Outputs.{outputs_files}
use Rattle.kit_words.specs.Command.{RunWords, Run, command_of}
use Rattle.kit_tools.specs.declared.refusal.DueRefusal.{DueRefusal}
use Rattle.kit_tools.specs.Refusal.{Refusal}
use Rattle.kit_tools.specs.declared.refusal.RefusalCause.TheVariants as refusals
use Rattle.kit_tools.specs.Running.{Game, game_due, names_in, run_due}
use Rattle.kit_tools.specs.Work.{Work, ComesBy}
use Rattle.kit_core.specs.Due.{command_reads, form_due}
use Rattle.kit_core.specs.Generating.{front_of}
use Rattle.kit_core.specs.Holding.{IsRunBegun}
use Rattle.kit_core.specs.Leaving.{Begins, begins_front, begins_work, LeavesFronts, RunsLeaveFronts}
use Rattle.kit_core.specs.Outcome.{ComesInFront, EndsAs, Done, Refused, FileFault, OutOfMemory, SinkFault, FrontFault, FrontCutOff, IsOutcome, IsShown}
use Rattle.kit_core.proofs.Behind.{some_made}
use Rattle.kit_core.proofs.Fitting.{begun_fits}
use Rattle.kit_core.proofs.Headlines.{bind_ok}
use Rattle.kit_core.proofs.Holdings.{run_apart}

-- ---- effects that were begun, where it is told what is held

-- these files are held, and the effects have come to them
abbrev Comes : List Effect → Held → Option Held → Type 0
Comes effects held after = (files : Held) × (after ≡ Some files) × AreBegun effects held files

come_done : (effects : List Effect) (held : Held) (after : Option Held) → after ≡ all_done effects (Some held) → Comes effects held after
come_done effects held after is = let made = some_made effects held in (made.0, is ∙ made.1, inl (sym made.1))

-- what is held is told after effects that were cut short
cut_told : (name : List ℕ) (es : List Effect) (m : Held) (after : Option Held) → CutShort name es (Some m) after → (k : Held) × (after ≡ Some k)
cut_told name [] m after h = absurd h
cut_told name (Creates n ∷ es) m after (inl (is, inl e)) = (m, e)
cut_told name (Creates n ∷ es) m after (inl (is, inr e)) = (emptied n m, e)
cut_told name (Appends n piece ∷ es) m after (inl (is, k)) = (_, k.1)
cut_told name (Creates n ∷ es) m after (inr h) = cut_told name es (done (Creates n) m) after h
cut_told name (Appends n piece ∷ es) m after (inr h) = cut_told name es (done (Appends n piece) m) after h

come_cut : (effects : List Effect) (held : Held) (after : Option Held) (name : List ℕ) → CutShort name effects (Some held) after → Comes effects held after
come_cut effects held after name cut =
    let told = cut_told name effects held after cut in
    (told.0, told.1, inr (name, subst (λ o. CutShort name effects (Some held) o) told.1 cut))

-- ---- from the outcome

module _ (words : List (List ℕ)) (held : Held) (after : Option Held) where
  abbrev front : List Effect
  front = front_of (command_of words)

  leaves : (effects : List Effect) → Begins (command_of words) held effects → Comes effects held after → LeavesFronts words held after
  leaves effects begun come =
      let fits = begun_fits words held effects begun in
      let fronts = begun_fronts effects held come.0 fits.once come.2 in
      record {
        effects = effects;
        begun = begun;
        fronts = subst (λ o. IsSomeAnd o (λ files. AreFronts effects held files)) (sym come.1) fronts;
        others = λ name h. subst (λ o. IsSomeAnd o (λ files. get files name ≡ get held name)) (sym come.1) (fronts.others name (fits.others name h));
      }

  -- nothing was begun
  unchanged : after ≡ Some held → LeavesFronts words held after
  unchanged is = record {
    effects = front;
    begun = begins_front refl;
    fronts = subst (λ o. IsSomeAnd o (λ files. AreFronts front held files)) (sym is) (record { created = λ name h. inl refl; others = λ name h. refl });
    others = λ name h. subst (λ o. IsSomeAnd o (λ files. get files name ≡ get held name)) (sym is) refl;
  }

  front_cut : (e : Refusal) → ComesInFront e front held after → LeavesFronts words held after
  front_cut (failures.Cause (refusals.Due r)) h = absurd h
  front_cut (failures.Cause (refusals.Failed name)) h = leaves front (begins_front refl) (come_cut front held after name h)
  front_cut failures.Memory (inl same) = unchanged same
  front_cut failures.Memory (inr h) = leaves front (begins_front refl) (come_cut front held after h.0 h.1)

  -- behind the front
  module _ (made : Held) (made_is : all_done front (Some held) ≡ Some made) where
    abbrev Due : Result Work DueRefusal → Type 0
    Due d = form_due (command_of words) made d

    abbrev Reads : List ℕ → Type 0
    Reads name = command_reads (command_of words) made name

    left_front : after ≡ Some made → LeavesFronts words held after
    left_front is = leaves front (begins_front refl) (come_done front held after (is ∙ sym made_is))

    left_done : (work : Work) → Due (Ok work) → after ≡ all_done work.effects (Some made) → LeavesFronts words held after
    left_done work d is =
        leaves (front ++ work.effects) (begins_work made made_is work d refl)
        (come_done (front ++ work.effects) held after (is ∙ ap (all_done work.effects) (sym made_is) ∙ sym (all_done-append front work.effects (Some held))))

    left_cut : (name : List ℕ) (work : Work) → Due (Ok work) → CutShort name work.effects (Some made) after → LeavesFronts words held after
    left_cut name work d cut =
        leaves (front ++ work.effects) (begins_work made made_is work d refl)
        (come_cut (front ++ work.effects) held after name (cut_second name front work.effects (Some held) after (subst (λ o. CutShort name work.effects o after) (sym made_is) cut)))

    left_refused : (e : Refusal) → ComesBy e Due Reads made after → LeavesFronts words held after
    left_refused (failures.Cause (refusals.Due r)) h = left_front h.1
    left_refused (failures.Cause (refusals.Failed n)) (inl h) = left_front h.1
    left_refused (failures.Cause (refusals.Failed n)) (inr h) = left_cut n h.0 h.1 h.2
    left_refused failures.Memory (inl h) = left_front h
    left_refused failures.Memory (inr h) = left_cut h.0 h.1.0 h.1.1 h.1.2

    left_shown : (text : List ℕ) → IsShown text Due Reads made after → LeavesFronts words held after
    left_shown text (inl h) = left_done h.0 h.1 h.2
    left_shown text (inr h) = left_refused h.0 h.1

    left_by : (status : ℕ) (before put : Option (List ℕ)) → EndsAs Due Reads made status after before put → LeavesFronts words held after
    left_by status before put (Done h) = left_done h.work h.is_due h.files
    left_by status before put (Refused h) = left_front h.files
    left_by status before put (FileFault h) = left_refused (failures.Cause (refusals.Failed h.name)) h.files
    left_by status before put (OutOfMemory s h) = left_shown h.whole h.shown
    left_by status before put (SinkFault s h) = left_shown h.whole h.shown

  fronts_left : (status : ℕ) (before put : Option (List ℕ)) → IsOutcome words held status after before put → LeavesFronts words held after
  fronts_left status before put (inl h) = left_by h.made h.made_is status before put h.ends
  fronts_left status before put (inr (FrontFault name cut s p)) = front_cut (failures.Cause (refusals.Failed name)) cut
  fronts_left status before put (inr (FrontCutOff e comes s count line_count p)) = front_cut e comes

pub fronts_told : (words : List (List ℕ)) (status : ℕ) (told after : Option Held) (before put : Option (List ℕ))
    → IfSome told (λ m. IsOutcome words m status after before put) → IfSome told (λ m. LeavesFronts words m after)
fronts_told words status None after before put outcome = tt
fronts_told words status (Some m) after before put outcome = fronts_left words m after status before put outcome

-- ---- to the files of a run

-- no effect leaves the files as they were
still : (held files : Held) → AreFronts [] held files → files ≡ held
still held files left = same_map nat_list_cmp_total (slice_cmp-IsAntisymmetric nat_cmp-IsAntisymmetric) files held (λ name. left.others name refl)

module _ (run : RunWords) (held : Held) where
  abbrev Left : Option Held → Type 0
  Left after = (after ≡ Some held) ⊎ IsRunBegun run held after

  some_still : (after : Option Held) → IsSomeAnd after (λ files. AreFronts [] held files) → Left after
  some_still None left = absurd left
  some_still (Some files) left = inl (ap Some (still held files left))

  module _ (apart : AreApart (names_in run)) (game : Game) (due : game_due run held ≡ Ok game) where
    abbrev outputs : List Effect
    outputs = run_outputs (names_in run) game.setup game.count

    its_files : (after : Option Held) → IsSomeAnd after (λ files. AreFronts outputs held files) → IsSomeAnd after (λ files. FrontsStand (names_in run) game.setup game.count held files)
    its_files None left = absurd left
    its_files (Some files) left = outputs_files (names_in run) game.setup game.count held files apart left

    run_begun : (effects es : List Effect) → outputs ≡ es → effects ≡ es → (after : Option Held) → IsSomeAnd after (λ files. AreFronts effects held files) → IsRunBegun run held after
    run_begun effects es is same after left = record {
      game = game;
      is_due = due;
      fronts = its_files after (subst (λ l. IsSomeAnd after (λ files. AreFronts l held files)) (same ∙ sym is) left);
    }

  run_left : AreApart (names_in run) → (effects : List Effect) → Begins (Some (Run run)) held effects → (after : Option Held) → IsSomeAnd after (λ files. AreFronts effects held files) → Left after
  run_left apart effects (begins_front same) after left = some_still after (subst (λ l. IsSomeAnd after (λ files. AreFronts l held files)) same left)
  run_left apart effects (begins_work made made_is work d same) after left =
      let there : held ≡ made = cc made_is in
      let due : run_due run held ≡ Ok work = subst (λ k. run_due run k ≡ Ok work) (sym there) d in
      let game = bind_ok (game_due run held) _ work due in
      let is : run_outputs (names_in run) game.0.setup game.0.count ≡ work.effects = cc game.2 in
      inr (run_begun apart game.0 game.1 effects work.effects is same after left)

pub runs_left : RunsLeaveFronts
runs_left words held after left = λ run named.
    run_left run held (run_apart words run named) left.effects (subst (λ c. Begins c held left.effects) named left.begun) after left.fronts
