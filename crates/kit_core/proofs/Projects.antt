-- From the parts of a check or of a build to the whole: the project's file is read, and then its text decides what is due and what is read.
use Rattle.std.proofs.Common.{ℕ, zero, suc, arith, ◌≡◌, inl, inr, List, [], ◌∷◌, sym, ap, subst, ◌∙◌}
use Rattle.std.specs.Prelude.{Option, Some, None, Result, Ok, Err, IfSome, Contains}
use Rattle.kit_base.specs.Held.{Held}
use Rattle.kit_base.specs.Effects.{all_done}
use Rattle.kit_base.specs.Outside.{due}
use Rattle.kit_base.specs.declared.outside.FileErr.{FileErr}
use Rattle.kit_base.specs.declared.failure.Failure.TheVariants as failures
use Rattle.kit_tools.specs.declared.refusal.DueRefusal.{DueRefusal}
use Rattle.kit_tools.specs.Refusal.{Refusal}
use Rattle.kit_tools.specs.declared.refusal.RefusalCause.TheVariants as refusals
use Rattle.kit_tools.specs.declared.shown.Shown.{Shown}
use Rattle.kit_tools.specs.Inputs.{or_refused, unread}
use Rattle.kit_tools.specs.Work.{Work, ComesBy}
use Rattle.kit_tools.specs.Carrying.{FailsAt, FailsIn, GivesBy, IsCut, LeavesBy, shown_status, text_of}
use Rattle.kit_tools.proofs.Stages.{cut, fails_wider, refused_gave}
use Rattle.kit_core.specs.inner.Checking.{IsOneUnlessStopped}
use Rattle.kit_core.specs.Due.{project_reads}

-- one of the refusals that are due came, or a call failed at a file that is read, and nothing was changed
pub refused : (Due : Result Work DueRefusal → Type 0) (Reads : List ℕ → Type 0) (e : Refusal) (m : Held) (after : Option Held)
    → IsOneUnlessStopped (λ r. Due (Err r)) e → FailsIn Reads e → after ≡ Some m → ComesBy e Due Reads m after
refused Due Reads (failures.Cause (refusals.Due r)) m after h reads same = (h, same)
refused Due Reads (failures.Cause (refusals.Failed n)) m after h reads same = inl (reads, same)
refused Due Reads failures.Memory m after h reads same = inl same

the_only : (x n : List ℕ) → Contains (x ∷ []) n → n ≡ x
the_only x n (zero, within, is) = sym is
the_only x n (suc k, within, is) = absurd (omega (arith, within))

-- what is due and what is read by what the read of the project's file gives
module _ (project : List ℕ) (Due : Held → Result (List ℕ) FileErr → Result Work DueRefusal → Type 0) (AreRead : Held → (text name : List ℕ) → Type 0) where
  abbrev pub DueOf : Held → Result Work DueRefusal → Type 0
  DueOf m d = Due m (due m project) d

  abbrev pub ReadsOf : Held → List ℕ → Type 0
  ReadsOf m name = project_reads (AreRead m) project (due m project) name

  abbrev pub Left : Option Held → Option Held → Result Shown Refusal → Type 0
  Left before after r = IfSome before (λ m. LeavesBy r (DueOf m) (ReadsOf m) m after)

  -- the project was not read
  abbrev pub Refuses : Type 0
  Refuses = (m : Held) (f : FileErr) (r : DueRefusal) → unread project f ≡ failures.Cause (refusals.Due r) → Due m (Err f) (Err r)

  unread_due : Refuses → (m : Held) (d : Result (List ℕ) FileErr) (r : DueRefusal) → or_refused (unread project) d ≡ Err (failures.Cause (refusals.Due r)) → Due m d (Err r)
  unread_due refuses m (Ok text) r h = absurd cc
  unread_due refuses m (Err f) r h = refuses m f r (cc h)

  own_read : (m : Held) (d : Result (List ℕ) FileErr) (name : List ℕ) → name ≡ project → project_reads (AreRead m) project d name
  own_read m (Ok text) name is = inl is
  own_read m (Err f) name is = is

  unread_one : {X : Type 0} (view : X → List ℕ) → Refuses → (m : Held) (e : Refusal) → GivesBy view (Err e) (or_refused (unread project) (due m project)) → IsOneUnlessStopped (λ r. DueOf m (Err r)) e
  unread_one view refuses m (failures.Cause (refusals.Due r)) h = unread_due refuses m (due m project) r h
  unread_one view refuses m (failures.Cause (refusals.Failed n)) h = tt
  unread_one view refuses m failures.Memory h = tt

  pub left_unread : {X : Type 0} (view : X → List ℕ) → Refuses → (e : Refusal) (h0 h1 : Option Held)
      → IfSome h0 (λ m. GivesBy view (Err e) (or_refused (unread project) (due m project))) → FailsAt (project ∷ []) e → h1 ≡ h0 → Left h0 h1 (Err e)
  left_unread view refuses e None h1 given fails same = tt
  left_unread view refuses e (Some m) h1 given fails same =
      refused (DueOf m) (ReadsOf m) e m h1 (unread_one view refuses m e given) (fails_wider _ _ e (λ n c. own_read m (due m project) n (the_only project n c)) fails) same

  -- the project was read
  module _ (text : List ℕ) where
    abbrev pub WasRead : Option Held → Type 0
    WasRead held = IfSome held (λ m. or_refused (unread project) (due m project) ≡ Ok text)

    due_of_text : (m : Held) (d : Result Work DueRefusal) → WasRead (Some m) → Due m (Ok text) d → DueOf m d
    due_of_text m d read h = subst (λ r. Due m r d) (sym (refused_gave _ _ _ read)) h

    refused_of_text : (m : Held) (e : Refusal) → WasRead (Some m) → IsOneUnlessStopped (λ r. Due m (Ok text) (Err r)) e → IsOneUnlessStopped (λ r. DueOf m (Err r)) e
    refused_of_text m e read h = subst (λ s. IsOneUnlessStopped (λ r. Due m s (Err r)) e) (sym (refused_gave _ _ _ read)) h

    reads_of_text : (m : Held) (e : Refusal) → WasRead (Some m) → FailsIn (AreRead m text) e → FailsIn (ReadsOf m) e
    reads_of_text m e read h =
        subst (λ s. FailsIn (project_reads (AreRead m) project s) e) (sym (refused_gave _ _ _ read)) (fails_wider _ _ e (λ n r. inr r) h)

    -- a refusal that is due, or a failed call at such a file
    abbrev pub MayRefuse : Refusal → Option Held → Type 0
    MayRefuse e held = IfSome held (λ m. IsOneUnlessStopped (λ r. Due m (Ok text) (Err r)) e)

    abbrev pub MayFail : Refusal → Option Held → Type 0
    MayFail e held = IfSome held (λ m. FailsIn (AreRead m text) e)

    pub left_refused : (e : Refusal) (h0 h1 h2 : Option Held) → WasRead h0 → h1 ≡ h0 → MayRefuse e h1 → MayFail e h1 → h2 ≡ h1 → Left h0 h2 (Err e)
    left_refused e None h1 h2 read e1 h f e2 = tt
    left_refused e (Some m) h1 h2 read e1 h f e2 =
        refused (DueOf m) (ReadsOf m) e m h2 (refused_of_text m e read (subst (MayRefuse e) e1 h)) (reads_of_text m e read (subst (MayFail e) e1 f)) (e2 ∙ e1)

    -- and this work is due
    module _ (work : Work) where
      abbrev pub IsDue : Option Held → Type 0
      IsDue held = IfSome held (λ m. Due m (Ok text) (Ok work))

      pub left_done : (v : Shown) (h0 h1 h2 h3 : Option Held) → text_of v ≡ work.text → shown_status v ≡ work.status → WasRead h0 → h1 ≡ h0 → IsDue h1 → h2 ≡ h1 → h3 ≡ all_done work.effects h2 → Left h0 h3 (Ok v)
      left_done v None h1 h2 h3 shown status read e1 is e2 e3 = tt
      left_done v (Some m) h1 h2 h3 shown status read e1 is e2 e3 =
          (work, due_of_text m (Ok work) read (subst IsDue e1 is), e3 ∙ ap (all_done work.effects) (e2 ∙ e1), shown, status)

      pub left_cut : (e : Refusal) (h0 h1 h2 h3 : Option Held) → WasRead h0 → h1 ≡ h0 → IsDue h1 → h2 ≡ h1 → IsCut e work.effects h2 h3 → Left h0 h3 (Err e)
      left_cut e None h1 h2 h3 read e1 is e2 is_cut = tt
      left_cut e (Some m) h1 h2 h3 read e1 is e2 is_cut =
          cut e work (DueOf m) (ReadsOf m) m h3 (due_of_text m (Ok work) read (subst IsDue e1 is)) (subst (λ h. IsCut e work.effects h h3) (e2 ∙ e1) is_cut)
