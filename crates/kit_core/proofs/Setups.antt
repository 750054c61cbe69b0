-- A project that is built, and what is run beside its cartridge: why there is no run, and at which file a call failed.
use Rattle.std.proofs.Common.{ℕ, ◌≡◌, List, subst}
use Rattle.std.specs.Prelude.{Option, Some, None, Result, Err, IfSome}
use Rattle.kit_base.specs.Held.{Held}
use Rattle.kit_base.specs.declared.failure.Failure.TheVariants as failures
use Rattle.build_core.specs.declared.building.Built.{Built}
use Rattle.build_core.specs.declared.error.BuildErr.{BuildErr}
use Rattle.build_core.specs.Build.{IsBuilt, IsUnbuilt}
use Rattle.build_core.specs.Reached.{IsReadToBuild}
use Rattle.kit_tools.specs.declared.refusal.DueRefusal.{DueRefusal}
use Rattle.kit_tools.specs.Refusal.{Refusal}
use Rattle.kit_tools.specs.declared.refusal.RefusalCause.TheVariants as refusals
use Rattle.kit_tools.specs.Running.{Settings}
use Rattle.kit_tools.specs.Gaming.{settings_of}
use Rattle.kit_tools.specs.Carrying.{GivesBy, FailsIn}
use Rattle.kit_tools.proofs.Stages.{fails_wider}
use Rattle.kit_core.specs.inner.Checking.{IsOneUnlessStopped, TextBuilt}
use Rattle.kit_core.specs.Due.{IsUnset, not_built, not_set, unbuilt, IsReadSet, reads_build, reads_set}

one_weaker : (P Q : DueRefusal → Type 0) → ((r : DueRefusal) → P r → Q r) → (e : Refusal) → IsOneUnlessStopped P e → IsOneUnlessStopped Q e
one_weaker P Q f (failures.Cause (refusals.Due r)) h = f r h
one_weaker P Q f (failures.Cause (refusals.Failed n)) h = tt
one_weaker P Q f failures.Memory h = tt

-- a part that was read so
one_given : {X Y : Type 0} (view : X → Y) (d : Result Y Refusal) (P : DueRefusal → Type 0) → ((r : DueRefusal) → d ≡ Err (failures.Cause (refusals.Due r)) → P r) → (e : Refusal)
    → GivesBy view (Err e) d → IsOneUnlessStopped P e
one_given view d P f (failures.Cause (refusals.Due r)) h = f r h
one_given view d P f (failures.Cause (refusals.Failed n)) h = tt
one_given view d P f failures.Memory h = tt

module _ (project text : List ℕ) (due_settings : Held → Result Settings Refusal) (IsReadBeside : Held → List ℕ → Type 0) where
  abbrev pub MayRefuse : Refusal → Option Held → Type 0
  MayRefuse e held = IfSome held (λ m. IsOneUnlessStopped (λ r. IsUnset project text due_settings m r) e)

  pub unbuilt_told : (e : Refusal) (held : Option Held) → IfSome held (λ m. TextBuilt project text m (Err e)) → MayRefuse e held
  unbuilt_told e None h = tt
  unbuilt_told e (Some m) h = one_weaker (λ r. (e' : BuildErr) × IsUnbuilt m text e' × (unbuilt project e' ≡ failures.Cause (refusals.Due r))) (λ r. IsUnset project text due_settings m r) (λ r x. not_built x.0 x.1 x.2) e h

  pub unset_told : (e : Refusal) (b : Built) (h1 h2 : Option Held) → h2 ≡ h1 → IfSome h1 (λ m. IsBuilt m text b)
      → IfSome h2 (λ m. GivesBy settings_of (Err e) (due_settings m)) → MayRefuse e h1
  unset_told e b None h2 same built h = tt
  unset_told e b (Some m) h2 same built h =
      one_given settings_of (due_settings m) (λ r. IsUnset project text due_settings m r) (λ r x. not_set b built x) e (subst (λ o. IfSome o (λ k. GivesBy settings_of (Err e) (due_settings k))) same h)

  -- a call that failed was at a file of the build, or at one of the run
  abbrev pub MayFail : Refusal → Option Held → Type 0
  MayFail e held = IfSome held (λ m. FailsIn (IsReadSet IsReadBeside m text) e)

  pub unbuilt_reached : (e : Refusal) (held : Option Held) → IfSome held (λ m. FailsIn (IsReadToBuild m text) e) → MayFail e held
  unbuilt_reached e None h = tt
  unbuilt_reached e (Some m) h = fails_wider _ _ e (λ n r. reads_build r) h

  pub unset_reached : (e : Refusal) (b : Built) (h1 h2 : Option Held) → h2 ≡ h1 → IfSome h1 (λ m. IsBuilt m text b) → IfSome h2 (λ m. FailsIn (IsReadBeside m) e) → MayFail e h1
  unset_reached e b None h2 same built h = tt
  unset_reached e b (Some m) h2 same built h =
      fails_wider _ _ e (λ n r. reads_set b built r) (subst (λ o. IfSome o (λ k. FailsIn (IsReadBeside k) e)) same h)

  pub memory_told : (held : Option Held) → MayRefuse failures.Memory held × MayFail failures.Memory held
  memory_told None = (tt, tt)
  memory_told (Some m) = (tt, tt)
