-- From the parts of a command to the whole.
use Rattle.std.proofs.Common.{ℕ, zero, suc, ◌≡◌, inl, inr, List, [], ◌∷◌, sym, ap, subst, arith}
use Rattle.std.specs.Prelude.{Option, Some, None, Result, Ok, Err, IfSome, Contains}
use Rattle.kit_base.specs.Held.{Held}
use Rattle.kit_base.specs.declared.failure.Failure.TheVariants as failures
use Rattle.kit_tools.specs.declared.refusal.DueRefusal.{DueRefusal}
use Rattle.kit_tools.specs.Refusal.{Refusal}
use Rattle.kit_tools.specs.declared.refusal.RefusalCause.TheVariants as refusals
use Rattle.kit_tools.specs.declared.shown.Shown.{Shown}
use Rattle.kit_tools.specs.Inputs.{◌>>=◌, or_refused}
use Rattle.kit_tools.specs.Work.{Work, as_due, ComesBy}
use Rattle.kit_tools.specs.Carrying.{FailsAt, FailsIn, GivesBy, IsCut, Leaves}

-- a writing part was cut short
pub cut : (e : Refusal) (work : Work) (Due : Result Work DueRefusal → Type 0) (Reads : List ℕ → Type 0) (m : Held) (after : Option Held)
    → Due (Ok work) → IsCut e work.effects (Some m) after → ComesBy e Due Reads m after
cut (failures.Cause (refusals.Due r)) work Due Reads m after d h = absurd h
cut (failures.Cause (refusals.Failed n)) work Due Reads m after d h = inr (work, d, h)
cut failures.Memory work Due Reads m after d h = inr (h.0, (work, d, h.1))

-- a call that failed was of one of more files
pub fails_wider : (A B : List ℕ → Type 0) (e : Refusal) → ((name : List ℕ) → A name → B name) → FailsIn A e → FailsIn B e
fails_wider A B (failures.Cause (refusals.Due r)) f h = tt
fails_wider A B (failures.Cause (refusals.Failed n)) f h = f n h
fails_wider A B failures.Memory f h = tt

the_only : (x n : List ℕ) → Contains (x ∷ []) n → n ≡ x
the_only x n (zero, within, is) = sym is
the_only x n (suc k, within, is) = absurd (omega (arith, within))

-- of the one file that was read
pub fails_only : (x : List ℕ) (B : List ℕ → Type 0) (e : Refusal) → ((name : List ℕ) → name ≡ x → B name) → FailsAt (x ∷ []) e → FailsIn B e
fails_only x B e f h = fails_wider _ _ e (λ n c. f n (the_only x n c)) h

pub refused_gave : {A E : Type 0} (f : E → Refusal) (r : Result A E) (x : A) → or_refused f r ≡ Ok x → r ≡ Ok x
refused_gave f (Ok y) x e = cc
refused_gave f (Err d) x e = cc

-- a reading part stopped a command, and nothing was changed
module _ {X A : Type 0} (view : X → A) (due : Held → Result A Refusal) (f : A → Result Work Refusal) (Reads : Held → List ℕ → Type 0) where
  stopped : (e : Refusal) (m : Held) (after : Option Held) → GivesBy {X = X} view (Err e) (due m) → FailsIn (Reads m) e → after ≡ Some m
      → ComesBy e (λ d. (due m >>= f) ≡ as_due d) (Reads m) m after
  stopped (failures.Cause (refusals.Due r)) m after gave fails same = (ap (λ d. d >>= f) gave, same)
  stopped (failures.Cause (refusals.Failed n)) m after gave fails same = inl (fails, same)
  stopped failures.Memory m after gave fails same = inl same

  pub stopped_if : (r : Result Shown Refusal) (e : Refusal) (held after : Option Held) → r ≡ Err e → IfSome held (λ m. GivesBy {X = X} view (Err e) (due m))
      → IfSome held (λ m. FailsIn (Reads m) e) → after ≡ held → IfSome held (λ m. Leaves r (due m >>= f) (Reads m) m after)
  stopped_if r e None after is gave fails same = tt
  stopped_if r e (Some m) after is gave fails same = subst (λ x. Leaves x (due m >>= f) (Reads m) m after) (sym is) (stopped e m after gave fails same)
