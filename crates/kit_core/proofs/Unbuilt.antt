-- Why a build or a check is refused, as the command tells it.
use Rattle.std.proofs.Common.{ℕ, ◌≡◌, List, sym, subst, inl, inr}
use Rattle.std.specs.Prelude.{Some, None, Err}
use Rattle.kit_base.specs.Counts.{Counts}
use Rattle.build_core.specs.declared.error.BuildErr.{BuildErr}
use Rattle.build_core.specs.declared.error.BuildErr.TheVariants as errors
use Rattle.build_core.specs.Causes as builds
use Rattle.kit_tools.specs.Refusal.{Refusal}
use Rattle.kit_tools.specs.Causes.{HasCause, HasCausesOr}
use Rattle.kit_core.specs.Due.{unbuilt}

module _ (T U : Type 0) (project : List ℕ) (Large : List ℕ → Type 0) (O : Type 0) (over : (n : List ℕ) → Large n → O) where
  cause_so : (e : BuildErr) (before after : Counts) → builds.Cause {T = T} Large (Err e) before after → HasCause O (unbuilt project e) before after
  cause_so (errors.Source c f l) b a h = h
  cause_so (errors.Missing n) b a h = h
  cause_so (errors.Failed n) b a h = h
  cause_so (errors.Bad c n None) b a h = tt
  cause_so (errors.Bad c n (Some l)) b a h = tt
  cause_so (errors.Limit n) b a (inl h) = inl h
  cause_so (errors.Limit n) b a (inr h) = inr (over n h)
  cause_so errors.Memory b a h = tt

  pub text_causes : (e : BuildErr) (r : Refusal) (before after : Counts) → r ≡ unbuilt project e
      → builds.HasCausesOr {T = T} Large (Err e) before after → HasCausesOr {T = U} O (Err r) before after
  text_causes e r before after is h = record {
    faults_later = h.faults_later;
    misses_later = h.misses_later;
    overs_later = h.overs_later;
    risen = subst (λ x. HasCause O x before after) (sym is) (cause_so e before after h.cause);
  }
