-- What the build of a project's text gives.
use Rattle.std.proofs.Common.{ℕ, ◌≡◌, List, refl, sym, subst}
use Rattle.std.specs.Prelude.{Option, Some, None, Ok, Err, IfSome}
use Rattle.kit_base.specs.Held.{Held}
use Rattle.build_core.specs.declared.error.BuildErr.{BuildErr}
use Rattle.build_core.specs.declared.error.BuildErr.TheVariants as errors
use Rattle.build_core.specs.declared.building.Built.{Built}
use Rattle.build_core.specs.Build.{Builds, IsBuilt}
use Rattle.kit_tools.specs.Refusal.{Refusal}
use Rattle.kit_core.specs.Due.{built_work, text_build_due, unbuilt}
use Rattle.kit_core.specs.inner.Checking.{TextBuilt}

module _ (project text : List ℕ) where
  refused_so : (m : Held) (e : BuildErr) → Builds m text (Err e) → TextBuilt project text m (Err (unbuilt project e))
  refused_so m (errors.Source c f l) h = (errors.Source c f l, h, refl)
  refused_so m (errors.Missing n) h = (errors.Missing n, h, refl)
  refused_so m (errors.Failed n) h = tt
  refused_so m (errors.Bad c n None) h = (errors.Bad c n None, h, refl)
  refused_so m (errors.Bad c n (Some l)) h = (errors.Bad c n (Some l), h, refl)
  refused_so m (errors.Limit n) h = (errors.Limit n, h, refl)
  refused_so m errors.Memory h = tt

  pub text_refused : (held : Option Held) (e : BuildErr) (r : Refusal) → r ≡ unbuilt project e → IfSome held (λ m. Builds m text (Err e)) → IfSome held (λ m. TextBuilt project text m (Err r))
  text_refused None e r is h = tt
  text_refused (Some m) e r is h = subst (λ x. TextBuilt project text m (Err x)) (sym is) (refused_so m e h)

  pub built_due : (cart map_name : List ℕ) (b : Built) (held : Option Held) → IfSome held (λ m. IsBuilt m text b) → IfSome held (λ m. text_build_due project text cart map_name m (Ok (built_work cart map_name b)))
  built_due cart map_name b None h = tt
  built_due cart map_name b (Some m) h = (b, h, refl)
