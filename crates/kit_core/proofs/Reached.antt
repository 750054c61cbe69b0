-- At which file the call failed that a build or a check hands on.
use Rattle.std.proofs.Common.{ℕ, ◌≡◌, List, sym, subst}
use Rattle.std.specs.Prelude.{Option, Some, None, Err, IfSome}
use Rattle.kit_base.specs.Held.{Held}
use Rattle.build_core.specs.declared.error.BuildErr.{BuildErr}
use Rattle.build_core.specs.declared.error.BuildErr.TheVariants as errors
use Rattle.build_core.specs.Reached.{FailsAt}
use Rattle.kit_tools.specs.Refusal.{Refusal}
use Rattle.kit_tools.specs.Carrying.{FailsIn}
use Rattle.kit_core.specs.Due.{unbuilt}

-- at an error it is no matter of which result
abbrev FailsSo : (List ℕ → Type 0) → BuildErr → Type 0
FailsSo AreRead e = FailsAt {T = Unit {0}} AreRead (Err e)

reached_so : (AreRead : List ℕ → Type 0) (project : List ℕ) (e : BuildErr) → FailsSo AreRead e → FailsIn AreRead (unbuilt project e)
reached_so AreRead project (errors.Source c f l) h = tt
reached_so AreRead project (errors.Missing n) h = tt
reached_so AreRead project (errors.Failed n) h = h
reached_so AreRead project (errors.Bad c n None) h = tt
reached_so AreRead project (errors.Bad c n (Some l)) h = tt
reached_so AreRead project (errors.Limit n) h = tt
reached_so AreRead project errors.Memory h = tt

pub text_reached : (AreRead : Held → List ℕ → Type 0) (project : List ℕ) (held : Option Held) (e : BuildErr) (r : Refusal) → r ≡ unbuilt project e
    → IfSome held (λ m. FailsSo (AreRead m) e) → IfSome held (λ m. FailsIn (AreRead m) r)
text_reached AreRead project None e r is h = tt
text_reached AreRead project (Some m) e r is h = subst (FailsIn (AreRead m)) (sym is) (reached_so (AreRead m) project e h)
