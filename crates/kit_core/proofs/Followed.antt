-- A checked source, and then what is built of it.
use Rattle.std.proofs.Common.{ℕ, ◌≡◌, List, subst}
use Rattle.std.specs.Prelude.{Option, Some, None, Ok, Err, IfSome}
use Rattle.kit_base.specs.Held.{Held}
use Rattle.build_core.specs.declared.building.Built.{Built}
use Rattle.build_core.specs.declared.checked.Checked.{Checked}
use Rattle.build_core.specs.declared.error.BuildErr.{BuildErr}
use Rattle.build_core.specs.BuiltFrom.{BuildsFrom, IsBuiltFrom}
use Rattle.build_core.specs.Fronts.{Fronts, IsFrontOf}
use Rattle.build_core.specs.Reached.{FailsAt}
use Rattle.build_core.proofs.Failing.{wider}
use Rattle.kit_core.specs.declared.following.Watchable.{Watchable}

pub built_from : (text : List ℕ) (c : Checked) (b : Built) (h0 h1 : Option Held) → IfSome h0 (λ m. Fronts m text (Ok c)) → h1 ≡ h0 → IfSome h1 (λ m. IsFrontOf m text c → BuildsFrom m text c (Ok b))
    → IfSome h0 (λ m. IsBuiltFrom m text c b)
built_from text c b None h1 front same h = tt
built_from text c b (Some m) h1 front same h = subst (λ x. IfSome x (λ m'. IsFrontOf m' text c → BuildsFrom m' text c (Ok b))) same h front

-- a refusal stays one, of whatever was to be made
pub watched_reached : (P : Held → List ℕ → Type 0) (held : Option Held) (e : BuildErr) → IfSome held (λ m. FailsAt {T = Built} (P m) (Err e)) → IfSome held (λ m. FailsAt {T = Watchable} (P m) (Err e))
watched_reached P None e h = tt
watched_reached P (Some m) e h = wider Built Watchable (P m) (P m) (λ name k. k) e h
