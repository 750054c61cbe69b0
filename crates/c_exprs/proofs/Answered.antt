-- From what a function gives to the clauses that callers read.
use Rattle.std.proofs.Common.{◌≡◌, List, Result, Ok, Err, IfOk, OnOk, sym, subst}
use Rattle.kit_base.specs.declared.failure.Failure.{Failure}
use Rattle.kit_base.specs.declared.failure.Failure.TheVariants.{Cause}
use Rattle.c_exprs.specs.Env.{Text}
use Rattle.c_exprs.specs.declared.error.Fault.{Fault}
use Rattle.kit_base.specs.Gives.{Gives}
use Rattle.c_exprs.specs.Typing.{Typer}

-- what is answered is what is due, so it is by the rules
pub good : {X Y : Type 0} (seen : X → Y × List Text) (due : Typer Y) (P : Y → List Text → Type 0) → ((y : Y) (us : List Text) → due ≡ Ok (y, us) → P y us) → (r : Result X (Failure Fault)) → Gives seen r due → IfOk r (λ x. P (seen x).0 (seen x).1)
good seen due P so (Ok x) g = so (seen x).0 (seen x).1 g
good seen due P so (Err e) g = tt

-- a refusal is the fault that is due, so it is the first broken rule
pub bad : {X Y : Type 0} (seen : X → Y × List Text) (due : Typer Y) (Q : Fault → Type 0) → ((f : Fault) → due ≡ Err f → Q f) → (r : Result X (Failure Fault)) (f : Fault) → Gives seen r due → r ≡ Err (Cause f) → Q f
bad {X = X} seen due Q so r f g is = let P : Result X (Failure Fault) → Type 0 = λ q. Gives seen q due in so f (subst P is g)

-- what stands behind an answer is told of the texts that are kept
pub kept : {X Y : Type 0} (seen : X → Y) (due : Typer Y) (p r : Result X (Failure Fault)) (us vs : List Text) → Gives (λ x. (seen x, us)) p due → r ≡ p → OnOk r (vs ≡ us) → Gives (λ x. (seen x, vs)) r due
kept seen due p (Ok x) us vs g same is = subst (λ ts. due ≡ Ok (seen x, ts)) (sym is) (subst (λ q. Gives (λ x. (seen x, us)) q due) (sym same) g)
kept seen due p (Err e) us vs g same is = subst (λ q. Gives (λ x. (seen x, us)) q due) (sym same) g
