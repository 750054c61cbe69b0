-- From what `checked` gives to the clauses that callers read.
use Rattle.std.proofs.Common.{◌≡◌, List, Result, Ok, Err, IfOk, subst}
use Rattle.c_tree.specs.Tree.{ItemT}
use Rattle.kit_base.specs.declared.failure.Failure.{Failure}
use Rattle.kit_base.specs.declared.failure.Failure.TheVariants.{Cause}
use Rattle.c_exprs.specs.declared.error.Fault.{Fault}
use Rattle.kit_base.specs.Gives.{Gives}
use Rattle.c_check.specs.Whole.{WellTyped, FirstBroken, checked}
use Rattle.c_types.specs.Programs.{ProgramT}
use Rattle.c_check.proofs.WholeExact.{checked_typed, checked_broken}

pub typed : {X : Type 0} (seen : X → ProgramT) (all : List ItemT) (r : Result X (Failure Fault)) → Gives seen r (checked all) → IfOk r (λ x. WellTyped all (seen x))
typed seen all (Ok x) g = checked_typed all (seen x) g
typed seen all (Err e) g = tt

pub broken : {X : Type 0} (seen : X → ProgramT) (all : List ItemT) (r : Result X (Failure Fault)) (fault : Fault) → Gives seen r (checked all) → r ≡ Err (Cause fault) → FirstBroken all fault
broken {X = X} seen all r fault g is = let P : Result X (Failure Fault) → Type 0 = λ q. Gives seen q (checked all) in checked_broken all fault (subst P is g)
