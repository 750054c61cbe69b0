-- The answer of a rule, at a node.
use Rattle.std.proofs.Common.{◌≡◌, Result, Ok, Err, sym, ap, subst}
use Rattle.c_tree.specs.declared.span.Span.{Span}
use Rattle.c_rules.specs.declared.code.Code.{Code}
use Rattle.c_rules.specs.Rules.{Rule, judged}
use Rattle.kit_base.specs.declared.failure.Failure.{Failure}
use Rattle.kit_base.specs.declared.failure.Failure.TheVariants as failures
use Rattle.c_exprs.specs.Faults.{placed, at_node}
use Rattle.kit_base.specs.Gives.{Gives}
use Rattle.c_exprs.specs.declared.error.Fault.{Fault}
use Rattle.c_exprs.specs.Gives.{taken}

taken_gives : {X Y : Type 0} (seen : X → Y) (s : Span) (answer : Result X (Failure Code)) (due : Result Y Code) → Gives seen answer due → Gives seen (taken s answer) (placed s due)
taken_gives seen s (Ok x) due is = ap (placed s) is
taken_gives seen s (Err (failures.Cause k)) due is = ap (placed s) is
taken_gives seen s (Err failures.Memory) due is = tt

pub given_at : {X Y : Type 0} (seen : X → Y) (s : Span) (answer : Result X (Failure Code)) (r : Result X (Failure Fault)) (r' : Rule Y) → r ≡ taken s answer → Gives seen answer (judged r') → Gives seen r (at_node s r')
unfolding at_node
given_at {X = X} seen s answer r r' is gives = let P : Result X (Failure Fault) → Type 0 = λ q. Gives seen q (placed s (judged r')) in subst P (sym is) (taken_gives seen s answer (judged r') gives)
