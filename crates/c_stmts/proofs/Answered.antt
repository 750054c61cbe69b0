-- From what a function gives to the clauses that callers read.
use Rattle.std.proofs.Common.{◌≡◌, Bool, List, Option, Result, Ok, Err, IfOk, OnOk, sym, subst}
use Rattle.c_tree.specs.Tree.{InitT, StmtTs}
use Rattle.c_types.specs.Types.{Ty}
use Rattle.c_types.specs.Typed.{TInitT, TStmtTs}
use Rattle.kit_base.specs.declared.failure.Failure.{Failure}
use Rattle.kit_base.specs.declared.failure.Failure.TheVariants.{Cause}
use Rattle.c_exprs.specs.Env.{Text, Ctx}
use Rattle.c_exprs.specs.declared.error.Fault.{Fault}
use Rattle.kit_base.specs.Gives.{Gives}
use Rattle.c_stmts.specs.State.{Fn, St}
use Rattle.c_stmts.specs.InitTyping.{filled_by}
use Rattle.c_stmts.specs.InitTypes.{Fills}
use Rattle.c_stmts.specs.InitBreaks.{NoFill}
use Rattle.c_stmts.specs.StatementTyping.{statements}
use Rattle.c_stmts.specs.StatementTypes.{Statements}
use Rattle.c_stmts.specs.StatementBreaks.{NotStatements}
use Rattle.c_stmts.proofs.InitExact.{FillOut, fill_outcome}
use Rattle.c_stmts.proofs.StatementExact.{StatementsOut, statements_outcome}

pub fill_types : {X : Type 0} (seen : X → TInitT × List Text) (c : Ctx) (ts : List Text) (global : Bool) (target : Option Ty) (i : InitT) (r : Result X (Failure Fault)) → Gives seen r (filled_by c ts global target i) → IfOk r (λ x. Fills c ts global target i (seen x).0 (seen x).1)
fill_types seen c ts global target i (Ok x) g = subst (FillOut c ts global target i) g (fill_outcome c ts global target i)
fill_types seen c ts global target i (Err f) g = tt

pub fill_breaks : {X : Type 0} (seen : X → TInitT × List Text) (c : Ctx) (ts : List Text) (global : Bool) (target : Option Ty) (i : InitT) (r : Result X (Failure Fault)) (fault : Fault) → Gives seen r (filled_by c ts global target i) → r ≡ Err (Cause fault) → NoFill c ts global target i fault
fill_breaks {X = X} seen c ts global target i r fault g is = let P : Result X (Failure Fault) → Type 0 = λ r. Gives seen r (filled_by c ts global target i) in subst (FillOut c ts global target i) (subst P is g) (fill_outcome c ts global target i)

pub statements_type : {X : Type 0} (seen : X → TStmtTs × St) (f : Fn) (sp : St) (breaks continues : Bool) (all : StmtTs) (r : Result X (Failure Fault)) → Gives seen r (statements f sp breaks continues all) → IfOk r (λ x. Statements f sp breaks continues all (seen x).0 (seen x).1)
statements_type seen f sp breaks continues all (Ok x) g = subst (StatementsOut f sp breaks continues all) g (statements_outcome f sp breaks continues all)
statements_type seen f sp breaks continues all (Err e) g = tt

pub statements_break : {X : Type 0} (seen : X → TStmtTs × St) (f : Fn) (sp : St) (breaks continues : Bool) (all : StmtTs) (r : Result X (Failure Fault)) (fault : Fault) → Gives seen r (statements f sp breaks continues all) → r ≡ Err (Cause fault) → NotStatements f sp breaks continues all fault
statements_break {X = X} seen f sp breaks continues all r fault g is = let P : Result X (Failure Fault) → Type 0 = λ r. Gives seen r (statements f sp breaks continues all) in subst (StatementsOut f sp breaks continues all) (subst P is g) (statements_outcome f sp breaks continues all)

-- what stands behind an answer is told of the state that is kept
pub kept : {X Y Z : Type 0} (seen : X → Y) (due : Result (Y × Z) Fault) (p r : Result X (Failure Fault)) (us vs : Z) → Gives (λ x. (seen x, us)) p due → r ≡ p → OnOk r (vs ≡ us) → Gives (λ x. (seen x, vs)) r due
kept seen due p (Ok x) us vs g same is = subst (λ z. due ≡ Ok (seen x, z)) (sym is) (subst (λ q. Gives (λ x. (seen x, us)) q due) (sym same) g)
kept seen due p (Err e) us vs g same is = subst (λ q. Gives (λ x. (seen x, us)) q due) (sym same) g
