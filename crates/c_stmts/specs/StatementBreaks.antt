-- The rule that a statement breaks first, in the order of reading.
use Rattle.std.specs.Prelude.{◌≡◌, ℕ, Bool, true, false, not, List, ◌∷◌, Option, Some, Ok, Err}
use Rattle.c_tree.specs.declared.span.Span.{Span}
use Rattle.c_tree.specs.Tree.{ExprT, TypeT, InitT, VarT, StmtT, BlockS, VarsS, DoS, IfS, WhileS, DoWhileS, ForS, SwitchS, ReturnS, BreakS, ContinueS}
use Rattle.c_tree.specs.Tree.{MaybeS, SomeS, StmtTs, MoreS, ArmT, CaseA, DefaultA, StmtA, ArmTs, MoreA}
use Rattle.c_types.specs.Types.{Ty}
use Rattle.c_types.specs.Typed.{TExprT, TInitT, TVarT, TStmtT, MaybeZ, TArmT, TArmTs}
use Rattle.c_rules.specs.declared.code.Code.TheVariants.{Twice, WrongType, NotConstant, BreakOutside}
use Rattle.c_rules.specs.Kinds.{is_number, converts}
use Rattle.c_exprs.specs.declared.error.Fault.{Fault}
use Rattle.c_exprs.specs.Faults.{placed, known, demanded}
use Rattle.c_exprs.specs.Nodes.{type_of_typed, span_of, constant}
use Rattle.c_stmts.specs.State.{Fn, St, under, opened, is_new, entered, locals_limit, object_size, is_condition_of, is_test, Labels, no_labels}
use Rattle.c_stmts.specs.State.{is_case, with_label}
use Rattle.c_exprs.specs.Breaks.{NoValue, NoName}
use Rattle.c_stmts.specs.InitBreaks.{NoFill}
use Rattle.c_stmts.specs.StatementTypes.{ValueIn, TypeIn, MaybeFills, Declares, MaybeValue, Statement, MaybeStatement, ArmOf, ArmsOf}

-- the value of an expression
pub data NoValueIn (f : Fn) : St → ExprT → Fault → Type 0 where
  value_in : {sp : St} {e : ExprT} {fault : Fault} → NoValue (under f sp.scopes) sp.texts e fault → NoValueIn f sp e fault

-- the type that a type tree names, at a node of this span
pub data NoTypeIn (f : Fn) : St → Span → TypeT → Fault → Type 0 where
  type_in : {sp : St} {s : Span} {of : TypeT} {fault : Fault} → NoName (under f sp.scopes) sp.texts s of fault → NoTypeIn f sp s of fault

-- an initialiser of a variable
pub data NoFillIn (f : Fn) : St → Ty → InitT → Fault → Type 0 where
  fill_in : {sp : St} {target : Ty} {i : InitT} {fault : Fault} → NoFill (under f sp.scopes) sp.texts false (Some target) i fault
      → NoFillIn f sp target i fault

-- an initialiser that may be missing
pub data NotFilled (f : Fn) : St → Ty → Option InitT → Fault → Type 0 where
  init : {sp : St} {target : Ty} {i : InitT} {fault : Fault} → NoFillIn f sp target i fault → NotFilled f sp target (Some i) fault

-- A variable: its type, its name, its initialiser, then the rules of the variable. The name holds in the initialiser.
pub data Undeclared (f : Fn) : St → VarT → Fault → Type 0 where
  variable_type : {sp : St} {v : VarT} {fault : Fault} → NoTypeIn f sp v.span v.ty fault → Undeclared f sp v fault
  variable_init : {sp sq : St} {v : VarT} {t : Ty} {fault : Fault} → TypeIn f sp v.span v.ty t sq → NotFilled f (entered v.name t sq) t v.init fault
      → Undeclared f sp v fault
  variable : {sp sq sr : St} {v : VarT} {t : Ty} {i : Option TInitT} {fault : Fault} → TypeIn f sp v.span v.ty t sq
      → MaybeFills f (entered v.name t sq) t v.init i sr →
      placed v.span (object_size f.layouts f.whole locals_limit sp.used (is_new v.name sp) t) ≡ Err fault → Undeclared f sp v fault

pub data NotAllDeclare (f : Fn) : St → List VarT → Fault → Type 0 where
  variable_here : {sp : St} {v : VarT} {vs : List VarT} {fault : Fault} → Undeclared f sp v fault → NotAllDeclare f sp (v ∷ vs) fault
  variable_later : {sp sq : St} {v : VarT} {vs : List VarT} {x : List TVarT} {fault : Fault} → Declares f sp v x sq → NotAllDeclare f sq vs fault
      → NotAllDeclare f sp (v ∷ vs) fault

-- a value that may be missing
pub data NoMaybeValue (f : Fn) : St → Option ExprT → Fault → Type 0 where
  some_value : {sp : St} {e : ExprT} {fault : Fault} → NoValueIn f sp e fault → NoMaybeValue f sp (Some e) fault

mutual
  -- A statement. Whether `break` and `continue` may stand there comes in; the rule of a condition comes behind all parts.
  pub data NoStatement (f : Fn) : St → Bool → Bool → StmtT → Fault → Type 0 where
    block : {sp : St} {breaks : Bool} {continues : Bool} {body : StmtTs} {s : Span} {fault : Fault}
        → NotStatements f (opened sp) breaks continues body fault → NoStatement f sp breaks continues (BlockS body s) fault
    variables : {sp : St} {breaks : Bool} {continues : Bool} {vs : List VarT} {s : Span} {fault : Fault} → NotAllDeclare f sp vs fault
        → NoStatement f sp breaks continues (VarsS vs s) fault
    expression : {sp : St} {breaks : Bool} {continues : Bool} {e : ExprT} {fault : Fault} → NoValueIn f sp e fault
        → NoStatement f sp breaks continues (DoS e) fault
    if_test : {sp : St} {breaks : Bool} {continues : Bool} {e : ExprT} {a : StmtT} {b : MaybeS} {s : Span} {fault : Fault} → NoValueIn f sp e fault
        → NoStatement f sp breaks continues (IfS e a b s) fault
    if_then : {sp sq : St} {breaks : Bool} {continues : Bool} {e : ExprT} {a : StmtT} {b : MaybeS} {s : Span} {x : TExprT} {fault : Fault}
        → ValueIn f sp e x sq → NoStatement f sq breaks continues a fault → NoStatement f sp breaks continues (IfS e a b s) fault
    if_other : {sp sq sr : St} {breaks : Bool} {continues : Bool} {e : ExprT} {a : StmtT} {b : MaybeS} {s : Span} {x : TExprT} {y : TStmtT}
        {fault : Fault} → ValueIn f sp e x sq → Statement f sq breaks continues a y sr → NoMaybeStatement f sr breaks continues b fault
        → NoStatement f sp breaks continues (IfS e a b s) fault
    if_else : {sp sq sr ss : St} {breaks : Bool} {continues : Bool} {e : ExprT} {a : StmtT} {b : MaybeS} {s : Span} {x : TExprT} {y : TStmtT}
        {z : MaybeZ} {fault : Fault} → ValueIn f sp e x sq → Statement f sq breaks continues a y sr → MaybeStatement f sr breaks continues b z ss
        → demanded s WrongType (is_condition_of x) ≡ Err fault →
        NoStatement f sp breaks continues (IfS e a b s) fault
    while_test : {sp : St} {breaks : Bool} {continues : Bool} {e : ExprT} {a : StmtT} {s : Span} {fault : Fault} → NoValueIn f sp e fault
        → NoStatement f sp breaks continues (WhileS e a s) fault
    while_body : {sp sq : St} {breaks : Bool} {continues : Bool} {e : ExprT} {a : StmtT} {s : Span} {x : TExprT} {fault : Fault}
        → ValueIn f sp e x sq → NoStatement f sq true true a fault → NoStatement f sp breaks continues (WhileS e a s) fault
    while : {sp sq sr : St} {breaks : Bool} {continues : Bool} {e : ExprT} {a : StmtT} {s : Span} {x : TExprT} {y : TStmtT} {fault : Fault}
        → ValueIn f sp e x sq → Statement f sq true true a y sr → demanded s WrongType (is_condition_of x) ≡ Err fault
        → NoStatement f sp breaks continues (WhileS e a s) fault
    do_body : {sp : St} {breaks : Bool} {continues : Bool} {a : StmtT} {e : ExprT} {s : Span} {fault : Fault} → NoStatement f sp true true a fault
        → NoStatement f sp breaks continues (DoWhileS a e s) fault
    do_test : {sp sq : St} {breaks : Bool} {continues : Bool} {a : StmtT} {e : ExprT} {s : Span} {y : TStmtT} {fault : Fault}
        → Statement f sp true true a y sq → NoValueIn f sq e fault → NoStatement f sp breaks continues (DoWhileS a e s) fault
    do_while : {sp sq sr : St} {breaks : Bool} {continues : Bool} {a : StmtT} {e : ExprT} {s : Span} {y : TStmtT} {x : TExprT} {fault : Fault}
        → Statement f sp true true a y sq → ValueIn f sq e x sr → demanded s WrongType (is_condition_of x) ≡ Err fault
        → NoStatement f sp breaks continues (DoWhileS a e s) fault
    for_first : {sp : St} {breaks : Bool} {continues : Bool} {first : MaybeS} {test step : Option ExprT} {a : StmtT} {s : Span} {fault : Fault}
        → NoMaybeStatement f (opened sp) breaks continues first fault → NoStatement f sp breaks continues (ForS first test step a s) fault
    for_test : {sp sq : St} {breaks : Bool} {continues : Bool} {first : MaybeS} {test step : Option ExprT} {a : StmtT} {s : Span} {x : MaybeZ}
        {fault : Fault} → MaybeStatement f (opened sp) breaks continues first x sq → NoMaybeValue f sq test fault
        → NoStatement f sp breaks continues (ForS first test step a s) fault
    for_step : {sp sq sr : St} {breaks : Bool} {continues : Bool} {first : MaybeS} {test step : Option ExprT} {a : StmtT} {s : Span} {x : MaybeZ}
        {y : Option TExprT} {fault : Fault} → MaybeStatement f (opened sp) breaks continues first x sq → MaybeValue f sq test y sr
        → NoMaybeValue f sr step fault → NoStatement f sp breaks continues (ForS first test step a s) fault
    for_body : {sp sq sr ss : St} {breaks : Bool} {continues : Bool} {first : MaybeS} {test step : Option ExprT} {a : StmtT} {s : Span} {x : MaybeZ}
        {y z : Option TExprT} {fault : Fault} → MaybeStatement f (opened sp) breaks continues first x sq → MaybeValue f sq test y sr
        → MaybeValue f sr step z ss → NoStatement f ss true true a fault →
        NoStatement f sp breaks continues (ForS first test step a s) fault
    for : {sp sq sr ss su : St} {breaks : Bool} {continues : Bool} {first : MaybeS} {test step : Option ExprT} {a : StmtT} {s : Span} {x : MaybeZ}
        {y z : Option TExprT} {w : TStmtT} {fault : Fault} → MaybeStatement f (opened sp) breaks continues first x sq → MaybeValue f sq test y sr
        → MaybeValue f sr step z ss → Statement f ss true true a w su →
        demanded s WrongType (is_test y) ≡ Err fault → NoStatement f sp breaks continues (ForS first test step a s) fault
    switch_value : {sp : St} {breaks : Bool} {continues : Bool} {e : ExprT} {all : ArmTs} {s : Span} {fault : Fault} → NoValueIn f sp e fault
        → NoStatement f sp breaks continues (SwitchS e all s) fault
    switch_arms : {sp sq : St} {breaks : Bool} {continues : Bool} {e : ExprT} {all : ArmTs} {s : Span} {x : TExprT} {fault : Fault}
        → ValueIn f sp e x sq → NoArms f (opened sq) true continues no_labels all fault → NoStatement f sp breaks continues (SwitchS e all s) fault
    switch : {sp sq sr : St} {breaks : Bool} {continues : Bool} {e : ExprT} {all : ArmTs} {s : Span} {x : TExprT} {xs : TArmTs} {fault : Fault}
        → ValueIn f sp e x sq → ArmsOf f (opened sq) true continues no_labels all xs sr → demanded s WrongType (is_number (type_of_typed x)) ≡ Err fault →
        NoStatement f sp breaks continues (SwitchS e all s) fault
    return_part : {sp : St} {breaks : Bool} {continues : Bool} {e : ExprT} {s : Span} {fault : Fault} → NoValueIn f sp e fault
        → NoStatement f sp breaks continues (ReturnS (Some e) s) fault
    return_value : {sp sq : St} {breaks : Bool} {continues : Bool} {e : ExprT} {s : Span} {x : TExprT} {fault : Fault} → ValueIn f sp e x sq
        → demanded s WrongType (converts (type_of_typed x) f.gives) ≡ Err fault → NoStatement f sp breaks continues (ReturnS (Some e) s) fault
    break : {sp : St} {breaks : Bool} {continues : Bool} {s : Span} {fault : Fault} → demanded s BreakOutside breaks ≡ Err fault
        → NoStatement f sp breaks continues (BreakS s) fault
    continue : {sp : St} {breaks : Bool} {continues : Bool} {s : Span} {fault : Fault} → demanded s BreakOutside continues ≡ Err fault
        → NoStatement f sp breaks continues (ContinueS s) fault

  pub data NoMaybeStatement (f : Fn) : St → Bool → Bool → MaybeS → Fault → Type 0 where
    something : {sp : St} {breaks : Bool} {continues : Bool} {a : StmtT} {fault : Fault} → NoStatement f sp breaks continues a fault
        → NoMaybeStatement f sp breaks continues (SomeS a) fault

  pub data NotStatements (f : Fn) : St → Bool → Bool → StmtTs → Fault → Type 0 where
    statement_here : {sp : St} {breaks : Bool} {continues : Bool} {a : StmtT} {rest : StmtTs} {fault : Fault}
        → NoStatement f sp breaks continues a fault → NotStatements f sp breaks continues (MoreS a rest) fault
    statement_later : {sp sq : St} {breaks : Bool} {continues : Bool} {a : StmtT} {rest : StmtTs} {x : TStmtT} {fault : Fault}
        → Statement f sp breaks continues a x sq → NotStatements f sq breaks continues rest fault → NotStatements f sp breaks continues (MoreS a rest) fault

  -- an arm of a switch, after these labels
  pub data NoArm (f : Fn) : St → Bool → Bool → Labels → ArmT → Fault → Type 0 where
    case_part : {sp : St} {breaks : Bool} {continues : Bool} {seen : Labels} {e : ExprT} {s : Span} {fault : Fault} → NoValueIn f sp e fault
        → NoArm f sp breaks continues seen (CaseA e s) fault
    case_constant : {sp sq : St} {breaks : Bool} {continues : Bool} {seen : Labels} {e : ExprT} {s : Span} {x : TExprT} {fault : Fault}
        → ValueIn f sp e x sq → known (span_of e) NotConstant (constant x) ≡ Err fault → NoArm f sp breaks continues seen (CaseA e s) fault
    case : {sp sq : St} {breaks : Bool} {continues : Bool} {seen : Labels} {e : ExprT} {s : Span} {x : TExprT} {k : ℕ} {fault : Fault}
        → ValueIn f sp e x sq → known (span_of e) NotConstant (constant x) ≡ Ok k → demanded s Twice (not (is_case k seen)) ≡ Err fault
        → NoArm f sp breaks continues seen (CaseA e s) fault
    default : {sp : St} {breaks : Bool} {continues : Bool} {seen : Labels} {s : Span} {fault : Fault}
        → demanded s Twice (not seen.has_default) ≡ Err fault → NoArm f sp breaks continues seen (DefaultA s) fault
    arm_statement : {sp : St} {breaks : Bool} {continues : Bool} {seen : Labels} {a : StmtT} {fault : Fault}
        → NoStatement f sp breaks continues a fault → NoArm f sp breaks continues seen (StmtA a) fault

  pub data NoArms (f : Fn) : St → Bool → Bool → Labels → ArmTs → Fault → Type 0 where
    arm_here : {sp : St} {breaks : Bool} {continues : Bool} {seen : Labels} {a : ArmT} {rest : ArmTs} {fault : Fault}
        → NoArm f sp breaks continues seen a fault → NoArms f sp breaks continues seen (MoreA a rest) fault
    arm_later : {sp sq : St} {breaks : Bool} {continues : Bool} {seen : Labels} {a : ArmT} {rest : ArmTs} {x : TArmT} {fault : Fault}
        → ArmOf f sp breaks continues seen a x sq → NoArms f sq breaks continues (with_label seen x) rest fault
        → NoArms f sp breaks continues seen (MoreA a rest) fault
