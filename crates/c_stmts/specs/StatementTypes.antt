-- The typing of statements by rules.
use Rattle.std.specs.Prelude.{◌≡◌, ℕ, Bool, true, false, not, List, [], ◌∷◌, ◌++◌, length, Option, Some, None, Ok}
use Rattle.c_tree.specs.declared.span.Span.{Span}
use Rattle.c_tree.specs.Tree.{ExprT, TypeT, InitT, VarT, StmtT, BlockS, EmptyS, VarsS, DoS, IfS, WhileS, DoWhileS, ForS, SwitchS, ReturnS, BreakS}
use Rattle.c_tree.specs.Tree.{ContinueS, MaybeS, NoneS, SomeS, StmtTs, NoS, MoreS, ArmT, CaseA, DefaultA, StmtA, ArmTs, NoA, MoreA}
use Rattle.c_types.specs.Types.{Ty}
use Rattle.c_types.specs.Typed.{TExprT, TInitT, TVarT, TStmtT, BlockZ, EmptyZ, VarsZ, DoZ, IfZ, WhileZ, DoWhileZ, ForZ, SwitchZ, ReturnZ, BreakZ}
use Rattle.c_types.specs.Typed.{ContinueZ, MaybeZ, NoneZ, SomeZ, TStmtTs, NoZ, MoreZ, TArmT, CaseB, DefaultB, StmtB, TArmTs, NoB, MoreB}
use Rattle.c_rules.specs.declared.code.Code.TheVariants.{Twice, WrongType, NotConstant, BreakOutside}
use Rattle.c_rules.specs.Kinds.{is_number, converts}
use Rattle.c_exprs.specs.Env.{Text}
use Rattle.c_exprs.specs.Faults.{placed, known, demanded}
use Rattle.c_exprs.specs.Nodes.{type_of_typed, span_of, constant}
use Rattle.c_stmts.specs.State.{Fn, St, under, with_texts, opened, left, made, is_new, entered, locals_limit, object_size, sized, filled_var}
use Rattle.c_stmts.specs.State.{is_condition_of, is_test, Labels, no_labels, is_case, with_label}
use Rattle.c_exprs.specs.Types.{Values, Names}
use Rattle.c_stmts.specs.InitTypes.{Fills}

-- Statement f sp breaks continues a x sq: in the function f, from the state sp, the statement a has the typed tree x, and leaves the state sq.
-- the value of an expression
pub data ValueIn (f : Fn) : St → ExprT → TExprT → St → Type 0 where
  value_in : {sp : St} {e : ExprT} {x : TExprT} {us : List Text} → Values (under f sp.scopes) sp.texts e x us → ValueIn f sp e x (with_texts sp us)

-- the type that a type tree names, at a node of this span
pub data TypeIn (f : Fn) : St → Span → TypeT → Ty → St → Type 0 where
  type_in : {sp : St} {s : Span} {of : TypeT} {ty : Ty} {us : List Text} → Names (under f sp.scopes) sp.texts s of ty us
      → TypeIn f sp s of ty (with_texts sp us)

-- an initialiser of a variable
pub data FillsIn (f : Fn) : St → Ty → InitT → TInitT → St → Type 0 where
  fill_in : {sp : St} {target : Ty} {i : InitT} {x : TInitT} {us : List Text} → Fills (under f sp.scopes) sp.texts false (Some target) i x us
      → FillsIn f sp target i x (with_texts sp us)

-- an initialiser that may be missing
pub data MaybeFills (f : Fn) : St → Ty → Option InitT → Option TInitT → St → Type 0 where
  no_init : {sp : St} {target : Ty} → MaybeFills f sp target None None sp
  init : {sp sq : St} {target : Ty} {i : InitT} {x : TInitT} → FillsIn f sp target i x sq → MaybeFills f sp target (Some i) (Some x) sq

-- A variable: its type, its name, its initialiser, then the rules of the variable. The name holds in the initialiser.
pub data Declares (f : Fn) : St → VarT → List TVarT → St → Type 0 where
  variable : {sp sq sr : St} {v : VarT} {t : Ty} {i : Option TInitT} {n : ℕ} → TypeIn f sp v.span v.ty t sq
      → MaybeFills f (entered v.name t sq) t v.init i sr →
      placed v.span (object_size f.layouts f.whole locals_limit sp.used (is_new v.name sp) t) ≡ Ok n
      → Declares f sp v (filled_var false (length sp.sizes) t i) (sized n sr)

pub data AllDeclare (f : Fn) : St → List VarT → List TVarT → St → Type 0 where
  no_variables : {sp : St} → AllDeclare f sp [] [] sp
  more_variables : {sp sq sr : St} {v : VarT} {vs : List VarT} {x xs : List TVarT} → Declares f sp v x sq → AllDeclare f sq vs xs sr
      → AllDeclare f sp (v ∷ vs) (x ++ xs) sr

-- a value that may be missing
pub data MaybeValue (f : Fn) : St → Option ExprT → Option TExprT → St → Type 0 where
  no_value : {sp : St} → MaybeValue f sp None None sp
  some_value : {sp sq : St} {e : ExprT} {x : TExprT} → ValueIn f sp e x sq → MaybeValue f sp (Some e) (Some x) sq

mutual
  -- A statement. Whether `break` and `continue` may stand there comes in; the rule of a condition comes behind all parts.
  pub data Statement (f : Fn) : St → Bool → Bool → StmtT → TStmtT → St → Type 0 where
    block : {sp sq : St} {breaks : Bool} {continues : Bool} {body : StmtTs} {s : Span} {xs : TStmtTs}
        → Statements f (opened sp) breaks continues body xs sq → Statement f sp breaks continues (BlockS body s) (BlockZ (made sq) xs) (left sq)
    empty : {sp : St} {breaks : Bool} {continues : Bool} {s : Span} → Statement f sp breaks continues (EmptyS s) EmptyZ sp
    variables : {sp sq : St} {breaks : Bool} {continues : Bool} {vs : List VarT} {s : Span} {xs : List TVarT} → AllDeclare f sp vs xs sq
        → Statement f sp breaks continues (VarsS vs s) (VarsZ xs) sq
    expression : {sp sq : St} {breaks : Bool} {continues : Bool} {e : ExprT} {x : TExprT} → ValueIn f sp e x sq
        → Statement f sp breaks continues (DoS e) (DoZ x) sq
    if_else : {sp sq sr ss : St} {breaks : Bool} {continues : Bool} {e : ExprT} {a : StmtT} {b : MaybeS} {s : Span} {x : TExprT} {y : TStmtT}
        {z : MaybeZ} → ValueIn f sp e x sq → Statement f sq breaks continues a y sr → MaybeStatement f sr breaks continues b z ss
        → demanded s WrongType (is_condition_of x) ≡ Ok tt →
        Statement f sp breaks continues (IfS e a b s) (IfZ x y z) ss
    while : {sp sq sr : St} {breaks : Bool} {continues : Bool} {e : ExprT} {a : StmtT} {s : Span} {x : TExprT} {y : TStmtT} → ValueIn f sp e x sq
        → Statement f sq true true a y sr → demanded s WrongType (is_condition_of x) ≡ Ok tt → Statement f sp breaks continues (WhileS e a s) (WhileZ x y) sr
    do_while : {sp sq sr : St} {breaks : Bool} {continues : Bool} {a : StmtT} {e : ExprT} {s : Span} {y : TStmtT} {x : TExprT}
        → Statement f sp true true a y sq → ValueIn f sq e x sr → demanded s WrongType (is_condition_of x) ≡ Ok tt
        → Statement f sp breaks continues (DoWhileS a e s) (DoWhileZ y x) sr
    for : {sp sq sr ss su : St} {breaks : Bool} {continues : Bool} {first : MaybeS} {test step : Option ExprT} {a : StmtT} {s : Span} {x : MaybeZ}
        {y z : Option TExprT} {w : TStmtT} → MaybeStatement f (opened sp) breaks continues first x sq → MaybeValue f sq test y sr
        → MaybeValue f sr step z ss → Statement f ss true true a w su →
        demanded s WrongType (is_test y) ≡ Ok tt → Statement f sp breaks continues (ForS first test step a s) (ForZ (made su) x y z w) (left su)
    switch : {sp sq sr : St} {breaks : Bool} {continues : Bool} {e : ExprT} {all : ArmTs} {s : Span} {x : TExprT} {xs : TArmTs} → ValueIn f sp e x sq
        → ArmsOf f (opened sq) true continues no_labels all xs sr → demanded s WrongType (is_number (type_of_typed x)) ≡ Ok tt →
        Statement f sp breaks continues (SwitchS e all s) (SwitchZ x (made sr) xs) (left sr)
    return_nothing : {sp : St} {breaks : Bool} {continues : Bool} {s : Span} → Statement f sp breaks continues (ReturnS None s) (ReturnZ None) sp
    return_value : {sp sq : St} {breaks : Bool} {continues : Bool} {e : ExprT} {s : Span} {x : TExprT} → ValueIn f sp e x sq
        → demanded s WrongType (converts (type_of_typed x) f.gives) ≡ Ok tt → Statement f sp breaks continues (ReturnS (Some e) s) (ReturnZ (Some x)) sq
    break : {sp : St} {breaks : Bool} {continues : Bool} {s : Span} → demanded s BreakOutside breaks ≡ Ok tt
        → Statement f sp breaks continues (BreakS s) BreakZ sp
    continue : {sp : St} {breaks : Bool} {continues : Bool} {s : Span} → demanded s BreakOutside continues ≡ Ok tt
        → Statement f sp breaks continues (ContinueS s) ContinueZ sp

  pub data MaybeStatement (f : Fn) : St → Bool → Bool → MaybeS → MaybeZ → St → Type 0 where
    nothing : {sp : St} {breaks : Bool} {continues : Bool} → MaybeStatement f sp breaks continues NoneS NoneZ sp
    something : {sp sq : St} {breaks : Bool} {continues : Bool} {a : StmtT} {x : TStmtT} → Statement f sp breaks continues a x sq
        → MaybeStatement f sp breaks continues (SomeS a) (SomeZ x) sq

  pub data Statements (f : Fn) : St → Bool → Bool → StmtTs → TStmtTs → St → Type 0 where
    no_statements : {sp : St} {breaks : Bool} {continues : Bool} → Statements f sp breaks continues NoS NoZ sp
    more_statements : {sp sq sr : St} {breaks : Bool} {continues : Bool} {a : StmtT} {rest : StmtTs} {x : TStmtT} {xs : TStmtTs}
        → Statement f sp breaks continues a x sq → Statements f sq breaks continues rest xs sr
        → Statements f sp breaks continues (MoreS a rest) (MoreZ x xs) sr

  -- an arm of a switch, after these labels
  pub data ArmOf (f : Fn) : St → Bool → Bool → Labels → ArmT → TArmT → St → Type 0 where
    case : {sp sq : St} {breaks : Bool} {continues : Bool} {seen : Labels} {e : ExprT} {s : Span} {x : TExprT} {k : ℕ} → ValueIn f sp e x sq
        → known (span_of e) NotConstant (constant x) ≡ Ok k → demanded s Twice (not (is_case k seen)) ≡ Ok tt
        → ArmOf f sp breaks continues seen (CaseA e s) (CaseB k) sq
    default : {sp : St} {breaks : Bool} {continues : Bool} {seen : Labels} {s : Span} → demanded s Twice (not seen.has_default) ≡ Ok tt
        → ArmOf f sp breaks continues seen (DefaultA s) DefaultB sp
    arm_statement : {sp sq : St} {breaks : Bool} {continues : Bool} {seen : Labels} {a : StmtT} {x : TStmtT} → Statement f sp breaks continues a x sq
        → ArmOf f sp breaks continues seen (StmtA a) (StmtB x) sq

  pub data ArmsOf (f : Fn) : St → Bool → Bool → Labels → ArmTs → TArmTs → St → Type 0 where
    no_arms : {sp : St} {breaks : Bool} {continues : Bool} {seen : Labels} → ArmsOf f sp breaks continues seen NoA NoB sp
    more_arms : {sp sq sr : St} {breaks : Bool} {continues : Bool} {seen : Labels} {a : ArmT} {rest : ArmTs} {x : TArmT} {xs : TArmTs}
        → ArmOf f sp breaks continues seen a x sq → ArmsOf f sq breaks continues (with_label seen x) rest xs sr
        → ArmsOf f sp breaks continues seen (MoreA a rest) (MoreB x xs) sr
