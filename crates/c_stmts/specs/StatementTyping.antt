-- The typing of statements: an equation for each form, the parts in the order of reading, then the rules of the node.
use Rattle.std.specs.Prelude.{Bool, true, false, not, List, [], ◌∷◌, ◌++◌, length, Option, Some, None, Result, Ok}
use Rattle.c_tree.specs.declared.span.Span.{Span}
use Rattle.c_tree.specs.Tree.{ExprT, TypeT, InitT, VarT, StmtT, BlockS, EmptyS, VarsS, DoS, IfS, WhileS, DoWhileS, ForS, SwitchS, ReturnS, BreakS}
use Rattle.c_tree.specs.Tree.{ContinueS, MaybeS, NoneS, SomeS, StmtTs, NoS, MoreS, ArmT, CaseA, DefaultA, StmtA, ArmTs, NoA, MoreA}
use Rattle.c_types.specs.Types.{Ty}
use Rattle.c_types.specs.Typed.{TExprT, TInitT, TVarT, TStmtT, BlockZ, EmptyZ, VarsZ, DoZ, IfZ, WhileZ, DoWhileZ, ForZ, SwitchZ, ReturnZ, BreakZ}
use Rattle.c_types.specs.Typed.{ContinueZ, MaybeZ, NoneZ, SomeZ, TStmtTs, NoZ, MoreZ, TArmT, CaseB, DefaultB, StmtB, TArmTs, NoB, MoreB}
use Rattle.c_rules.specs.declared.code.Code.TheVariants.{Twice, WrongType, NotConstant, BreakOutside}
use Rattle.c_rules.specs.Kinds.{is_number, converts}
use Rattle.c_exprs.specs.declared.error.Fault.{Fault}
use Rattle.c_exprs.specs.Faults.{◌>>=◌, placed, known, demanded}
use Rattle.c_exprs.specs.Nodes.{type_of_typed, span_of, constant}
use Rattle.c_stmts.specs.State.{Fn, St, under, with_texts, opened, left, made, is_new, entered, locals_limit, object_size, sized, filled_var}
use Rattle.c_stmts.specs.State.{is_condition_of, is_test, Labels, no_labels, is_case, with_label}
use Rattle.c_exprs.specs.Typing.{as_value, typed, type_of}
use Rattle.c_stmts.specs.InitTyping.{filled_by}

abbrev pub Does : Type 0 → Type 0
Does A = Result (A × St) Fault

-- the value of an expression in a statement
unfoldable pub value_in : Fn → St → ExprT → Does TExprT
value_in f sp e = do
  x ← as_value (under f sp.scopes) (span_of e) (typed (under f sp.scopes) sp.texts e)
  Ok (x.0, with_texts sp x.1)

-- the type that a type tree names, at a node of this span
unfoldable pub type_in : Fn → St → Span → TypeT → Does Ty
type_in f sp s of = do
  x ← type_of (under f sp.scopes) sp.texts s of
  Ok (x.0, with_texts sp x.1)

-- the initialiser of a variable of this type
unfoldable pub fill_in : Fn → St → Ty → InitT → Does TInitT
fill_in f sp target i = do
  x ← filled_by (under f sp.scopes) sp.texts false (Some target) i
  Ok (x.0, with_texts sp x.1)

-- an initialiser that may be missing
unfoldable pub maybe_filled : Fn → St → Ty → Option InitT → Does (Option TInitT)
maybe_filled f sp target None = Ok (None, sp)
maybe_filled f sp target (Some i) = do
  x ← fill_in f sp target i
  Ok (Some x.0, x.1)

-- A variable: its type, its name, its initialiser, then the rules of the variable. The name holds in the initialiser.
unfoldable pub declared : Fn → St → VarT → Does (List TVarT)
declared f sp v = do
  t ← type_in f sp v.span v.ty
  i ← maybe_filled f (entered v.name t.0 t.1) t.0 v.init
  n ← placed v.span (object_size f.layouts f.whole locals_limit sp.used (is_new v.name sp) t.0)
  Ok (filled_var false (length sp.sizes) t.0 i.0, sized n i.1)

abbrev pub all_declared : Fn → St → List VarT → Does (List TVarT)
all_declared f sp [] = Ok ([], sp)
all_declared f sp (v ∷ vs) = do
  x ← declared f sp v
  xs ← all_declared f x.1 vs
  Ok (x.0 ++ xs.0, xs.1)

-- a value that may be missing
unfoldable pub maybe_value : Fn → St → Option ExprT → Does (Option TExprT)
maybe_value f sp None = Ok (None, sp)
maybe_value f sp (Some e) = do
  x ← value_in f sp e
  Ok (Some x.0, x.1)

abbrev mutual
  -- A statement. Whether `break` and `continue` may stand there comes in; the rule of a condition comes behind all parts.
  pub statement : Fn → St → Bool → Bool → StmtT → Does TStmtT
  statement f sp breaks continues (BlockS body s) = do
    xs ← statements f (opened sp) breaks continues body
    Ok (BlockZ (made xs.1) xs.0, left xs.1)
  statement f sp breaks continues (EmptyS s) = Ok (EmptyZ, sp)
  statement f sp breaks continues (VarsS vs s) = do
    xs ← all_declared f sp vs
    Ok (VarsZ xs.0, xs.1)
  statement f sp breaks continues (DoS e) = do
    x ← value_in f sp e
    Ok (DoZ x.0, x.1)
  statement f sp breaks continues (IfS e a b s) = do
    x ← value_in f sp e
    y ← statement f x.1 breaks continues a
    z ← maybe_statement f y.1 breaks continues b
    _ ← demanded s WrongType (is_condition_of x.0)
    Ok (IfZ x.0 y.0 z.0, z.1)
  statement f sp breaks continues (WhileS e a s) = do
    x ← value_in f sp e
    y ← statement f x.1 true true a
    _ ← demanded s WrongType (is_condition_of x.0)
    Ok (WhileZ x.0 y.0, y.1)
  statement f sp breaks continues (DoWhileS a e s) = do
    y ← statement f sp true true a
    x ← value_in f y.1 e
    _ ← demanded s WrongType (is_condition_of x.0)
    Ok (DoWhileZ y.0 x.0, x.1)
  statement f sp breaks continues (ForS first test step a s) = do
    x ← maybe_statement f (opened sp) breaks continues first
    y ← maybe_value f x.1 test
    z ← maybe_value f y.1 step
    w ← statement f z.1 true true a
    _ ← demanded s WrongType (is_test y.0)
    Ok (ForZ (made w.1) x.0 y.0 z.0 w.0, left w.1)
  statement f sp breaks continues (SwitchS e all s) = do
    x ← value_in f sp e
    xs ← arms f (opened x.1) true continues no_labels all
    _ ← demanded s WrongType (is_number (type_of_typed x.0))
    Ok (SwitchZ x.0 (made xs.1) xs.0, left xs.1)
  statement f sp breaks continues (ReturnS None s) = Ok (ReturnZ None, sp)
  statement f sp breaks continues (ReturnS (Some e) s) = do
    x ← value_in f sp e
    _ ← demanded s WrongType (converts (type_of_typed x.0) f.gives)
    Ok (ReturnZ (Some x.0), x.1)
  statement f sp breaks continues (BreakS s) = do
    _ ← demanded s BreakOutside breaks
    Ok (BreakZ, sp)
  statement f sp breaks continues (ContinueS s) = do
    _ ← demanded s BreakOutside continues
    Ok (ContinueZ, sp)

  pub maybe_statement : Fn → St → Bool → Bool → MaybeS → Does MaybeZ
  maybe_statement f sp breaks continues NoneS = Ok (NoneZ, sp)
  maybe_statement f sp breaks continues (SomeS a) = do
    x ← statement f sp breaks continues a
    Ok (SomeZ x.0, x.1)

  pub statements : Fn → St → Bool → Bool → StmtTs → Does TStmtTs
  statements f sp breaks continues NoS = Ok (NoZ, sp)
  statements f sp breaks continues (MoreS a rest) = do
    x ← statement f sp breaks continues a
    xs ← statements f x.1 breaks continues rest
    Ok (MoreZ x.0 xs.0, xs.1)

  -- an arm of a switch, after these labels
  pub arm : Fn → St → Bool → Bool → Labels → ArmT → Does TArmT
  arm f sp breaks continues seen (CaseA e s) = do
    x ← value_in f sp e
    k ← known (span_of e) NotConstant (constant x.0)
    _ ← demanded s Twice (not (is_case k seen))
    Ok (CaseB k, x.1)
  arm f sp breaks continues seen (DefaultA s) = do
    _ ← demanded s Twice (not seen.has_default)
    Ok (DefaultB, sp)
  arm f sp breaks continues seen (StmtA a) = do
    x ← statement f sp breaks continues a
    Ok (StmtB x.0, x.1)

  pub arms : Fn → St → Bool → Bool → Labels → ArmTs → Does TArmTs
  arms f sp breaks continues seen NoA = Ok (NoB, sp)
  arms f sp breaks continues seen (MoreA a rest) = do
    x ← arm f sp breaks continues seen a
    xs ← arms f x.1 breaks continues (with_label seen x.0) rest
    Ok (MoreB x.0 xs.0, xs.1)
