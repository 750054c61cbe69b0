-- How deep a tree is: the greatest number of expressions, types, initialisers, variables, statements, arms and items
-- on one path from its root, itself included.
use Rattle.std.specs.Prelude.{ℕ, ◌+◌, max, List, [], ◌∷◌, Option, Some, None}
use Rattle.c_tree.specs.Tree.{ExprT, NameE, NumberE, TextE, NullE, ParenE, UnaryE, BinaryE, AssignE, StepE, IndexE, MemberE, ArrowE, CallE, CastE}
use Rattle.c_tree.specs.Tree.{SizeOfE, ExprTs, NoE, MoreE, TypeT, IntY, BoolY, VoidY, NamedY, PointerY, ArrayY, InitT, OneI, ListI, InitTs, NoI}
use Rattle.c_tree.specs.Tree.{MoreI, VarT, StmtT, BlockS, EmptyS, VarsS, DoS, IfS, WhileS, DoWhileS, ForS, SwitchS, ReturnS, BreakS, ContinueS}
use Rattle.c_tree.specs.Tree.{MaybeS, NoneS, SomeS, StmtTs, NoS, MoreS, ArmT, CaseA, DefaultA, StmtA, ArmTs, NoA, MoreA, ItemT, RecordD, EnumD}
use Rattle.c_tree.specs.Tree.{TypedefD, VarsD, FunctionD}

abbrev mutual
  pub expr_depth : ExprT → ℕ
  expr_depth (NameE n sp) = 1
  expr_depth (NumberE n sp) = 1
  expr_depth (TextE t sp) = 1
  expr_depth (NullE sp) = 1
  expr_depth (ParenE a sp) = expr_depth a + 1
  expr_depth (UnaryE op a sp) = expr_depth a + 1
  expr_depth (BinaryE op a b sp) = max (expr_depth a) (expr_depth b) + 1
  expr_depth (AssignE op a b sp) = max (expr_depth a) (expr_depth b) + 1
  expr_depth (StepE op a sp) = expr_depth a + 1
  expr_depth (IndexE a b sp) = max (expr_depth a) (expr_depth b) + 1
  expr_depth (MemberE a n sp) = expr_depth a + 1
  expr_depth (ArrowE a n sp) = expr_depth a + 1
  expr_depth (CallE f args sp) = exprs_depth args + 1
  expr_depth (CastE ty a sp) = max (type_depth ty) (expr_depth a) + 1
  expr_depth (SizeOfE ty sp) = type_depth ty + 1

  pub exprs_depth : ExprTs → ℕ
  exprs_depth NoE = 0
  exprs_depth (MoreE e rest) = max (expr_depth e) (exprs_depth rest)

  pub type_depth : TypeT → ℕ
  type_depth IntY = 1
  type_depth BoolY = 1
  type_depth VoidY = 1
  type_depth (NamedY n) = 1
  type_depth (PointerY to) = type_depth to + 1
  type_depth (ArrayY of size) = max (type_depth of) (expr_depth size) + 1

abbrev mutual
  pub init_depth : InitT → ℕ
  init_depth (OneI e) = expr_depth e + 1
  init_depth (ListI items sp) = inits_depth items + 1

  pub inits_depth : InitTs → ℕ
  inits_depth NoI = 0
  inits_depth (MoreI i rest) = max (init_depth i) (inits_depth rest)

abbrev pub maybe_init_depth : Option InitT → ℕ
maybe_init_depth None = 0
maybe_init_depth (Some i) = init_depth i

abbrev pub maybe_expr_depth : Option ExprT → ℕ
maybe_expr_depth None = 0
maybe_expr_depth (Some e) = expr_depth e

abbrev pub var_depth : VarT → ℕ
var_depth v = max (type_depth v.ty) (maybe_init_depth v.init) + 1

abbrev pub vars_depth : List VarT → ℕ
vars_depth [] = 0
vars_depth (v ∷ vs) = max (var_depth v) (vars_depth vs)

abbrev mutual
  pub stmt_depth : StmtT → ℕ
  stmt_depth (BlockS body sp) = stmts_depth body + 1
  stmt_depth (EmptyS sp) = 1
  stmt_depth (VarsS vs sp) = vars_depth vs + 1
  stmt_depth (DoS e) = expr_depth e + 1
  stmt_depth (IfS e a b sp) = max (max (expr_depth e) (stmt_depth a)) (maybe_depth b) + 1
  stmt_depth (WhileS e a sp) = max (expr_depth e) (stmt_depth a) + 1
  stmt_depth (DoWhileS a e sp) = max (stmt_depth a) (expr_depth e) + 1
  stmt_depth (ForS f x y a sp) = max (max (max (maybe_depth f) (maybe_expr_depth x)) (maybe_expr_depth y)) (stmt_depth a) + 1
  stmt_depth (SwitchS e xs sp) = max (expr_depth e) (arms_depth xs) + 1
  stmt_depth (ReturnS e sp) = maybe_expr_depth e + 1
  stmt_depth (BreakS sp) = 1
  stmt_depth (ContinueS sp) = 1

  pub maybe_depth : MaybeS → ℕ
  maybe_depth NoneS = 0
  maybe_depth (SomeS s) = stmt_depth s

  pub stmts_depth : StmtTs → ℕ
  stmts_depth NoS = 0
  stmts_depth (MoreS s rest) = max (stmt_depth s) (stmts_depth rest)

  pub arm_depth : ArmT → ℕ
  arm_depth (CaseA e sp) = expr_depth e + 1
  arm_depth (DefaultA sp) = 1
  arm_depth (StmtA s) = stmt_depth s + 1

  pub arms_depth : ArmTs → ℕ
  arms_depth NoA = 0
  arms_depth (MoreA a rest) = max (arm_depth a) (arms_depth rest)

abbrev pub maybe_vars_depth : Option (List VarT) → ℕ
maybe_vars_depth None = 0
maybe_vars_depth (Some vs) = vars_depth vs

abbrev pub maybe_stmts_depth : Option StmtTs → ℕ
maybe_stmts_depth None = 0
maybe_stmts_depth (Some ss) = stmts_depth ss

abbrev pub values_depth : List (List ℕ × Option ExprT) → ℕ
values_depth [] = 0
values_depth (v ∷ vs) = max (maybe_expr_depth v.1) (values_depth vs)

abbrev pub item_depth : ItemT → ℕ
item_depth (RecordD is_union name members sp) = maybe_vars_depth members + 1
item_depth (EnumD name values sp) = values_depth values + 1
item_depth (TypedefD ty name sp) = type_depth ty + 1
item_depth (VarsD vs sp) = vars_depth vs + 1
item_depth (FunctionD gives name params body sp) = max (max (type_depth gives) (vars_depth params)) (maybe_stmts_depth body) + 1

abbrev pub unit_depth : List ItemT → ℕ
unit_depth [] = 0
unit_depth (x ∷ xs) = max (item_depth x) (unit_depth xs)
