-- How many nodes a tree has: its expressions, initialisers, variables, statements and items outside types, and its `case` and
-- `default` labels. A parameter is a variable.
use Rattle.std.specs.Prelude.{ℕ, ◌+◌, List, [], ◌∷◌, Option, Some, None}
use Rattle.c_tree.specs.Tree.{ExprT, NameE, NumberE, TextE, NullE, ParenE, UnaryE, BinaryE, AssignE, StepE, IndexE, MemberE, ArrowE, CallE, CastE}
use Rattle.c_tree.specs.Tree.{SizeOfE, ExprTs, NoE, MoreE, InitT, OneI, ListI, InitTs, NoI, MoreI, VarT, StmtT, BlockS, EmptyS, VarsS, DoS, IfS}
use Rattle.c_tree.specs.Tree.{WhileS, DoWhileS, ForS, SwitchS, ReturnS, BreakS, ContinueS, MaybeS, NoneS, SomeS, StmtTs, NoS, MoreS, ArmT, CaseA}
use Rattle.c_tree.specs.Tree.{DefaultA, StmtA, ArmTs, NoA, MoreA, ItemT, RecordD, EnumD, TypedefD, VarsD, FunctionD}

abbrev mutual
  pub expr_nodes : ExprT → ℕ
  expr_nodes (NameE n sp) = 1
  expr_nodes (NumberE n sp) = 1
  expr_nodes (TextE t sp) = 1
  expr_nodes (NullE sp) = 1
  expr_nodes (ParenE a sp) = expr_nodes a + 1
  expr_nodes (UnaryE op a sp) = expr_nodes a + 1
  expr_nodes (BinaryE op a b sp) = expr_nodes a + expr_nodes b + 1
  expr_nodes (AssignE op a b sp) = expr_nodes a + expr_nodes b + 1
  expr_nodes (StepE op a sp) = expr_nodes a + 1
  expr_nodes (IndexE a b sp) = expr_nodes a + expr_nodes b + 1
  expr_nodes (MemberE a n sp) = expr_nodes a + 1
  expr_nodes (ArrowE a n sp) = expr_nodes a + 1
  expr_nodes (CallE f args sp) = exprs_nodes args + 1
  expr_nodes (CastE ty a sp) = expr_nodes a + 1
  expr_nodes (SizeOfE ty sp) = 1

  pub exprs_nodes : ExprTs → ℕ
  exprs_nodes NoE = 0
  exprs_nodes (MoreE e rest) = expr_nodes e + exprs_nodes rest

abbrev mutual
  pub init_nodes : InitT → ℕ
  init_nodes (OneI e) = expr_nodes e + 1
  init_nodes (ListI items sp) = inits_nodes items + 1

  pub inits_nodes : InitTs → ℕ
  inits_nodes NoI = 0
  inits_nodes (MoreI i rest) = init_nodes i + inits_nodes rest

abbrev pub maybe_init_nodes : Option InitT → ℕ
maybe_init_nodes None = 0
maybe_init_nodes (Some i) = init_nodes i

abbrev pub maybe_expr_nodes : Option ExprT → ℕ
maybe_expr_nodes None = 0
maybe_expr_nodes (Some e) = expr_nodes e

abbrev pub var_nodes : VarT → ℕ
var_nodes v = maybe_init_nodes v.init + 1

abbrev pub vars_nodes : List VarT → ℕ
vars_nodes [] = 0
vars_nodes (v ∷ vs) = var_nodes v + vars_nodes vs

abbrev mutual
  pub stmt_nodes : StmtT → ℕ
  stmt_nodes (BlockS body sp) = stmts_nodes body + 1
  stmt_nodes (EmptyS sp) = 1
  stmt_nodes (VarsS vs sp) = vars_nodes vs + 1
  stmt_nodes (DoS e) = expr_nodes e + 1
  stmt_nodes (IfS e a b sp) = expr_nodes e + stmt_nodes a + maybe_nodes b + 1
  stmt_nodes (WhileS e a sp) = expr_nodes e + stmt_nodes a + 1
  stmt_nodes (DoWhileS a e sp) = stmt_nodes a + expr_nodes e + 1
  stmt_nodes (ForS f x y a sp) = maybe_nodes f + maybe_expr_nodes x + maybe_expr_nodes y + stmt_nodes a + 1
  stmt_nodes (SwitchS e xs sp) = expr_nodes e + arms_nodes xs + 1
  stmt_nodes (ReturnS e sp) = maybe_expr_nodes e + 1
  stmt_nodes (BreakS sp) = 1
  stmt_nodes (ContinueS sp) = 1

  pub maybe_nodes : MaybeS → ℕ
  maybe_nodes NoneS = 0
  maybe_nodes (SomeS s) = stmt_nodes s

  pub stmts_nodes : StmtTs → ℕ
  stmts_nodes NoS = 0
  stmts_nodes (MoreS s rest) = stmt_nodes s + stmts_nodes rest

  pub arm_nodes : ArmT → ℕ
  arm_nodes (CaseA e sp) = expr_nodes e + 1
  arm_nodes (DefaultA sp) = 1
  arm_nodes (StmtA s) = stmt_nodes s

  pub arms_nodes : ArmTs → ℕ
  arms_nodes NoA = 0
  arms_nodes (MoreA a rest) = arm_nodes a + arms_nodes rest

abbrev pub maybe_vars_nodes : Option (List VarT) → ℕ
maybe_vars_nodes None = 0
maybe_vars_nodes (Some vs) = vars_nodes vs

abbrev pub maybe_stmts_nodes : Option StmtTs → ℕ
maybe_stmts_nodes None = 0
maybe_stmts_nodes (Some ss) = stmts_nodes ss

abbrev pub values_nodes : List (List ℕ × Option ExprT) → ℕ
values_nodes [] = 0
values_nodes (v ∷ vs) = maybe_expr_nodes v.1 + values_nodes vs

abbrev pub item_nodes : ItemT → ℕ
item_nodes (RecordD is_union name members sp) = maybe_vars_nodes members + 1
item_nodes (EnumD name values sp) = values_nodes values + 1
item_nodes (TypedefD ty name sp) = 1
item_nodes (VarsD vs sp) = vars_nodes vs + 1
item_nodes (FunctionD gives name params body sp) = vars_nodes params + maybe_stmts_nodes body + 1

abbrev pub unit_nodes : List ItemT → ℕ
unit_nodes [] = 0
unit_nodes (x ∷ xs) = item_nodes x + unit_nodes xs
