-- A typed statement has at most as many nodes as its tree.
use Rattle.std.proofs.Common.{◌≡◌, ℕ, ◌+◌, ◌≤◌, Bool, false, List, [], ◌∷◌, ◌++◌, length, Option, Some, None, arith}
use Rattle.c_tree.specs.Tree.{ExprT, InitT, VarT, StmtT, MaybeS, StmtTs, ArmT, ArmTs}
use Rattle.c_tree.specs.Count.{expr_nodes, init_nodes, maybe_init_nodes, maybe_expr_nodes, var_nodes, vars_nodes, stmt_nodes, maybe_nodes, stmts_nodes}
use Rattle.c_tree.specs.Count as tree
use Rattle.c_types.specs.Types.{Ty}
use Rattle.c_types.specs.Typed.{TExprT, TInitT, TVarT, TStmtT, MaybeZ, TStmtTs, TArmT, TArmTs}
use Rattle.c_stmts.specs.State.{Fn, St, filled_var, Labels}
use Rattle.c_stmts.specs.StatementTypes as s
use Rattle.c_stmts.specs.StatementTypes.{ValueIn, FillsIn, MaybeFills, Declares, AllDeclare, MaybeValue, Statement, MaybeStatement, Statements, ArmOf, ArmsOf}
use Rattle.c_types.specs.Nodes.{typed_nodes, filled_nodes, variables_nodes, maybe_typed_nodes, statement_nodes, maybe_statement_nodes, statements_nodes, arm_nodes, arms_nodes}
use Rattle.c_facts.proofs.ExpressionNodes.{value_few, fill_few}

-- ---- variables

pub variables_append : (xs ys : List TVarT) → variables_nodes (xs ++ ys) ≡ variables_nodes xs + variables_nodes ys
variables_append [] ys = omega arith
variables_append (x ∷ xs) ys = omega (arith, variables_append xs ys)

-- the nodes of what a variable is filled with, where it is filled
abbrev pub maybe_filled_nodes : Option TInitT → ℕ
maybe_filled_nodes None = 0
maybe_filled_nodes (Some i) = filled_nodes i

-- a variable that is not filled has no node
pub filled_var_few : (global : Bool) (object : ℕ) (ty : Ty) (i : Option TInitT) → variables_nodes (filled_var global object ty i) ≤ maybe_filled_nodes i + 1
filled_var_few global object ty None = omega arith
filled_var_few global object ty (Some i) = omega arith

fill_in_few : {f : Fn} {sp sq : St} {ty : Ty} {a : InitT} {x : TInitT} → FillsIn f sp ty a x sq → filled_nodes x ≤ init_nodes a
fill_in_few (s.fill_in g) = fill_few g

maybe_fills_few : {f : Fn} {sp sq : St} {ty : Ty} {a : Option InitT} {x : Option TInitT} → MaybeFills f sp ty a x sq → maybe_filled_nodes x ≤ maybe_init_nodes a
maybe_fills_few s.no_init = omega arith
maybe_fills_few (s.init g) = fill_in_few g

pub declares_few : {f : Fn} {sp sq : St} {v : VarT} {xs : List TVarT} → Declares f sp v xs sq → variables_nodes xs ≤ var_nodes v
declares_few {sp = sp} (s.variable {t = t} {i = i} y g h) = omega (arith, maybe_fills_few g, filled_var_few false (length sp.sizes) t i)

pub all_declare_few : {f : Fn} {sp sq : St} {vs : List VarT} {xs : List TVarT} → AllDeclare f sp vs xs sq → variables_nodes xs ≤ vars_nodes vs
all_declare_few s.no_variables = omega arith
all_declare_few (s.more_variables {x = x} {xs = xs} g k) = omega (arith, declares_few g, all_declare_few k, variables_append x xs)

-- ---- statements

pub value_in_few : {f : Fn} {sp sq : St} {a : ExprT} {x : TExprT} → ValueIn f sp a x sq → typed_nodes x ≤ expr_nodes a
value_in_few (s.value_in g) = value_few g

pub maybe_value_few : {f : Fn} {sp sq : St} {a : Option ExprT} {x : Option TExprT} → MaybeValue f sp a x sq → maybe_typed_nodes x ≤ maybe_expr_nodes a
maybe_value_few s.no_value = omega arith
maybe_value_few (s.some_value g) = value_in_few g

mutual
  pub statement_few : {f : Fn} {sp sq : St} {breaks continues : Bool} {a : StmtT} {x : TStmtT} → Statement f sp breaks continues a x sq → statement_nodes x ≤ stmt_nodes a
  statement_few (s.block g) = omega (arith, statements_few g)
  statement_few s.empty = omega arith
  statement_few (s.variables g) = omega (arith, all_declare_few g)
  statement_few (s.expression g) = omega (arith, value_in_few g)
  statement_few (s.if_else g k l h) = omega (arith, value_in_few g, statement_few k, maybe_statement_few l)
  statement_few (s.while g k h) = omega (arith, value_in_few g, statement_few k)
  statement_few (s.do_while k g h) = omega (arith, value_in_few g, statement_few k)
  statement_few (s.for g y z k h) = omega (arith, maybe_statement_few g, maybe_value_few y, maybe_value_few z, statement_few k)
  statement_few (s.switch g k h) = omega (arith, value_in_few g, arms_few k)
  statement_few s.return_nothing = omega arith
  statement_few (s.return_value g h) = omega (arith, value_in_few g)
  statement_few (s.break h) = omega arith
  statement_few (s.continue h) = omega arith

  pub maybe_statement_few : {f : Fn} {sp sq : St} {breaks continues : Bool} {a : MaybeS} {x : MaybeZ} → MaybeStatement f sp breaks continues a x sq → maybe_statement_nodes x ≤ maybe_nodes a
  maybe_statement_few s.nothing = omega arith
  maybe_statement_few (s.something g) = statement_few g

  pub statements_few : {f : Fn} {sp sq : St} {breaks continues : Bool} {all : StmtTs} {xs : TStmtTs} → Statements f sp breaks continues all xs sq → statements_nodes xs ≤ stmts_nodes all
  statements_few s.no_statements = omega arith
  statements_few (s.more_statements g k) = omega (arith, statement_few g, statements_few k)

  pub arm_few : {f : Fn} {sp sq : St} {breaks continues : Bool} {seen : Labels} {a : ArmT} {x : TArmT} → ArmOf f sp breaks continues seen a x sq → arm_nodes x ≤ tree.arm_nodes a
  arm_few (s.case g k h) = omega arith
  arm_few (s.default h) = omega arith
  arm_few (s.arm_statement g) = statement_few g

  pub arms_few : {f : Fn} {sp sq : St} {breaks continues : Bool} {seen : Labels} {all : ArmTs} {xs : TArmTs} → ArmsOf f sp breaks continues seen all xs sq → arms_nodes xs ≤ tree.arms_nodes all
  arms_few s.no_arms = omega arith
  arms_few (s.more_arms g k) = omega (arith, arm_few g, arms_few k)
