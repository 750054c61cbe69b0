-- A function has at most two temporaries an expression, one a parameter and sixteen more.
use Rattle.std.proofs.Common.{ℕ, ◌+◌, ◌*◌, ◌≤◌, arith, true, List, [], ◌∷◌, length, Option, Some, None}
use Rattle.c_tree.specs.declared.operator.UnOp.{UnOp}
use Rattle.c_tree.specs.declared.operator.UnOp.TheVariants as un
use Rattle.c_types.specs.Types.{Ty}
use Rattle.c_types.specs.Typed.{TExprT, Typed, TKindT, NumberK, NullK, LiteralK, GlobalK, LocalK, UnaryK, BinaryK, AssignK, StepK, IndexK, MemberK, ArrowK, CastK, CallK, InK, OutK, WaitK, HaltK, CardK, TExprTs, NoX, MoreX, TInitT, OneI, TextI, ListI, TInitTs, NoI, MoreI, TVarT, TStmtT, BlockZ, EmptyZ, VarsZ, DoZ, IfZ, WhileZ, DoWhileZ, ForZ, SwitchZ, ReturnZ, BreakZ, ContinueZ, MaybeZ, NoneZ, SomeZ, TStmtTs, NoZ, MoreZ, TArmT, CaseB, DefaultB, StmtB, TArmTs, NoB, MoreB}
use Rattle.c_types.specs.Programs.{TFunctionT, ProgramT}
use Rattle.c_types.specs.View.{tstmts}
use Rattle.c_exprs.specs.Nodes.{is_place, is_place_kind}
use Rattle.c_meaning.specs.Kinds.{type_of}
use Rattle.c_meaning.specs.Frames.{over, over_all, over_maybe, over_init, over_inits, over_vars, over_statement, over_other, over_statements, over_arm, over_arms, expressions}
use Rattle.lower_trees.specs.Shape.{Shape}
use Rattle.lower_trees.specs.Counts.{with_place, unary_temps, temps, temps_all, value_temps, init_temps, inits_temps, behind_address, vars_temps, maybe_temps, stmt_temps, other_temps, stmts_temps, arm_temps, arms_temps}
use Rattle.lower_trees.specs.Lowered.{low_function, low_start}
use Rattle.mid_lower.proofs.Counted.{place_least, place_most, element_most}

abbrev each : TKindT → Ty → ℕ
each kind ty = 1

unary_most : (op : UnOp) (x : TExprT) (n : ℕ) → unary_temps op x n ≤ with_place (is_place x) (type_of x) n
unary_most un.Deref x n = omega arith
unary_most un.Address x n = place_least (is_place x) (type_of x) n
unary_most un.Minus x n = omega arith
unary_most un.Plus x n = omega arith
unary_most un.Not x n = omega arith
unary_most un.Flip x n = omega arith

mutual
  value_few : (x : TExprT) → value_temps x + 1 ≤ 2 * over each x
  value_few (Typed (NumberK n) ty span) = omega arith
  value_few (Typed NullK ty span) = omega arith
  value_few (Typed (LiteralK number) ty span) = omega (arith, place_most true ty 0)
  value_few (Typed (GlobalK number) ty span) = omega (arith, place_most true ty 0)
  value_few (Typed (LocalK number) ty span) = omega (arith, place_most true ty 0)
  value_few (Typed (UnaryK op x) ty span) = omega (arith, place_most (is_place_kind (UnaryK op x)) ty (unary_temps op x (temps x)), unary_most op x (temps x), value_few x)
  value_few (Typed (BinaryK op x y) ty span) = omega (arith, value_few x, value_few y)
  value_few (Typed (AssignK op x y) ty span) = omega (arith, place_least (is_place x) (type_of x) (temps x), value_few x, value_few y)
  value_few (Typed (StepK op x) ty span) = omega (arith, place_least (is_place x) (type_of x) (temps x), value_few x)
  value_few (Typed (IndexK x y) ty span) = omega (arith, value_few x, value_few y, element_most ty (value_temps x + value_temps y))
  value_few (Typed (MemberK x offset) ty span) = omega (arith, place_most (is_place_kind (MemberK x offset)) ty (temps x + 1), place_least (is_place x) (type_of x) (temps x), value_few x)
  value_few (Typed (ArrowK x offset) ty span) = omega (arith, value_few x, place_most true ty (value_temps x + 1))
  value_few (Typed (CastK x) ty span) = omega (arith, value_few x)
  value_few (Typed (CallK f xs) ty span) = omega (arith, all_few xs)
  value_few (Typed (InK port) ty span) = omega arith
  value_few (Typed (OutK port x) ty span) = omega (arith, value_few x)
  value_few (Typed WaitK ty span) = omega arith
  value_few (Typed HaltK ty span) = omega arith
  value_few (Typed CardK ty span) = omega arith

  all_few : (xs : TExprTs) → temps_all xs ≤ 2 * over_all each xs
  all_few NoX = omega arith
  all_few (MoreX x xs) = omega (arith, value_few x, all_few xs)

maybe_few : (x : Option TExprT) → maybe_temps x ≤ 2 * over_maybe each x
maybe_few None = omega arith
maybe_few (Some x) = value_few x

mutual
  init_few : (i : TInitT) → behind_address i 0 + init_temps i ≤ 2 * over_init each i
  init_few (OneI x) = omega (arith, value_few x)
  init_few (TextI number) = omega arith
  init_few (ListI items) = omega (arith, inits_few items)

  inits_few : (is : TInitTs) → inits_temps is ≤ 2 * over_inits each is
  inits_few NoI = omega arith
  inits_few (MoreI i rest) = omega (arith, init_few i, inits_few rest)

vars_few : (vs : List TVarT) → vars_temps vs ≤ 2 * over_vars each vs
vars_few [] = omega arith
vars_few (v ∷ vs) = omega (arith, init_few v.init, vars_few vs)

mutual
  stmt_few : (a : TStmtT) → stmt_temps a ≤ 2 * over_statement each a
  stmt_few (BlockZ made body) = stmts_few body
  stmt_few EmptyZ = omega arith
  stmt_few (VarsZ vars) = vars_few vars
  stmt_few (DoZ x) = value_few x
  stmt_few (IfZ x a b) = omega (arith, value_few x, stmt_few a, other_few b)
  stmt_few (WhileZ x a) = omega (arith, value_few x, stmt_few a)
  stmt_few (DoWhileZ a x) = omega (arith, value_few x, stmt_few a)
  stmt_few (ForZ made first test step a) = omega (arith, other_few first, maybe_few test, maybe_few step, stmt_few a)
  stmt_few (SwitchZ x made arms) = omega (arith, value_few x, arms_few arms)
  stmt_few (ReturnZ x) = maybe_few x
  stmt_few BreakZ = omega arith
  stmt_few ContinueZ = omega arith

  other_few : (a : MaybeZ) → other_temps a ≤ 2 * over_other each a
  other_few NoneZ = omega arith
  other_few (SomeZ a) = stmt_few a

  stmts_few : (all : TStmtTs) → stmts_temps all ≤ 2 * over_statements each all
  stmts_few NoZ = omega arith
  stmts_few (MoreZ a rest) = omega (arith, stmt_few a, stmts_few rest)

  arm_few : (a : TArmT) → arm_temps a ≤ 2 * over_arm each a
  arm_few (CaseB label) = omega arith
  arm_few DefaultB = omega arith
  arm_few (StmtB a) = stmt_few a

  arms_few : (all : TArmTs) → arms_temps all ≤ 2 * over_arms each all
  arms_few NoB = omega arith
  arms_few (MoreB a rest) = omega (arith, arm_few a, arms_few rest)

pub function_temporaries : (h : Shape) (f : TFunctionT) → (low_function h f).temps ≤ 2 * expressions f + length f.params + 16
function_temporaries h f = omega (arith, stmts_few f.body)

pub start_temporaries : (p : ProgramT) → (low_start p).temps ≤ 2 * over_statements (λ kind ty. 1) (tstmts p.inits) + 16
start_temporaries p = omega (arith, stmts_few (tstmts p.inits))
