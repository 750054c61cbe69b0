-- How many nodes a program has: its expressions, initialisers, variables that are filled, and statements, the labels of its switches, its
-- functions and their parameters. A text as an initialiser counts as two: the initialiser and the text.
use Rattle.std.specs.Prelude.{ℕ, ◌+◌, List, [], ◌∷◌, length, sum_by, Option, Some, None}
use Rattle.c_types.specs.Typed.{TExprT, Typed, TKindT, NumberK, NullK, LiteralK, GlobalK, LocalK, UnaryK, BinaryK, AssignK, StepK, IndexK, MemberK}
use Rattle.c_types.specs.Typed.{ArrowK, CastK, CallK, InK, OutK, WaitK, HaltK, CardK, TExprTs, NoX, MoreX, TInitT, OneI, TextI, ListI, TInitTs, NoI}
use Rattle.c_types.specs.Typed.{MoreI, TVarT, TStmtT, BlockZ, EmptyZ, VarsZ, DoZ, IfZ, WhileZ, DoWhileZ, ForZ, SwitchZ, ReturnZ, BreakZ, ContinueZ}
use Rattle.c_types.specs.Typed.{MaybeZ, NoneZ, SomeZ, TStmtTs, NoZ, MoreZ, TArmT, CaseB, DefaultB, StmtB, TArmTs, NoB, MoreB}
use Rattle.c_types.specs.Programs.{TFunctionT, ProgramT}

abbrev mutual
  pub typed_nodes : TExprT → ℕ
  typed_nodes (Typed kind ty span) = kind_nodes kind + 1

  pub kind_nodes : TKindT → ℕ
  kind_nodes (NumberK n) = 0
  kind_nodes NullK = 0
  kind_nodes (LiteralK number) = 0
  kind_nodes (GlobalK number) = 0
  kind_nodes (LocalK number) = 0
  kind_nodes (UnaryK op x) = typed_nodes x
  kind_nodes (BinaryK op x y) = typed_nodes x + typed_nodes y
  kind_nodes (AssignK op x y) = typed_nodes x + typed_nodes y
  kind_nodes (StepK op x) = typed_nodes x
  kind_nodes (IndexK x y) = typed_nodes x + typed_nodes y
  kind_nodes (MemberK x offset) = typed_nodes x
  kind_nodes (ArrowK x offset) = typed_nodes x
  kind_nodes (CastK x) = typed_nodes x
  kind_nodes (CallK number xs) = all_typed_nodes xs
  kind_nodes (InK port) = 0
  kind_nodes (OutK port x) = typed_nodes x
  kind_nodes WaitK = 0
  kind_nodes HaltK = 0
  kind_nodes CardK = 0

  pub all_typed_nodes : TExprTs → ℕ
  all_typed_nodes NoX = 0
  all_typed_nodes (MoreX x xs) = typed_nodes x + all_typed_nodes xs

abbrev mutual
  pub filled_nodes : TInitT → ℕ
  filled_nodes (OneI x) = typed_nodes x + 1
  filled_nodes (TextI number) = 2
  filled_nodes (ListI items) = all_filled_nodes items + 1

  pub all_filled_nodes : TInitTs → ℕ
  all_filled_nodes NoI = 0
  all_filled_nodes (MoreI i rest) = filled_nodes i + all_filled_nodes rest

abbrev pub variable_nodes : TVarT → ℕ
variable_nodes v = filled_nodes v.init + 1

abbrev pub variables_nodes : List TVarT → ℕ
variables_nodes [] = 0
variables_nodes (v ∷ vs) = variable_nodes v + variables_nodes vs

abbrev pub maybe_typed_nodes : Option TExprT → ℕ
maybe_typed_nodes None = 0
maybe_typed_nodes (Some x) = typed_nodes x

abbrev mutual
  pub statement_nodes : TStmtT → ℕ
  statement_nodes (BlockZ made body) = statements_nodes body + 1
  statement_nodes EmptyZ = 1
  statement_nodes (VarsZ vars) = variables_nodes vars + 1
  statement_nodes (DoZ x) = typed_nodes x + 1
  statement_nodes (IfZ x a b) = typed_nodes x + statement_nodes a + maybe_statement_nodes b + 1
  statement_nodes (WhileZ x a) = typed_nodes x + statement_nodes a + 1
  statement_nodes (DoWhileZ a x) = statement_nodes a + typed_nodes x + 1
  statement_nodes (ForZ made first test step a) = maybe_statement_nodes first + maybe_typed_nodes test + maybe_typed_nodes step + statement_nodes a + 1
  statement_nodes (SwitchZ x made arms) = typed_nodes x + arms_nodes arms + 1
  statement_nodes (ReturnZ e) = maybe_typed_nodes e + 1
  statement_nodes BreakZ = 1
  statement_nodes ContinueZ = 1

  pub maybe_statement_nodes : MaybeZ → ℕ
  maybe_statement_nodes NoneZ = 0
  maybe_statement_nodes (SomeZ a) = statement_nodes a

  pub statements_nodes : TStmtTs → ℕ
  statements_nodes NoZ = 0
  statements_nodes (MoreZ a rest) = statement_nodes a + statements_nodes rest

  pub arm_nodes : TArmT → ℕ
  arm_nodes (CaseB k) = 1
  arm_nodes DefaultB = 1
  arm_nodes (StmtB a) = statement_nodes a

  pub arms_nodes : TArmTs → ℕ
  arms_nodes NoB = 0
  arms_nodes (MoreB a rest) = arm_nodes a + arms_nodes rest

abbrev pub function_nodes : TFunctionT → ℕ
function_nodes f = length f.params + statements_nodes f.body + 1

abbrev pub program_nodes : ProgramT → ℕ
program_nodes p = sum_by statement_nodes p.inits + sum_by function_nodes p.functions
