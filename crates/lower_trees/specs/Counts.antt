-- How many temporaries trees have of their own, beside the one that takes what they come to; and the words of the locals in which their structures
-- stand, in order.
use Rattle.std.specs.Prelude.{ℕ, ◌+◌, Bool, true, false, List, [], ◌∷◌, ◌++◌, Option, Some, None, if◌then◌else◌}
use Rattle.c_types.specs.Types.{Ty, VoidY, StructY, UnionY, ArrayY}
use Rattle.c_types.specs.Typed.{TExprT, Typed, TKindT, UnaryK, BinaryK, AssignK, StepK, IndexK, MemberK, ArrowK, CastK, CallK, OutK, TExprTs, NoX}
use Rattle.c_types.specs.Typed.{MoreX, TInitT, OneI, TextI, ListI, TInitTs, NoI, MoreI, TVarT, TStmtT, BlockZ, EmptyZ, VarsZ, DoZ, IfZ, WhileZ}
use Rattle.c_types.specs.Typed.{DoWhileZ, ForZ, SwitchZ, ReturnZ, BreakZ, ContinueZ, MaybeZ, NoneZ, SomeZ, TStmtTs, NoZ, MoreZ, TArmT, CaseB}
use Rattle.c_types.specs.Typed.{DefaultB, StmtB, TArmTs, NoB, MoreB}
use Rattle.c_tree.specs.declared.operator.UnOp.{UnOp}
use Rattle.c_tree.specs.declared.operator.UnOp.TheVariants.{Address}
use Rattle.c_exprs.specs.Nodes.{is_place}
use Rattle.c_meaning.specs.Kinds.{type_of}
use Rattle.c_types.specs.Kinds.{is_structure}
use Rattle.lower_trees.specs.Shape.{Shape, words, result_of}

-- ---- temporaries

-- whether a value of a type is one cell that is read from its place
abbrev pub is_scalar : Ty → Bool
is_scalar VoidY = false
is_scalar (StructY number) = false
is_scalar (UnionY number) = false
is_scalar (ArrayY of len) = false
is_scalar _ = true

-- the value of an expression of this type, which has so many of its own: a scalar's place stands in one more before it is read
abbrev pub with_place : (place : Bool) → Ty → ℕ → ℕ
with_place true ty n = if is_scalar ty then n + 1 else n
with_place false ty n = n

-- `&` leaves a place as it is
abbrev pub unary_temps : UnOp → TExprT → ℕ → ℕ
unary_temps Address x n = n
unary_temps _ x n = with_place (is_place x) (type_of x) n

-- the size of an element of this type; a scalar has one word
abbrev pub size_temps : Ty → ℕ
size_temps ty = if is_scalar ty then 0 else 1

abbrev mutual
  pub temps : TExprT → ℕ
  temps (Typed kind ty span) = temps_of kind ty

  pub temps_of : TKindT → Ty → ℕ
  temps_of (UnaryK op x) ty = unary_temps op x (temps x)
  temps_of (BinaryK op x y) ty = with_place (is_place x) (type_of x) (temps x) + with_place (is_place y) (type_of y) (temps y) + 3
  temps_of (AssignK op x y) ty = temps x + with_place (is_place y) (type_of y) (temps y) + 3
  temps_of (StepK op x) ty = temps x + 2
  temps_of (IndexK x y) ty = with_place (is_place x) (type_of x) (temps x) + with_place (is_place y) (type_of y) (temps y) + (2 + size_temps ty)
  temps_of (MemberK x offset) ty = temps x + 1
  temps_of (ArrowK x offset) ty = with_place (is_place x) (type_of x) (temps x) + 1
  temps_of (CastK x) ty = with_place (is_place x) (type_of x) (temps x)
  temps_of (CallK f xs) ty = temps_all xs
  temps_of (OutK port x) ty = with_place (is_place x) (type_of x) (temps x)
  temps_of _ ty = 0

  -- an argument comes to one
  pub temps_all : TExprTs → ℕ
  temps_all NoX = 0
  temps_all (MoreX x xs) = with_place (is_place x) (type_of x) (temps x) + 1 + temps_all xs

abbrev pub value_temps : TExprT → ℕ
value_temps x = with_place (is_place x) (type_of x) (temps x)

abbrev mutual
  pub init_temps : TInitT → ℕ
  init_temps (OneI x) = value_temps x
  init_temps (TextI number) = 0
  init_temps (ListI items) = inits_temps items

  pub inits_temps : TInitTs → ℕ
  inits_temps NoI = 0
  inits_temps (MoreI i rest) = init_temps i + inits_temps rest

-- where the temporaries of a variable's initialiser begin: a variable that takes one value has one for its address
abbrev pub behind_address : TInitT → (n : ℕ) → ℕ
behind_address (OneI x) n = n + 1
behind_address (TextI number) n = n
behind_address (ListI items) n = n

abbrev pub vars_temps : List TVarT → ℕ
vars_temps [] = 0
vars_temps (v ∷ vs) = behind_address v.init 0 + init_temps v.init + vars_temps vs

-- a value that comes to one of these
abbrev pub maybe_temps : Option TExprT → ℕ
maybe_temps None = 0
maybe_temps (Some x) = value_temps x + 1

abbrev mutual
  pub stmt_temps : TStmtT → ℕ
  stmt_temps (BlockZ made body) = stmts_temps body
  stmt_temps EmptyZ = 0
  stmt_temps (VarsZ vars) = vars_temps vars
  stmt_temps (DoZ x) = value_temps x + 1
  stmt_temps (IfZ x a b) = value_temps x + 1 + stmt_temps a + other_temps b
  stmt_temps (WhileZ x a) = value_temps x + 1 + stmt_temps a
  stmt_temps (DoWhileZ a x) = stmt_temps a + (value_temps x + 1)
  stmt_temps (ForZ made first test step a) = other_temps first + maybe_temps test + stmt_temps a + maybe_temps step
  stmt_temps (SwitchZ x made arms) = value_temps x + 1 + arms_temps arms
  stmt_temps (ReturnZ x) = maybe_temps x
  stmt_temps BreakZ = 0
  stmt_temps ContinueZ = 0

  pub other_temps : MaybeZ → ℕ
  other_temps NoneZ = 0
  other_temps (SomeZ a) = stmt_temps a

  pub stmts_temps : TStmtTs → ℕ
  stmts_temps NoZ = 0
  stmts_temps (MoreZ a rest) = stmt_temps a + stmts_temps rest

  pub arm_temps : TArmT → ℕ
  arm_temps (CaseB label) = 0
  arm_temps DefaultB = 0
  arm_temps (StmtB a) = stmt_temps a

  pub arms_temps : TArmTs → ℕ
  arms_temps NoB = 0
  arms_temps (MoreB a rest) = arm_temps a + arms_temps rest

-- ---- the words of locals that structures stand in, in order

abbrev pub one_size : Shape → Ty → List ℕ
one_size h ty = if is_structure ty then words h ty ∷ [] else []

-- of a structure that is read from a place
abbrev pub read_sizes : Shape → (place : Bool) → Ty → List ℕ
read_sizes h true ty = one_size h ty
read_sizes h false ty = []

-- and of the value of an expression whose own are these
abbrev pub with_read : Shape → TExprT → List ℕ → List ℕ
with_read h x ws = ws ++ read_sizes h (is_place x) (type_of x)

abbrev pub unary_sizes : Shape → UnOp → TExprT → List ℕ → List ℕ
unary_sizes h Address x ws = ws
unary_sizes h _ x ws = with_read h x ws

abbrev mutual
  pub sizes : Shape → TExprT → List ℕ
  sizes h (Typed kind ty span) = sizes_of h kind

  pub sizes_of : Shape → TKindT → List ℕ
  sizes_of h (UnaryK op x) = unary_sizes h op x (sizes h x)
  sizes_of h (BinaryK op x y) = with_read h x (sizes h x) ++ with_read h y (sizes h y)
  sizes_of h (AssignK op x y) = sizes h x ++ with_read h y (sizes h y)
  sizes_of h (StepK op x) = sizes h x
  sizes_of h (IndexK x y) = with_read h x (sizes h x) ++ with_read h y (sizes h y)
  sizes_of h (MemberK x offset) = sizes h x
  sizes_of h (ArrowK x offset) = with_read h x (sizes h x)
  sizes_of h (CastK x) = with_read h x (sizes h x)
  sizes_of h (CallK f xs) = sizes_all h xs ++ one_size h (result_of h f)
  sizes_of h (OutK port x) = with_read h x (sizes h x)
  sizes_of h _ = []

  pub sizes_all : Shape → TExprTs → List ℕ
  sizes_all h NoX = []
  sizes_all h (MoreX x xs) = with_read h x (sizes h x) ++ sizes_all h xs

abbrev pub value_sizes : Shape → TExprT → List ℕ
value_sizes h x = with_read h x (sizes h x)

abbrev mutual
  pub init_sizes : Shape → TInitT → List ℕ
  init_sizes h (OneI x) = value_sizes h x
  init_sizes h (TextI number) = []
  init_sizes h (ListI items) = inits_sizes h items

  pub inits_sizes : Shape → TInitTs → List ℕ
  inits_sizes h NoI = []
  inits_sizes h (MoreI i rest) = init_sizes h i ++ inits_sizes h rest

abbrev pub vars_sizes : Shape → List TVarT → List ℕ
vars_sizes h [] = []
vars_sizes h (v ∷ vs) = init_sizes h v.init ++ vars_sizes h vs

abbrev pub maybe_sizes : Shape → Option TExprT → List ℕ
maybe_sizes h None = []
maybe_sizes h (Some x) = value_sizes h x

abbrev mutual
  pub stmt_sizes : Shape → TStmtT → List ℕ
  stmt_sizes h (BlockZ made body) = stmts_sizes h body
  stmt_sizes h EmptyZ = []
  stmt_sizes h (VarsZ vars) = vars_sizes h vars
  stmt_sizes h (DoZ x) = value_sizes h x
  stmt_sizes h (IfZ x a b) = value_sizes h x ++ (stmt_sizes h a ++ other_sizes h b)
  stmt_sizes h (WhileZ x a) = value_sizes h x ++ stmt_sizes h a
  stmt_sizes h (DoWhileZ a x) = stmt_sizes h a ++ value_sizes h x
  stmt_sizes h (ForZ made first test step a) = other_sizes h first ++ (maybe_sizes h test ++ (stmt_sizes h a ++ maybe_sizes h step))
  stmt_sizes h (SwitchZ x made arms) = value_sizes h x ++ arms_sizes h arms
  stmt_sizes h (ReturnZ x) = maybe_sizes h x
  stmt_sizes h BreakZ = []
  stmt_sizes h ContinueZ = []

  pub other_sizes : Shape → MaybeZ → List ℕ
  other_sizes h NoneZ = []
  other_sizes h (SomeZ a) = stmt_sizes h a

  pub stmts_sizes : Shape → TStmtTs → List ℕ
  stmts_sizes h NoZ = []
  stmts_sizes h (MoreZ a rest) = stmt_sizes h a ++ stmts_sizes h rest

  pub arm_sizes : Shape → TArmT → List ℕ
  arm_sizes h (CaseB label) = []
  arm_sizes h DefaultB = []
  arm_sizes h (StmtB a) = stmt_sizes h a

  pub arms_sizes : Shape → TArmTs → List ℕ
  arms_sizes h NoB = []
  arms_sizes h (MoreB a rest) = arm_sizes h a ++ arms_sizes h rest
