-- Statements lowered to mid code. Their temporaries are those from n on, the locals of the structures that they make those from m on.
use Rattle.std.specs.Prelude.{ℕ, suc, ◌+◌, Bool, is_some, length, Option, Some, None}
use Rattle.c_types.specs.Types.{Ty}
use Rattle.c_types.specs.Typed.{TExprT, TStmtT, BlockZ, EmptyZ, VarsZ, DoZ, IfZ, WhileZ, DoWhileZ, ForZ, SwitchZ, ReturnZ, BreakZ, ContinueZ, MaybeZ}
use Rattle.c_types.specs.Typed.{NoneZ, SomeZ, TStmtTs, NoZ, MoreZ, CaseB, DefaultB, StmtB, TArmTs, NoB, MoreB}
use Rattle.c_types.specs.Kinds.{is_structure}
use Rattle.v32_isa.specs.declared.instruction.Two.TheVariants.{IEQ, ISUB}
use Rattle.mid_code.specs.declared.node.Op.TheVariants as o
use Rattle.lower_trees.specs.Shape.{Shape, words}
use Rattle.lower_trees.specs.Flags.{is_flag}
use Rattle.lower_trees.specs.Pieces.{Piece, NothingP, ◌▸◌, EitherP, DoP, ChooseP, BlockP, LoopP, LeaveP, AgainP, ReturnP}
use Rattle.lower_trees.specs.Parts.{one, other, result_at, copied_between, converted, made}
use Rattle.lower_trees.specs.Counts.{maybe_temps, stmt_temps, other_temps, maybe_sizes, stmt_sizes, other_sizes}
use Rattle.lower_trees.specs.Expressions.{second, beyond, low_value, low_test}
use Rattle.lower_trees.specs.Initialisers.{low_vars}

-- where `continue` goes to: the end of the k-th enclosing part, or its next turn
pub data Jump : Type 0 where
  ToEnd : (k : ℕ) → Jump
  ToTurn : (k : ℕ) → Jump

abbrev pub further : Jump → Jump
further (ToEnd k) = ToEnd (suc k)
further (ToTurn k) = ToTurn (suc k)

-- how many enclosing parts are between
abbrev pub depth : Jump → ℕ
depth (ToEnd k) = k
depth (ToTurn k) = k

abbrev pub jump : Jump → Piece
jump (ToEnd k) = LeaveP k
jump (ToTurn k) = AgainP k

-- ---- loops

-- the condition of a turn comes first, where there is one
abbrev pub tested_first : Shape → Option TExprT → (n m : ℕ) → Piece
tested_first h None n m = NothingP
tested_first h (Some x) n m = low_test h x n (n + 1) m

abbrev pub chosen_by : (tests : Bool) → (n : ℕ) → Piece → Piece
chosen_by tests n turn = EitherP tests (ChooseP n turn NothingP) turn

-- a turn, where the condition holds
abbrev pub low_chosen : Shape → Option TExprT → (n m : ℕ) → Piece → Piece
low_chosen h test n m turn = tested_first h test n m ▸ chosen_by (is_some test) n turn

-- the value of a step is dropped
abbrev pub low_dropped : Shape → Option TExprT → (n m : ℕ) → Piece
low_dropped h None n m = NothingP
low_dropped h (Some x) n m = low_value h x n (n + 1) m

-- the turns of a `for`: `continue` ends its body
abbrev pub turn_of : Piece → (dropped : Piece) → Piece
turn_of body dropped = BlockP body ▸ dropped ▸ AgainP 0

abbrev pub turns : Shape → (test step : Option TExprT) → TStmtT → (body : (n m : ℕ) → Piece) → (n m : ℕ) → Piece
turns h test step a body n m =
    LoopP (low_chosen h test n m (turn_of (body (n + maybe_temps test) (m + length (maybe_sizes h test)))
    (low_dropped h step (n + maybe_temps test + stmt_temps a) (m + length (maybe_sizes h test) + length (stmt_sizes h a)))))

-- ---- switches: the word in t is held against the labels, and t takes how many labels come before the one that is chosen

-- the labels before `default`, else all
abbrev pub labels_before_default : TArmTs → ℕ
labels_before_default NoB = 0
labels_before_default (MoreB (CaseB label) rest) = suc (labels_before_default rest)
labels_before_default (MoreB DefaultB rest) = 0
labels_before_default (MoreB (StmtB a) rest) = labels_before_default rest

-- i labels come before these arms, and so many before the one that is chosen where none is equal; the first that is equal ends the block
abbrev pub low_match : (t i default : ℕ) → TArmTs → Piece
low_match t i d NoB = DoP (o.Const t d)
low_match t i d (MoreB (CaseB label) rest) =
    DoP (o.Const other label) ▸ DoP (o.Two IEQ other t other) ▸ ChooseP other (DoP (o.Const t i) ▸ LeaveP 0) NothingP ▸ low_match t (suc i) d rest
low_match t i d (MoreB DefaultB rest) = low_match t (suc i) d rest
low_match t i d (MoreB (StmtB a) rest) = low_match t i d rest

-- What stands behind a label is passed over while labels come before the one that is chosen. `one` has a 1.
abbrev pub low_label : (t : ℕ) → Piece → Piece
low_label t a = ChooseP t (DoP (o.Two ISUB t t one)) a

-- ---- returning

abbrev pub returned : Shape → Ty → (t : ℕ) → Piece
returned h ty t = EitherP (is_structure ty) (copied_between (words h ty) t result_at ▸ ReturnP None) (ReturnP (Some t))

-- ---- all forms: a `break` leaves the b-th enclosing part; ty is the type of the function's result

abbrev mutual
  pub low_stmt : Shape → Ty → TStmtT → (n m b : ℕ) → Jump → Piece
  low_stmt h ty (BlockZ ks body) n m b j = made ks ▸ low_stmts h ty body n m b j
  low_stmt h ty EmptyZ n m b j = NothingP
  low_stmt h ty (VarsZ vars) n m b j = low_vars h vars n m
  low_stmt h ty (DoZ x) n m b j = low_value h x n (n + 1) m
  low_stmt h ty (IfZ x a rest) n m b j =
      low_test h x n (n + 1) m
      ▸ ChooseP n (low_stmt h ty a (second x n) (beyond h x m) b j)
      (low_other h ty rest (second x n + stmt_temps a) (beyond h x m + length (stmt_sizes h a)) b j)
  low_stmt h ty (WhileZ x a) n m b j =
      LoopP (low_test h x n (n + 1) m ▸ ChooseP n (low_stmt h ty a (second x n) (beyond h x m) 0 (ToTurn 0) ▸ AgainP 0) NothingP)
  low_stmt h ty (DoWhileZ a x) n m b j =
      LoopP (BlockP (low_stmt h ty a n m 1 (ToEnd 0)) ▸ low_test h x (n + stmt_temps a) (n + stmt_temps a + 1) (m + length (stmt_sizes h a))
      ▸ ChooseP (n + stmt_temps a) (AgainP 0) NothingP)
  low_stmt h ty (ForZ ks first test step a) n m b j =
      made ks ▸ low_other h ty first n m b j
      ▸ turns h test step a (λ u v. low_stmt h ty a u v 1 (ToEnd 0)) (n + other_temps first) (m + length (other_sizes h first))
  low_stmt h ty (SwitchZ x ks arms) n m b j =
      low_value h x n (n + 1) m ▸ (BlockP (low_match n 0 (labels_before_default arms) arms) ▸ DoP (o.Const one 1))
      ▸ made ks ▸ BlockP (low_arms h ty n arms (second x n) (beyond h x m) 0 (further j))
  low_stmt h ty (ReturnZ None) n m b j = ReturnP None
  low_stmt h ty (ReturnZ (Some x)) n m b j = low_value h x n (n + 1) m ▸ converted ty (is_flag x) n ▸ returned h ty n
  low_stmt h ty BreakZ n m b j = LeaveP b
  low_stmt h ty ContinueZ n m b j = jump j

  pub low_other : Shape → Ty → MaybeZ → (n m b : ℕ) → Jump → Piece
  low_other h ty NoneZ n m b j = NothingP
  low_other h ty (SomeZ a) n m b j = low_stmt h ty a n m b j

  pub low_stmts : Shape → Ty → TStmtTs → (n m b : ℕ) → Jump → Piece
  low_stmts h ty NoZ n m b j = NothingP
  low_stmts h ty (MoreZ a rest) n m b j = low_stmt h ty a n m b j ▸ low_stmts h ty rest (n + stmt_temps a) (m + length (stmt_sizes h a)) b j

  -- the arms, one after the other
  pub low_arms : Shape → Ty → (t : ℕ) → TArmTs → (n m b : ℕ) → Jump → Piece
  low_arms h ty t NoB n m b j = NothingP
  low_arms h ty t (MoreB (CaseB label) rest) n m b j = low_label t (low_group h ty rest n m b j) ▸ low_arms h ty t rest n m b j
  low_arms h ty t (MoreB DefaultB rest) n m b j = low_label t (low_group h ty rest n m b j) ▸ low_arms h ty t rest n m b j
  low_arms h ty t (MoreB (StmtB a) rest) n m b j = low_arms h ty t rest (n + stmt_temps a) (m + length (stmt_sizes h a)) b j

  -- the statements before the next label
  pub low_group : Shape → Ty → TArmTs → (n m b : ℕ) → Jump → Piece
  low_group h ty NoB n m b j = NothingP
  low_group h ty (MoreB (CaseB label) rest) n m b j = NothingP
  low_group h ty (MoreB DefaultB rest) n m b j = NothingP
  low_group h ty (MoreB (StmtB a) rest) n m b j = low_stmt h ty a n m b j ▸ low_group h ty rest (n + stmt_temps a) (m + length (stmt_sizes h a)) b j
