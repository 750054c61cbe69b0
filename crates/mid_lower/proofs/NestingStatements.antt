-- Initialisers, statements and functions: how deep their code nests.
use Rattle.std.proofs.Common.{◌≡◌, ℕ, zero, suc, ◌+◌, ◌-◌, ◌*◌, ◌%◌, ◌^◌, ◌≤◌, max, arith, refl, Bool, true, false, List, [], ◌∷◌, length, Option, Some, None}
use Rattle.c_types.specs.Types.{Ty, VoidY, IntY, BoolY, EnumY, StructY, UnionY, PointerY, ArrayY}
use Rattle.c_types.specs.Typed.{TExprT, TInitT, OneI, TextI, ListI, TInitTs, NoI, MoreI, TVarT, TStmtT, BlockZ, EmptyZ, VarsZ, DoZ, IfZ, WhileZ, DoWhileZ, ForZ, SwitchZ, ReturnZ, BreakZ, ContinueZ, MaybeZ, NoneZ, SomeZ, TStmtTs, NoZ, MoreZ, CaseB, DefaultB, StmtB, TArmTs, NoB, MoreB}
use Rattle.c_types.specs.Programs.{TFunctionT, ProgramT}
use Rattle.c_types.specs.View.{tstmts}
use Rattle.c_types.specs.Kinds.{is_structure}
use Rattle.c_types.specs.Parts.{part_type}
use Rattle.mid_code.specs.Code.{Stop, Choose, Block, Again, Return}
use Rattle.mid_code.specs.Calls.{nesting}
use Rattle.lower_trees.specs.Shape.{Shape, shape, words, literal_words}
use Rattle.lower_trees.specs.Flags.{is_flag}
use Rattle.lower_trees.specs.Pieces.{Nodes, coded, Piece}
use Rattle.lower_trees.specs.Parts.{copied, copied_on, zeroed, item, result_at, made}
use Rattle.lower_trees.specs.Expressions.{second, beyond}
use Rattle.lower_trees.specs.Initialisers.{part_at, cell_filled, part_filled, part_zeroed, low_text, low_rest, low_init, low_inits, address_of, object_to, low_vars}
use Rattle.lower_trees.specs.Statements.{Jump, ToEnd, ToTurn, further, jump, low_chosen, low_dropped, turns, labels_before_default, low_match, returned, low_stmt, low_other, low_stmts, low_arms, low_group, turn_of}
use Rattle.lower_trees.specs.Lowered.{received, all_received, first_of, low_function, low_start}
use Rattle.lower_trees.specs.Counts.{init_temps, init_sizes, behind_address, maybe_temps, maybe_sizes, stmt_temps, stmt_sizes, other_temps, other_sizes}
use Rattle.mid_lower.specs.Levels.{expression_levels, maybe_levels, init_levels, inits_levels, variables_levels, statement_levels, other_levels, statements_levels, arms_levels}
use Rattle.mid_lower.proofs.Nesting.{copied_nests, between_nests, copied_on_nests, zeroed_nests, converted_nests, either_nests, low_value_nests, low_test_nests}

-- ---- initialisers

at_nests : (p offset : ℕ) (c : Nodes) → nesting (coded (part_at p offset) c) ≡ nesting c
at_nests p zero c = refl
at_nests p (suc offset) c = refl

cell_nests : (p offset : ℕ) (c : Nodes) → nesting (coded (cell_filled p offset) c) ≡ nesting c
cell_nests p zero c = refl
cell_nests p (suc offset) c = refl

part_nests : (h : Shape) (ty : Ty) (p offset : ℕ) (c : Nodes) (k : ℕ) → 2 ≤ k → nesting c ≤ k → nesting (coded (part_filled h ty p offset) c) ≤ k
part_nests h ty p offset c k e l =
    either_nests (is_structure ty) _ _ k (rw (at_nests p offset (coded (copied_on (words h ty) item) c)) (copied_on_nests (words h ty) item c k e l)) (rw (cell_nests p offset c) l)

rest_zero_nests : (p offset size : ℕ) (c : Nodes) (k : ℕ) → 2 ≤ k → nesting c ≤ k → nesting (coded (part_zeroed p offset size) c) ≤ k
rest_zero_nests p offset zero c k e l = l
rest_zero_nests p offset (suc left) c k e l = rw (at_nests p offset (coded (zeroed (suc left)) c)) (zeroed_nests (suc left) c k e l)

text_nests : (h : Shape) (number size p offset : ℕ) (c : Nodes) (k : ℕ) → 2 ≤ k → nesting c ≤ k → nesting (coded (low_text h number size p offset) c) ≤ k
text_nests h number size p offset c k e l =
    rw (at_nests p offset (coded (copied (literal_words h number)) (coded (part_zeroed p ((offset + literal_words h number) % 2 ^ 32) (size - literal_words h number)) c)))
    (copied_nests (literal_words h number) _ k e (rest_zero_nests p ((offset + literal_words h number) % 2 ^ 32) (size - literal_words h number) c k e l))

rest_nests : (h : Shape) (ty : Ty) (j p offset : ℕ) (c : Nodes) (k : ℕ) → 2 ≤ k → nesting c ≤ k → nesting (coded (low_rest h ty j p offset) c) ≤ k
rest_nests h (ArrayY of len) j p offset c k e l = rest_zero_nests p offset (words h of * (len - j) % 2 ^ 32) c k e l
rest_nests h VoidY j p offset c k e l = l
rest_nests h IntY j p offset c k e l = l
rest_nests h BoolY j p offset c k e l = l
rest_nests h (EnumY n) j p offset c k e l = l
rest_nests h (StructY n) j p offset c k e l = l
rest_nests h (UnionY n) j p offset c k e l = l
rest_nests h (PointerY of) j p offset c k e l = l

mutual
  init_nests : (h : Shape) (i : TInitT) (ty : Ty) (p offset n m : ℕ) (c : Nodes) (k : ℕ) → 2 * init_levels i ≤ k → nesting c ≤ k → nesting (coded (low_init h i ty p offset n m) c) ≤ k
  init_nests h (OneI x) ty p offset n m c k le l =
      low_value_nests h x item n m _ k (omega (arith, le)) (rw (converted_nests ty (is_flag x) item (coded (part_filled h ty p offset) c)) (part_nests h ty p offset c k (omega (arith, le)) l))
  init_nests h (TextI number) ty p offset n m c k le l = text_nests h number (words h ty) p offset c k (omega (arith, le)) l
  init_nests h (ListI items) ty p offset n m c k le l = inits_nests h items ty 0 p offset n m c k (omega (arith, le)) (omega (arith, le)) l

  inits_nests : (h : Shape) (is : TInitTs) (ty : Ty) (j p offset n m : ℕ) (c : Nodes) (k : ℕ) → 2 ≤ k → 2 * inits_levels is ≤ k → nesting c ≤ k → nesting (coded (low_inits h is ty j p offset n m) c) ≤ k
  inits_nests h NoI ty j p offset n m c k e le l = rest_nests h ty j p offset c k e l
  inits_nests h (MoreI i rest) ty j p offset n m c k e le l =
      init_nests h i (part_type h.layouts ty j) p offset n m _ k (omega (arith, le))
      (inits_nests h rest ty (j + 1) p ((offset + words h (part_type h.layouts ty j)) % 2 ^ 32) (n + init_temps i) (m + length (init_sizes h i)) c k e (omega (arith, le)) l)

object_nests : (global : Bool) (number t : ℕ) (c : Nodes) → nesting (coded (object_to global number t) c) ≡ nesting c
object_nests true number t c = refl
object_nests false number t c = refl

vars_nests : (h : Shape) (vs : List TVarT) (n m : ℕ) (c : Nodes) (k : ℕ) → 2 * variables_levels vs ≤ k → nesting c ≤ k → nesting (coded (low_vars h vs n m) c) ≤ k
vars_nests h [] n m c k le l = l
vars_nests h (v ∷ vs) n m c k le l =
    rw (object_nests v.global v.object (address_of v.init n) (coded (low_init h v.init v.ty (address_of v.init n) 0 (behind_address v.init n) m) (coded (low_vars h vs (behind_address v.init n + init_temps v.init) (m + length (init_sizes h v.init))) c)))
    (init_nests h v.init v.ty (address_of v.init n) 0 (behind_address v.init n) m _ k (omega (arith, le))
    (vars_nests h vs (behind_address v.init n + init_temps v.init) (m + length (init_sizes h v.init)) c k (omega (arith, le)) l))

-- ---- statements

made_nests : (ks : List ℕ) (c : Nodes) → nesting (coded (made ks) c) ≡ nesting c
made_nests [] c = refl
made_nests (j ∷ ks) c = made_nests ks c

jump_nests : (j : Jump) (c : Nodes) → nesting (coded (jump j) c) ≡ nesting c
jump_nests (ToEnd k) c = refl
jump_nests (ToTurn k) c = refl

match_nests : (t i d : ℕ) (arms : TArmTs) → nesting (coded (low_match t i d arms) Stop) ≤ 1
match_nests t i d NoB = omega arith
match_nests t i d (MoreB (CaseB label) rest) = omega (arith, match_nests t (suc i) d rest)
match_nests t i d (MoreB DefaultB rest) = match_nests t (suc i) d rest
match_nests t i d (MoreB (StmtB a) rest) = match_nests t i d rest

returned_nests : (h : Shape) (ty : Ty) (t : ℕ) (c : Nodes) (k : ℕ) → 2 ≤ k → nesting c ≤ k → nesting (coded (returned h ty t) c) ≤ k
returned_nests h ty t c k e l = either_nests (is_structure ty) _ _ k (between_nests (words h ty) t result_at (Return None c) k e l) l

chosen_nests : (h : Shape) (test : Option TExprT) (n m : ℕ) (turn : Piece) (k : ℕ) → 2 * maybe_levels test ≤ k → nesting (coded turn Stop) + 1 ≤ k → nesting (coded (low_chosen h test n m turn) Stop) ≤ k
chosen_nests h None n m turn k le l = omega (arith, l)
chosen_nests h (Some x) n m turn k le l = low_test_nests h x n (n + 1) m _ k le (omega (arith, l))

dropped_nests : (h : Shape) (step : Option TExprT) (n m : ℕ) (c : Nodes) (k : ℕ) → 2 * maybe_levels step ≤ k → nesting c ≤ k → nesting (coded (low_dropped h step n m) c) ≤ k
dropped_nests h None n m c k le l = l
dropped_nests h (Some x) n m c k le l = low_value_nests h x n (n + 1) m c k le l

-- the turns of a `for` whose body nests so deep
turns_nests : (h : Shape) (test step : Option TExprT) (a : TStmtT) (body : (n m : ℕ) → Piece) (d : ℕ) → ((n m : ℕ) → nesting (coded (body n m) Stop) ≤ d) → 2 * maybe_levels test ≤ d + 2 → 2 * maybe_levels step ≤ d + 1 → (n m : ℕ) (c : Nodes) (k : ℕ) → d + 3 ≤ k → nesting c ≤ k → nesting (coded (turns h test step a body n m) c) ≤ k
turns_nests h test step a body d b le1 le2 n m c k e l =
    let inner : nesting (coded (low_dropped h step (n + maybe_temps test + stmt_temps a) (m + length (maybe_sizes h test) + length (stmt_sizes h a))) (Again 0 Stop)) ≤ d + 1 = dropped_nests h step (n + maybe_temps test + stmt_temps a) (m + length (maybe_sizes h test) + length (stmt_sizes h a)) (Again 0 Stop) (d + 1) le2 (omega arith) in
    let whole = chosen_nests h test n m
    (turn_of (body (n + maybe_temps test) (m + length (maybe_sizes h test))) (low_dropped h step (n + maybe_temps test + stmt_temps a) (m + length (maybe_sizes h test) + length (stmt_sizes h a))))
    (d + 2) le1 (omega (arith, inner, b (n + maybe_temps test) (m + length (maybe_sizes h test)))) in
    omega (arith, whole, e, l)

mutual
  stmt_nests : (h : Shape) (ty : Ty) (a : TStmtT) (n m b : ℕ) (j : Jump) (c : Nodes) (k : ℕ) → 16 * statement_levels a ≤ k → nesting c ≤ k → nesting (coded (low_stmt h ty a n m b j) c) ≤ k
  stmt_nests h ty (BlockZ ks body) n m b j c k le l = rw (made_nests ks (coded (low_stmts h ty body n m b j) c)) (stmts_nests h ty body n m b j c k (omega (arith, le)) l)
  stmt_nests h ty EmptyZ n m b j c k le l = l
  stmt_nests h ty (VarsZ vars) n m b j c k le l = vars_nests h vars n m c k (omega (arith, le)) l
  stmt_nests h ty (DoZ x) n m b j c k le l = low_value_nests h x n (n + 1) m c k (omega (arith, le)) l
  stmt_nests h ty (IfZ x a rest) n m b j c k le l =
      let first = stmt_nests h ty a (second x n) (beyond h x m) b j Stop (16 * statement_levels a) (omega arith) (omega arith) in
      let other = other_nests h ty rest (second x n + stmt_temps a) (beyond h x m + length (stmt_sizes h a)) b j Stop (16 * other_levels rest) (omega arith) (omega arith) in
      low_test_nests h x n (n + 1) m _ k (omega (arith, le)) (omega (arith, first, other, le, l))
  stmt_nests h ty (WhileZ x a) n m b j c k le l =
      let body = stmt_nests h ty a (second x n) (beyond h x m) 0 (ToTurn 0) (Again 0 Stop) (16 * statement_levels a) (omega arith) (omega arith) in
      let turn = low_test_nests h x n (n + 1) m (Choose n (coded (low_stmt h ty a (second x n) (beyond h x m) 0 (ToTurn 0)) (Again 0 Stop)) Stop Stop) (16 * max (expression_levels x) (statement_levels a) + 1) (omega arith) (omega (arith, body)) in
      omega (arith, turn, le, l)
  stmt_nests h ty (DoWhileZ a x) n m b j c k le l =
      let body = stmt_nests h ty a n m 1 (ToEnd 0) Stop (16 * statement_levels a) (omega arith) (omega arith) in
      let test = low_test_nests h x (n + stmt_temps a) (n + stmt_temps a + 1) (m + length (stmt_sizes h a)) (Choose (n + stmt_temps a) (Again 0 Stop) Stop Stop) (16 * max (statement_levels a) (expression_levels x) + 1) (omega arith) (omega arith) in
      omega (arith, body, test, le, l)
  stmt_nests h ty (ForZ ks first test step a) n m b j c k le l =
      rw (made_nests ks (coded (low_other h ty first n m b j) (coded (turns h test step a (λ u v. low_stmt h ty a u v 1 (ToEnd 0)) (n + other_temps first) (m + length (other_sizes h first))) c)))
      (other_nests h ty first n m b j _ k (omega (arith, le))
      (turns_nests h test step a (λ u v. low_stmt h ty a u v 1 (ToEnd 0)) (16 * max (maybe_levels test) (max (maybe_levels step) (statement_levels a)))
      (λ u v. stmt_nests h ty a u v 1 (ToEnd 0) Stop (16 * max (maybe_levels test) (max (maybe_levels step) (statement_levels a))) (omega arith) (omega arith))
      (omega arith) (omega arith) (n + other_temps first) (m + length (other_sizes h first)) c k (omega (arith, le)) l))
  stmt_nests h ty (SwitchZ x ks arms) n m b j c k le l =
      let matched = match_nests n 0 (labels_before_default arms) arms in
      let body = arms_nests h ty n arms (second x n) (beyond h x m) 0 (further j) in
      let behind : nesting (coded (made ks) (Block (coded (low_arms h ty n arms (second x n) (beyond h x m) 0 (further j)) Stop) c)) ≤ k = rw (made_nests ks (Block (coded (low_arms h ty n arms (second x n) (beyond h x m) 0 (further j)) Stop) c)) (omega (arith, body, le, l)) in
      low_value_nests h x n (n + 1) m _ k (omega (arith, le)) (omega (arith, matched, behind, le))
  stmt_nests h ty (ReturnZ None) n m b j c k le l = l
  stmt_nests h ty (ReturnZ (Some x)) n m b j c k le l =
      low_value_nests h x n (n + 1) m _ k (omega (arith, le)) (rw (converted_nests ty (is_flag x) n (coded (returned h ty n) c)) (returned_nests h ty n c k (omega (arith, le)) l))
  stmt_nests h ty BreakZ n m b j c k le l = l
  stmt_nests h ty ContinueZ n m b j c k le l = rw (jump_nests j c) l

  other_nests : (h : Shape) (ty : Ty) (a : MaybeZ) (n m b : ℕ) (j : Jump) (c : Nodes) (k : ℕ) → 16 * other_levels a ≤ k → nesting c ≤ k → nesting (coded (low_other h ty a n m b j) c) ≤ k
  other_nests h ty NoneZ n m b j c k le l = l
  other_nests h ty (SomeZ a) n m b j c k le l = stmt_nests h ty a n m b j c k le l

  stmts_nests : (h : Shape) (ty : Ty) (all : TStmtTs) (n m b : ℕ) (j : Jump) (c : Nodes) (k : ℕ) → 16 * statements_levels all ≤ k → nesting c ≤ k → nesting (coded (low_stmts h ty all n m b j) c) ≤ k
  stmts_nests h ty NoZ n m b j c k le l = l
  stmts_nests h ty (MoreZ a rest) n m b j c k le l =
      stmt_nests h ty a n m b j _ k (omega (arith, le)) (stmts_nests h ty rest (n + stmt_temps a) (m + length (stmt_sizes h a)) b j c k (omega (arith, le)) l)

  arms_nests : (h : Shape) (ty : Ty) (t : ℕ) (all : TArmTs) (n m b : ℕ) (j : Jump) → nesting (coded (low_arms h ty t all n m b j) Stop) ≤ 16 * arms_levels all + 1
  arms_nests h ty t NoB n m b j = omega arith
  arms_nests h ty t (MoreB (CaseB label) rest) n m b j = omega (arith, group_nests h ty rest n m b j, arms_nests h ty t rest n m b j)
  arms_nests h ty t (MoreB DefaultB rest) n m b j = omega (arith, group_nests h ty rest n m b j, arms_nests h ty t rest n m b j)
  arms_nests h ty t (MoreB (StmtB a) rest) n m b j = omega (arith, arms_nests h ty t rest (n + stmt_temps a) (m + length (stmt_sizes h a)) b j)

  group_nests : (h : Shape) (ty : Ty) (all : TArmTs) (n m b : ℕ) (j : Jump) → nesting (coded (low_group h ty all n m b j) Stop) ≤ 16 * arms_levels all
  group_nests h ty NoB n m b j = omega arith
  group_nests h ty (MoreB (CaseB label) rest) n m b j = omega arith
  group_nests h ty (MoreB DefaultB rest) n m b j = omega arith
  group_nests h ty (MoreB (StmtB a) rest) n m b j =
      stmt_nests h ty a n m b j _ (16 * arms_levels (MoreB (StmtB a) rest)) (omega arith) (omega (arith, group_nests h ty rest (n + stmt_temps a) (m + length (stmt_sizes h a)) b j))

-- ---- functions

received_nests : (h : Shape) (ty : Ty) (j a : ℕ) (c : Nodes) (k : ℕ) → 2 ≤ k → nesting c ≤ k → nesting (coded (received h ty j a) c) ≤ k
received_nests h ty j a c k e l = either_nests (is_structure ty) _ _ k (copied_on_nests (words h ty) a c k e l) l

all_received_nests : (h : Shape) (tys : List Ty) (j a : ℕ) (c : Nodes) (k : ℕ) → 2 ≤ k → nesting c ≤ k → nesting (coded (all_received h tys j a) c) ≤ k
all_received_nests h [] j a c k e l = l
all_received_nests h (ty ∷ tys) j a c k e l = received_nests h ty j a _ k e (all_received_nests h tys (j + 1) (a + 1) c k e l)

pub function_nests : (h : Shape) (f : TFunctionT) → nesting (low_function h f).body ≤ 16 * (statements_levels f.body + 1)
function_nests h f =
    let body = stmts_nests h f.gives f.body (first_of f.params) (length f.locals) 0 (ToEnd 0) Stop (16 * statements_levels f.body) (omega arith) (omega arith) in
    rw (made_nests f.made (coded (all_received h f.params 0 16) (Block (coded (low_stmts h f.gives f.body (first_of f.params) (length f.locals) 0 (ToEnd 0)) Stop) Stop)))
    (all_received_nests h f.params 0 16 _ (16 * (statements_levels f.body + 1)) (omega arith) (omega (arith, body)))

pub start_nests : (p : ProgramT) → nesting (low_start p).body ≤ 16 * (statements_levels (tstmts p.inits) + 1)
start_nests p = stmts_nests (shape p) VoidY (tstmts p.inits) 16 0 0 (ToEnd 0) Stop (16 * (statements_levels (tstmts p.inits) + 1)) (omega arith) (omega arith)
