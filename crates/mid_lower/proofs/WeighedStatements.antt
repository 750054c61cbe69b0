-- What lowered initialisers, statements and functions weigh: at most 128 a node.
use Rattle.std.proofs.Common.{zero, ℕ, suc, ◌+◌, ◌*◌, ◌≤◌, ◌%◌, ◌^◌, ◌-◌, Bool, true, false, is_some, List, [], ◌∷◌, ◌++◌, length, map, sum_by, Option, Some, None, refl, arith, subst, if◌then◌else◌}
use Rattle.std.proofs.lemmas.List.Sums.{sum_by-cons}
use Rattle.c_types.specs.Types.{Ty, VoidY, IntY, BoolY, EnumY, StructY, UnionY, PointerY, ArrayY}
use Rattle.c_types.specs.Typed.{TExprT, TInitT, OneI, TextI, ListI, TInitTs, NoI, MoreI, TVarT, TStmtT, BlockZ, EmptyZ, VarsZ, DoZ, IfZ, WhileZ, DoWhileZ, ForZ, SwitchZ, ReturnZ, BreakZ, ContinueZ, MaybeZ, NoneZ, SomeZ, TStmtTs, NoZ, MoreZ, CaseB, DefaultB, StmtB, TArmTs, NoB, MoreB}
use Rattle.c_types.specs.Nodes.{filled_nodes, all_filled_nodes, variables_nodes, maybe_typed_nodes, statement_nodes, maybe_statement_nodes, statements_nodes, arms_nodes, function_nodes, program_nodes}
use Rattle.c_types.specs.Programs.{TFunctionT, ProgramT}
use Rattle.c_types.specs.View.{tstmts}
use Rattle.c_types.specs.Kinds.{is_structure}
use Rattle.c_types.specs.Parts.{part_type}
use Rattle.v32_isa.specs.declared.instruction.Two.TheVariants.{IEQ}
use Rattle.mid_code.specs.Runs.{nodes_weight, function_weight, weight}
use Rattle.mid_code.specs.declared.node.Op.TheVariants as o
use Rattle.mid_code.specs.Functions.{DoN, ChooseN, BlockN, LeaveN, AgainN, ReturnN, listed}
use Rattle.lower_trees.specs.Shape.{Shape, shape, words, literal_words}
use Rattle.lower_trees.specs.Flags.{is_flag}
use Rattle.lower_trees.specs.Pieces.{Piece, listing}
use Rattle.lower_trees.specs.Parts.{one, from, to, item, other, result_at, param_at, first_param, copied, copied_between, copied_on, zeroed, converted, made}
use Rattle.lower_trees.specs.Expressions.{second, beyond, low_value, low_test}
use Rattle.lower_trees.specs.Initialisers.{address_of, part_at, cell_filled, part_filled, part_zeroed, low_text, low_rest, low_init, low_inits, object_to, low_vars}
use Rattle.lower_trees.specs.Statements.{Jump, ToEnd, ToTurn, further, labels_before_default, jump, tested_first, chosen_by, low_dropped, turn_of, turns, low_match, low_label, returned, low_stmt, low_other, low_stmts, low_arms, low_group}
use Rattle.lower_trees.specs.Lowered.{first_of, lowered, received, all_received}
use Rattle.lower_trees.specs.ListedFunctions.{low_function, low_start}
use Rattle.lower_trees.specs.Counts.{init_temps, init_sizes, behind_address, maybe_temps, stmt_temps, other_temps, maybe_sizes, stmt_sizes, other_sizes}
use Rattle.mid_lower.proofs.Weights.{weigh, both, three, four, copied_weighs, between_weighs, copied_on_weighs, converted_weighs, made_weighs, zeroed_weighs}
use Rattle.mid_lower.proofs.WeighedExpressions.{value_weighs, test_weighs}
use Rattle.mid_lower.proofs.ProgramsListed.{inits_nodes, lowered_by}

-- ---- initialisers

at_weighs : (p offset : ℕ) → weigh (listing (part_at p offset)) ≤ 16
at_weighs p zero = omega arith
at_weighs p (suc offset) = omega arith

cell_weighs : (p offset : ℕ) → weigh (listing (cell_filled p offset)) ≤ 24
cell_weighs p zero = omega arith
cell_weighs p (suc offset) = omega arith

filled_weighs : (h : Shape) (ty : Ty) (p offset : ℕ) → weigh (listing (part_filled h ty p offset)) ≤ 120
filled_weighs h ty p offset = by (is_structure ty)
  where
    by : (b : Bool) → weigh (if b then listing (part_at p offset) ++ listing (copied_on (words h ty) item) else listing (cell_filled p offset)) ≤ 120
    by true =
        let e = both (listing (part_at p offset)) (listing (copied_on (words h ty) item)) in
        let f = at_weighs p offset in
        let g = copied_on_weighs (words h ty) item in
        omega (arith, e, f, g)
    by false = let e = cell_weighs p offset in omega (arith, e)

cleared_weighs : (p offset size : ℕ) → weigh (listing (part_zeroed p offset size)) ≤ 88
cleared_weighs p offset zero = omega arith
cleared_weighs p offset (suc left) =
    let e = both (listing (part_at p offset)) (listing (zeroed (suc left))) in let f = at_weighs p offset in let g = zeroed_weighs (suc left) in omega (arith, e, f, g)

text_weighs : (h : Shape) (number size p offset : ℕ) → weigh (listing (low_text h number size p offset)) ≤ 192
text_weighs h number size p offset =
    let rest = listing (part_zeroed p ((offset + literal_words h number) % 2 ^ 32) (size - literal_words h number)) in
    let e = four (DoN (o.Literal from number) ∷ []) (listing (part_at p offset)) (listing (copied (literal_words h number))) rest in
    let f = at_weighs p offset in
    let g = copied_weighs (literal_words h number) in
    let q = cleared_weighs p ((offset + literal_words h number) % 2 ^ 32) (size - literal_words h number) in
    omega (arith, e, f, g, q)

rest_weighs : (h : Shape) (ty : Ty) (k p offset : ℕ) → weigh (listing (low_rest h ty k p offset)) ≤ 88
rest_weighs h VoidY k p offset = omega arith
rest_weighs h IntY k p offset = omega arith
rest_weighs h BoolY k p offset = omega arith
rest_weighs h (EnumY e) k p offset = omega arith
rest_weighs h (StructY s) k p offset = omega arith
rest_weighs h (UnionY s) k p offset = omega arith
rest_weighs h (PointerY to) k p offset = omega arith
rest_weighs h (ArrayY of len) k p offset = cleared_weighs p offset (words h of * (len - k) % 2 ^ 32)

mutual
  init_weighs : (h : Shape) (i : TInitT) (ty : Ty) (p offset n m : ℕ) → weigh (listing (low_init h i ty p offset n m)) ≤ 128 * filled_nodes i
  init_weighs h (OneI x) ty p offset n m =
      let e = three (listing (low_value h x item n m)) (listing (converted ty (is_flag x) item)) (listing (part_filled h ty p offset)) in
      let f = value_weighs h x item n m in
      let g = converted_weighs ty (is_flag x) item in
      let q = filled_weighs h ty p offset in
      omega (arith, e, f, g, q)
  init_weighs h (TextI number) ty p offset n m = let e = text_weighs h number (words h ty) p offset in omega (arith, e)
  init_weighs h (ListI items) ty p offset n m = let e = inits_weigh h items ty 0 p offset n m in omega (arith, e)

  inits_weigh : (h : Shape) (items : TInitTs) (ty : Ty) (k p offset n m : ℕ) → weigh (listing (low_inits h items ty k p offset n m)) ≤ 128 * all_filled_nodes items + 88
  inits_weigh h NoI ty k p offset n m = let e = rest_weighs h ty k p offset in omega (arith, e)
  inits_weigh h (MoreI i rest) ty k p offset n m =
      let u = (offset + words h (part_type h.layouts ty k)) % 2 ^ 32 in
      let e = both (listing (low_init h i (part_type h.layouts ty k) p offset n m)) (listing (low_inits h rest ty (k + 1) p u (n + init_temps i) (m + length (init_sizes h i)))) in
      let f = init_weighs h i (part_type h.layouts ty k) p offset n m in
      let g = inits_weigh h rest ty (k + 1) p u (n + init_temps i) (m + length (init_sizes h i)) in
      omega (arith, e, f, g)

object_weighs : (global : Bool) (number t : ℕ) → weigh (listing (object_to global number t)) ≤ 8
object_weighs true number t = omega arith
object_weighs false number t = omega arith

vars_weigh : (h : Shape) (vs : List TVarT) (n m : ℕ) → weigh (listing (low_vars h vs n m)) ≤ 128 * variables_nodes vs
vars_weigh h [] n m = omega arith
vars_weigh h (v ∷ vs) n m =
    let a = listing (object_to v.global v.object (address_of v.init n)) in
    let b = listing (low_init h v.init v.ty (address_of v.init n) 0 (behind_address v.init n) m) in
    let e = three a b (listing (low_vars h vs (behind_address v.init n + init_temps v.init) (m + length (init_sizes h v.init)))) in
    let f = object_weighs v.global v.object (address_of v.init n) in
    let g = init_weighs h v.init v.ty (address_of v.init n) 0 (behind_address v.init n) m in
    let r = vars_weigh h vs (behind_address v.init n + init_temps v.init) (m + length (init_sizes h v.init)) in
    omega (arith, e, f, g, r)

-- ---- statements

jump_weighs : (j : Jump) → weigh (listing (jump j)) ≤ 8
jump_weighs (ToEnd k) = omega arith
jump_weighs (ToTurn k) = omega arith

returned_weighs : (h : Shape) (ty : Ty) (t : ℕ) → weigh (listing (returned h ty t)) ≤ 112
returned_weighs h ty t = by (is_structure ty)
  where
    by : (b : Bool) → weigh (if b then listing (copied_between (words h ty) t result_at) ++ (ReturnN None ∷ []) else ReturnN (Some t) ∷ []) ≤ 112
    by true =
        let e = both (listing (copied_between (words h ty) t result_at)) (ReturnN None ∷ []) in
        let f = between_weighs (words h ty) t result_at in
        omega (arith, e, f)
    by false = omega arith

first_weighs : (h : Shape) (test : Option TExprT) (n m : ℕ) → weigh (listing (tested_first h test n m)) ≤ 128 * maybe_typed_nodes test
first_weighs h None n m = omega arith
first_weighs h (Some x) n m = test_weighs h x n (n + 1) m

dropped_weighs : (h : Shape) (step : Option TExprT) (n m : ℕ) → weigh (listing (low_dropped h step n m)) ≤ 128 * maybe_typed_nodes step
dropped_weighs h None n m = omega arith
dropped_weighs h (Some x) n m = let e = value_weighs h x n (n + 1) m in omega (arith, e)

chosen_weighs : (tests : Bool) (n : ℕ) (turn : Piece) → weigh (listing (chosen_by tests n turn)) ≤ weigh (listing turn) + 8
chosen_weighs true n turn = omega arith
chosen_weighs false n turn = omega arith

-- labels among arms
abbrev labels : TArmTs → ℕ
labels NoB = 0
labels (MoreB (CaseB k) rest) = labels rest + 1
labels (MoreB DefaultB rest) = labels rest + 1
labels (MoreB (StmtB a) rest) = labels rest

match_weighs : (t i d : ℕ) (arms : TArmTs) → weigh (listing (low_match t i d arms)) ≤ 40 * labels arms + 8
match_weighs t i d NoB = omega arith
match_weighs t i d (MoreB (CaseB k) rest) =
    let a = (DoN (o.Const other k) ∷ DoN (o.Two IEQ other t other) ∷ ChooseN other (listed (DoN (o.Const t i) ∷ LeaveN 0 ∷ [])) (listed []) ∷ []) in
    let e = both a (listing (low_match t (suc i) d rest)) in
    let f = match_weighs t (suc i) d rest in
    omega (arith, e, f)
match_weighs t i d (MoreB DefaultB rest) = let f = match_weighs t (suc i) d rest in omega (arith, f)
match_weighs t i d (MoreB (StmtB a) rest) = let f = match_weighs t i d rest in omega (arith, f)

label_weighs : (t : ℕ) (a : Piece) → weigh (listing (low_label t a)) ≤ weigh (listing a) + 16
label_weighs t a = omega arith

mutual
  stmt_weighs : (h : Shape) (ty : Ty) (a : TStmtT) (n m b : ℕ) (j : Jump) → weigh (listing (low_stmt h ty a n m b j)) ≤ 128 * statement_nodes a
  stmt_weighs h ty (BlockZ ks body) n m b j =
      let e = both (listing (made ks)) (listing (low_stmts h ty body n m b j)) in
      let f = made_weighs ks in
      let g = stmts_weigh h ty body n m b j in
      omega (arith, e, f, g)
  stmt_weighs h ty EmptyZ n m b j = omega arith
  stmt_weighs h ty (VarsZ vars) n m b j = let e = vars_weigh h vars n m in omega (arith, e)
  stmt_weighs h ty (DoZ x) n m b j = let e = value_weighs h x n (n + 1) m in omega (arith, e)
  stmt_weighs h ty (IfZ x a rest) n m b j =
      let first = listing (low_stmt h ty a (second x n) (beyond h x m) b j) in
      let last = listing (low_other h ty rest (second x n + stmt_temps a) (beyond h x m + length (stmt_sizes h a)) b j) in
      let e = both (listing (low_test h x n (n + 1) m)) (ChooseN n (listed first) (listed last) ∷ []) in
      let f = test_weighs h x n (n + 1) m in
      let g = stmt_weighs h ty a (second x n) (beyond h x m) b j in
      let r = other_weighs h ty rest (second x n + stmt_temps a) (beyond h x m + length (stmt_sizes h a)) b j in
      omega (arith, e, f, g, r)
  stmt_weighs h ty (WhileZ x a) n m b j =
      let body = listing (low_stmt h ty a (second x n) (beyond h x m) 0 (ToTurn 0)) in
      let turn = body ++ (AgainN 0 ∷ []) in
      let e = both (listing (low_test h x n (n + 1) m)) (ChooseN n (listed turn) (listed []) ∷ []) in
      let d = both body (AgainN 0 ∷ []) in
      let f = test_weighs h x n (n + 1) m in
      let g = stmt_weighs h ty a (second x n) (beyond h x m) 0 (ToTurn 0) in
      omega (arith, e, d, f, g)
  stmt_weighs h ty (DoWhileZ a x) n m b j =
      let u = n + stmt_temps a in
      let v = m + length (stmt_sizes h a) in
      let body = listing (low_stmt h ty a n m 1 (ToEnd 0)) in
      let e = three (BlockN (listed body) ∷ []) (listing (low_test h x u (u + 1) v)) (ChooseN u (listed (AgainN 0 ∷ [])) (listed []) ∷ []) in
      let f = test_weighs h x u (u + 1) v in
      let g = stmt_weighs h ty a n m 1 (ToEnd 0) in
      omega (arith, e, f, g)
  stmt_weighs h ty (ForZ ks first test step a) n m b j =
      let c = n + other_temps first in
      let d = m + length (other_sizes h first) in
      let u = c + maybe_temps test in
      let v = d + length (maybe_sizes h test) in
      let body = listing (low_stmt h ty a u v 1 (ToEnd 0)) in
      let dropped = low_dropped h step (u + stmt_temps a) (v + length (stmt_sizes h a)) in
      let turn = turn_of (low_stmt h ty a u v 1 (ToEnd 0)) dropped in
      let e = three (listing (made ks)) (listing (low_other h ty first n m b j)) (listing (turns h test step a (λ u v. low_stmt h ty a u v 1 (ToEnd 0)) c d)) in
      let f = made_weighs ks in
      let g = other_weighs h ty first n m b j in
      let p = both (listing (tested_first h test c d)) (listing (chosen_by (is_some test) c turn)) in
      let q = chosen_weighs (is_some test) c turn in
      let r = three (BlockN (listed body) ∷ []) (listing dropped) (AgainN 0 ∷ []) in
      let s = first_weighs h test c d in
      let w = dropped_weighs h step (u + stmt_temps a) (v + length (stmt_sizes h a)) in
      let x = stmt_weighs h ty a u v 1 (ToEnd 0) in
      omega (arith, e, f, g, p, q, r, s, w, x)
  stmt_weighs h ty (SwitchZ x ks arms) n m b j =
      let tests = listing (low_match n 0 (labels_before_default arms) arms) in
      let inside = listing (low_arms h ty n arms (second x n) (beyond h x m) 0 (further j)) in
      let e = four (listing (low_value h x n (n + 1) m)) (BlockN (listed tests) ∷ DoN (o.Const one 1) ∷ []) (listing (made ks)) (BlockN (listed inside) ∷ []) in
      let f = value_weighs h x n (n + 1) m in
      let g = match_weighs n 0 (labels_before_default arms) arms in
      let p = made_weighs ks in
      let q = arms_weigh h ty n arms (second x n) (beyond h x m) 0 (further j) in
      omega (arith, e, f, g, p, q)
  stmt_weighs h ty (ReturnZ None) n m b j = omega arith
  stmt_weighs h ty (ReturnZ (Some x)) n m b j =
      let e = three (listing (low_value h x n (n + 1) m)) (listing (converted ty (is_flag x) n)) (listing (returned h ty n)) in
      let f = value_weighs h x n (n + 1) m in
      let g = converted_weighs ty (is_flag x) n in
      let p = returned_weighs h ty n in
      omega (arith, e, f, g, p)
  stmt_weighs h ty BreakZ n m b j = omega arith
  stmt_weighs h ty ContinueZ n m b j = let e = jump_weighs j in omega (arith, e)

  other_weighs : (h : Shape) (ty : Ty) (a : MaybeZ) (n m b : ℕ) (j : Jump) → weigh (listing (low_other h ty a n m b j)) ≤ 128 * maybe_statement_nodes a
  other_weighs h ty NoneZ n m b j = omega arith
  other_weighs h ty (SomeZ a) n m b j = stmt_weighs h ty a n m b j

  pub stmts_weigh : (h : Shape) (ty : Ty) (body : TStmtTs) (n m b : ℕ) (j : Jump) → weigh (listing (low_stmts h ty body n m b j)) ≤ 128 * statements_nodes body
  stmts_weigh h ty NoZ n m b j = omega arith
  stmts_weigh h ty (MoreZ a rest) n m b j =
      let e = both (listing (low_stmt h ty a n m b j)) (listing (low_stmts h ty rest (n + stmt_temps a) (m + length (stmt_sizes h a)) b j)) in
      let f = stmt_weighs h ty a n m b j in
      let g = stmts_weigh h ty rest (n + stmt_temps a) (m + length (stmt_sizes h a)) b j in
      omega (arith, e, f, g)

  -- the arms behind their labels, and those before the first label; each label leaves room for its test
  arms_weigh : (h : Shape) (ty : Ty) (t : ℕ) (arms : TArmTs) (n m b : ℕ) (j : Jump) → weigh (listing (low_arms h ty t arms n m b j)) + weigh (listing (low_group h ty arms n m b j)) + 112 * labels arms ≤ 128 * arms_nodes arms
  arms_weigh h ty t NoB n m b j = omega arith
  arms_weigh h ty t (MoreB (CaseB k) rest) n m b j =
      let e = both (listing (low_label t (low_group h ty rest n m b j))) (listing (low_arms h ty t rest n m b j)) in
      let f = label_weighs t (low_group h ty rest n m b j) in
      let g = arms_weigh h ty t rest n m b j in
      omega (arith, e, f, g)
  arms_weigh h ty t (MoreB DefaultB rest) n m b j =
      let e = both (listing (low_label t (low_group h ty rest n m b j))) (listing (low_arms h ty t rest n m b j)) in
      let f = label_weighs t (low_group h ty rest n m b j) in
      let g = arms_weigh h ty t rest n m b j in
      omega (arith, e, f, g)
  arms_weigh h ty t (MoreB (StmtB a) rest) n m b j =
      let e = both (listing (low_stmt h ty a n m b j)) (listing (low_group h ty rest (n + stmt_temps a) (m + length (stmt_sizes h a)) b j)) in
      let f = stmt_weighs h ty a n m b j in
      let g = arms_weigh h ty t rest (n + stmt_temps a) (m + length (stmt_sizes h a)) b j in
      omega (arith, e, f, g)

-- ---- functions

received_weighs : (h : Shape) (ty : Ty) (k a : ℕ) → weigh (listing (received h ty k a)) ≤ 112
received_weighs h ty k a = by (is_structure ty)
  where
    by : (b : Bool) → weigh (if b then (DoN (o.Local to k) ∷ []) ++ listing (copied_on (words h ty) a) else DoN (o.Local (param_at k) k) ∷ DoN (o.Store (param_at k) a) ∷ []) ≤ 112
    by true = let e = both (DoN (o.Local to k) ∷ []) (listing (copied_on (words h ty) a)) in let f = copied_on_weighs (words h ty) a in omega (arith, e, f)
    by false = omega arith

params_weigh : (h : Shape) (tys : List Ty) (k a : ℕ) → weigh (listing (all_received h tys k a)) ≤ 112 * length tys
params_weigh h [] k a = omega arith
params_weigh h (ty ∷ tys) k a =
    let e = both (listing (received h ty k a)) (listing (all_received h tys (k + 1) (a + 1))) in
    let f = received_weighs h ty k a in
    let g = params_weigh h tys (k + 1) (a + 1) in
    omega (arith, e, f, g)

function_weighs : (h : Shape) (f : TFunctionT) → function_weight (low_function h f) ≤ 128 * function_nodes f
function_weighs h f =
    let inside = listing (low_stmts h f.gives f.body (first_of f.params) (length f.locals) 0 (ToEnd 0)) in
    let e = three (listing (made f.made)) (listing (all_received h f.params 0 first_param)) (BlockN (listed inside) ∷ []) in
    let g = made_weighs f.made in
    let p = params_weigh h f.params 0 first_param in
    let q = stmts_weigh h f.gives f.body (first_of f.params) (length f.locals) 0 (ToEnd 0) in
    omega (arith, e, g, p, q)

functions_weigh : (h : Shape) (fs : List TFunctionT) → sum_by function_weight (map (low_function h) fs) ≤ 128 * sum_by function_nodes fs
functions_weigh h [] = omega arith
functions_weigh h (f ∷ fs) =
    let e = sum_by-cons function_weight (low_function h f) (map (low_function h) fs) in
    let d = sum_by-cons function_nodes f fs in
    let g = function_weighs h f in
    let r = functions_weigh h fs in
    omega (arith, e, d, g, r)

pub weighs : (p : ProgramT) → weight (lowered p) ≤ 128 * program_nodes p
weighs p =
    let h = shape p in
    let start = low_start h (tstmts p.inits) in
    let functions = map (low_function h) p.functions in
    let s = stmts_weigh h VoidY (tstmts p.inits) first_param 0 0 (ToEnd 0) in
    let n = inits_nodes p.inits in
    let f = functions_weigh h p.functions in
    let all : nodes_weight start.body + sum_by function_weight functions ≤ 128 * program_nodes p = omega (arith, s, n, f) in
    subst (λ x. weight x ≤ 128 * program_nodes p) (lowered_by p start functions (map (λ g. g.1) p.globals) p.literals p.main refl refl refl refl refl) all
