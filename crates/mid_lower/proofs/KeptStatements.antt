-- Lowered initialisers and statements of a program keep code what mid code has to be.
use Rattle.std.proofs.Common.{◌≡◌, ℕ, zero, suc, ◌+◌, ◌-◌, ◌*◌, ◌%◌, ◌<◌, ◌≤◌, ◌^◌, Bool, true, false, ◌&&◌, List, [], ◌∷◌, ◌++◌, length, length-append, slice_get, Option, Some, None, refl, ◌∙◌, arith}
use Rattle.std.proofs.Math.Nat.{mod-lt}
use Rattle.c_types.specs.Types.{Ty, VoidY, IntY, BoolY, EnumY, StructY, UnionY, PointerY, ArrayY}
use Rattle.c_types.specs.Typed.{TExprT, TInitT, OneI, TextI, ListI, TInitTs, NoI, MoreI, TVarT, TStmtT, BlockZ, EmptyZ, VarsZ, DoZ, IfZ, WhileZ, DoWhileZ, ForZ, SwitchZ, ReturnZ, BreakZ, ContinueZ, MaybeZ, NoneZ, SomeZ, TStmtTs, NoZ, MoreZ, CaseB, DefaultB, StmtB, TArmTs, NoB, MoreB}
use Rattle.c_types.specs.Nodes.{statement_nodes, maybe_statement_nodes, statements_nodes, arms_nodes}
use Rattle.c_types.specs.Kinds.{is_structure}
use Rattle.c_types.specs.Parts.{part_type}
use Rattle.c_stmts.specs.Slots.{Slots, next_slot, later_slots, slots_of}
use Rattle.c_stmts.specs.State.{Labels, no_labels, with_label}
use Rattle.c_rules.specs.Kinds.{is_int}
use Rattle.c_facts.specs.Sound.{Scene, takes_text, FillsAs, FillEach, IsObject, AreFilled, AreObjects, MayTest, MayValue, IsStatement, MayState, AreStatements, AreArms}
use Rattle.c_facts.specs.Words.{FillsInWords, AllFillInWords, VariablesInWords, MaybeInWords, StatementInWords, MaybeStatementInWords, StatementsInWords, ArmsInWords}
use Rattle.v32_isa.specs.declared.instruction.Two.TheVariants.{IEQ, ISUB}
use Rattle.mid_code.specs.Code.{Stop, GlobalO, LiteralO, TwoO, Do, Choose}
use Rattle.mid_code.specs.Invariants.{IsLoop, AllOf}
use Rattle.lower_trees.specs.Shape.{Shape, words, literal_words}
use Rattle.lower_trees.specs.Flags.{is_flag}
use Rattle.lower_trees.specs.Pieces.{Nodes, coded, Piece}
use Rattle.lower_trees.specs.Parts.{one, from, to, other, item, result_at}
use Rattle.lower_trees.specs.Expressions.{second, beyond}
use Rattle.lower_trees.specs.Initialisers.{part_at, cell_filled, part_filled, part_zeroed, low_text, low_rest, low_init, low_inits, address_of, object_to, low_vars}
use Rattle.lower_trees.specs.Statements.{Jump, ToEnd, ToTurn, further, jump, low_chosen, low_dropped, labels_before_default, low_match, returned, low_stmt, low_other, low_stmts, low_arms, low_group, turn_of}
use Rattle.lower_trees.specs.Counts.{init_temps, inits_temps, behind_address, vars_temps, maybe_temps, stmt_temps, other_temps, stmts_temps, arms_temps, value_sizes, init_sizes, inits_sizes, vars_sizes, maybe_sizes, stmt_sizes, other_sizes, stmts_sizes, arms_sizes}
use Rattle.mid_lower.proofs.Kept.{Site, Good, Keeps, good_stop, both, alone, none, either_kept, op_kept, choose_kept, block_kept, loop_kept, leave_kept, again_kept, return_kept, fixed, k_const, k_two, k_move, k_local, k_store, words_small, moved_by_kept, copied_kept, between_kept, copied_on_kept, zeroed_kept, converted_kept, made_kept}
use Rattle.mid_lower.proofs.KeptExpressions.{Linked, there, same_option, low_value_kept, low_test_kept}

-- ---- initialisers

part_at_kept : {ls : List Bool} (s : Site) (p offset : ℕ) → p < s.temps → offset < 2 ^ 32 → Keeps s ls (coded (part_at p offset))
part_at_kept s p zero lp small = k_move to p (fixed s 4 (omega arith)) lp
part_at_kept s p (suc offset) lp small = moved_by_kept to p (suc offset) (fixed s 4 (omega arith)) lp small

cell_filled_kept : {ls : List Bool} (s : Site) (p offset : ℕ) → p < s.temps → offset < 2 ^ 32 → Keeps s ls (coded (cell_filled p offset))
cell_filled_kept s p zero lp small = k_store p item lp (fixed s 6 (omega arith))
cell_filled_kept s p (suc offset) lp small = both (moved_by_kept to p (suc offset) (fixed s 4 (omega arith)) lp small) (k_store to item (fixed s 4 (omega arith)) (fixed s 6 (omega arith)))

part_filled_kept : {ls : List Bool} (s : Site) (h : Shape) (ty : Ty) (p offset : ℕ) → p < s.temps → offset < 2 ^ 32 → Keeps s ls (coded (part_filled h ty p offset))
part_filled_kept s h ty p offset lp small =
    either_kept (is_structure ty) (both (part_at_kept s p offset lp small) (copied_on_kept s (words h ty) item (words_small h ty) (fixed s 6 (omega arith))))
    (cell_filled_kept s p offset lp small)

part_zeroed_kept : {ls : List Bool} (s : Site) (p offset size : ℕ) → p < s.temps → offset < 2 ^ 32 → size < 2 ^ 32 → Keeps s ls (coded (part_zeroed p offset size))
part_zeroed_kept s p offset zero lp small few = none
part_zeroed_kept s p offset (suc left) lp small few = both (part_at_kept s p offset lp small) (zeroed_kept s (suc left) few)

low_text_kept : {ls : List Bool} (s : Site) (h : Shape) (number size p offset : ℕ) → number < length s.code.literals → size < 2 ^ 32 → p < s.temps → offset < 2 ^ 32 → literal_words h number < 2 ^ 32 → Keeps s ls (coded (low_text h number size p offset))
low_text_kept s h number size p offset below few lp small text =
    both (op_kept (LiteralO from number) below tt (fixed s 3 (omega arith), tt)) (both (part_at_kept s p offset lp small) (both (copied_kept s (literal_words h number) text)
    (part_zeroed_kept s p ((offset + literal_words h number) % 2 ^ 32) (size - literal_words h number) lp (mod-lt _ (omega arith)) (omega arith))))

low_rest_kept : {ls : List Bool} (s : Site) (h : Shape) (ty : Ty) (k p offset : ℕ) → p < s.temps → offset < 2 ^ 32 → Keeps s ls (coded (low_rest h ty k p offset))
low_rest_kept s h (ArrayY of len) k p offset lp small = part_zeroed_kept s p offset (words h of * (len - k) % 2 ^ 32) lp small (mod-lt _ (omega arith))
low_rest_kept s h VoidY k p offset lp small = none
low_rest_kept s h IntY k p offset lp small = none
low_rest_kept s h BoolY k p offset lp small = none
low_rest_kept s h (EnumY e) k p offset lp small = none
low_rest_kept s h (StructY e) k p offset lp small = none
low_rest_kept s h (UnionY e) k p offset lp small = none
low_rest_kept s h (PointerY t) k p offset lp small = none

no_text : (b : Bool) → (b && false) ≡ true → ⊥
no_text true e = cc
no_text false e = cc

text_there : (ts : List (List ℕ)) (number : ℕ) (ty : Ty) → takes_text ty (slice_get ts number) ≡ true → number < length ts
text_there [] number (ArrayY of len) is = absurd (no_text (is_int of) is)
text_there [] number VoidY is = absurd (cc)
text_there [] number IntY is = absurd (cc)
text_there [] number BoolY is = absurd (cc)
text_there [] number (EnumY e) is = absurd (cc)
text_there [] number (StructY e) is = absurd (cc)
text_there [] number (UnionY e) is = absurd (cc)
text_there [] number (PointerY t) is = absurd (cc)
text_there (t ∷ ts) zero ty is = omega arith
text_there (t ∷ ts) (suc k) ty is = let lt = text_there ts k ty is in omega arith

mutual
  init_kept : (s : Site) (z : Scene) (h : Shape) → Linked s z h → (g : Bool) (i : TInitT) (o : Option Ty) → FillsAs z g i o → FillsInWords i → (ty : Ty) (p offset : ℕ) → offset < 2 ^ 32 → p < s.temps
      → (ls : List Bool) (n m : ℕ) → n + init_temps i ≤ s.temps → m + length (init_sizes h i) ≤ s.locals → Keeps s ls (coded (low_init h i ty p offset n m))
  init_kept s z h link g (OneI x) None is w ty p offset lo lp ls n m ln lm = absurd is
  init_kept s z h link g (TextI number) None is w ty p offset lo lp ls n m ln lm = absurd is
  init_kept s z h link g (ListI items) None is w ty p offset lo lp ls n m ln lm = absurd is
  init_kept s z h link g (OneI x) (Some to_type) is w ty p offset lo lp ls n m ln lm =
      let v = low_value_kept s z h link x (is.0).typed w in
      both (v.at ls item n m (fixed s 6 (omega arith)) ln lm) (both (converted_kept ty (is_flag x) item (fixed s 6 (omega arith))) (part_filled_kept s h ty p offset lp lo))
  init_kept s z h link g (TextI number) (Some to_type) is w ty p offset lo lp ls n m ln lm =
      let below = text_there z.literals number to_type is in
      low_text_kept s h number (words h ty) p offset (omega (arith, below, link.literals)) (words_small h ty) lp lo (link.texts number)
  init_kept s z h link g (ListI items) (Some to_type) is w ty p offset lo lp ls n m ln lm =
      inits_kept s z h link g items (slots_of z.layouts to_type) is.1 w ty 0 p offset lo lp ls n m ln lm

  inits_kept : (s : Site) (z : Scene) (h : Shape) → Linked s z h → (g : Bool) (items : TInitTs) (o : Slots) → FillEach z g items o → AllFillInWords items → (ty : Ty) (k p offset : ℕ) → offset < 2 ^ 32 → p < s.temps
      → (ls : List Bool) (n m : ℕ) → n + inits_temps items ≤ s.temps → m + length (inits_sizes h items) ≤ s.locals → Keeps s ls (coded (low_inits h items ty k p offset n m))
  inits_kept s z h link g NoI o is w ty k p offset lo lp ls n m ln lm = low_rest_kept s h ty k p offset lp lo
  inits_kept s z h link g (MoreI i rest) o is w ty k p offset lo lp ls n m ln lm =
      let more = length-append (init_sizes h i) (inits_sizes h rest) in
      both (init_kept s z h link g i (next_slot o) is.0 w.0 (part_type h.layouts ty k) p offset lo lp ls n m (omega arith) (omega (arith, more)))
      (inits_kept s z h link g rest (later_slots o) is.1 w.1 ty (k + 1) p ((offset + words h (part_type h.layouts ty k)) % 2 ^ 32) (mod-lt _ (omega arith)) lp ls (n + init_temps i) (m + length (init_sizes h i)) (omega arith) (omega (arith, more)))

behind : (i : TInitT) (n : ℕ) → behind_address i n ≡ n + behind_address i 0
behind (OneI x) n = omega arith
behind (TextI number) n = omega arith
behind (ListI items) n = omega arith

address_small : (s : Site) (i : TInitT) (n : ℕ) → behind_address i n ≤ s.temps → address_of i n < s.temps
address_small s (OneI x) n ln = omega arith
address_small s (TextI number) n ln = fixed s 7 (omega arith)
address_small s (ListI items) n ln = fixed s 7 (omega arith)

object_kept : {ls : List Bool} (s : Site) (z : Scene) (h : Shape) → Linked s z h → (b g : Bool) (number t : ℕ) (ty : Ty) → b ≡ g → IsObject z g number ty → t < s.temps → Keeps s ls (coded (object_to b number t))
object_kept s z h link true true number t ty e is lt = let below = there (λ g. g.1) z.globals number _ is.0 in op_kept (GlobalO t number) (omega (arith, below, link.globals)) tt (lt, tt)
object_kept s z h link false false number t ty e is lt = let below = there (λ k. k) z.locals number _ (same_option (slice_get z.locals number) ∙ is.0) in k_local t number lt (omega (arith, below, link.locals))
object_kept s z h link true false number t ty e is lt = absurd (cc)
object_kept s z h link false true number t ty e is lt = absurd (cc)

pub vars_kept : (s : Site) (z : Scene) (h : Shape) → Linked s z h → (g : Bool) (vs : List TVarT) → AreFilled z g vs → VariablesInWords vs
    → (ls : List Bool) (n m : ℕ) → n + vars_temps vs ≤ s.temps → m + length (vars_sizes h vs) ≤ s.locals → Keeps s ls (coded (low_vars h vs n m))
vars_kept s z h link g [] is w ls n m ln lm = none
vars_kept s z h link g (v ∷ vs) is w ls n m ln lm =
    let more = length-append (init_sizes h v.init) (vars_sizes h vs) in
    let b = behind v.init n in
    let a = address_small s v.init n (omega arith) in
    both (object_kept s z h link v.global g v.object (address_of v.init n) v.ty (is.0).kind (is.0).object a)
    (both (init_kept s z h link g v.init (Some v.ty) (is.0).filled (w.0).1 v.ty (address_of v.init n) 0 (omega arith) a ls (behind_address v.init n) m (omega arith) (omega (arith, more)))
    (vars_kept s z h link g vs is.1 w.1 ls (behind_address v.init n + init_temps v.init) (m + length (init_sizes h v.init)) (omega arith) (omega (arith, more))))

-- ---- statements

-- the part that `continue` goes to is there
abbrev pub JumpsTo : List Bool → Jump → Type 0
JumpsTo ls (ToEnd k) = k < length ls
JumpsTo ls (ToTurn k) = IsLoop ls k

further_there : (ls : List Bool) (b : Bool) (j : Jump) → JumpsTo ls j → JumpsTo (b ∷ ls) (further j)
further_there ls b (ToEnd k) is = omega arith
further_there ls b (ToTurn k) is = is

jump_kept : {s : Site} {ls : List Bool} (j : Jump) → JumpsTo ls j → Keeps s ls (coded (jump j))
jump_kept (ToEnd k) is = leave_kept k is
jump_kept (ToTurn k) is = again_kept k is

pub objects_there : (s : Site) (z : Scene) (h : Shape) → Linked s z h → (least : ℕ) (ks : List ℕ) → AreObjects z least ks → AllOf (λ k. k < s.locals) ks
objects_there s z h link least [] is = tt
objects_there s z h link least (k ∷ ks) is = (omega (arith, is.1, link.locals), objects_there s z h link (k + 1) ks is.2)

labels_few : (arms : TArmTs) → labels_before_default arms ≤ arms_nodes arms
labels_few NoB = omega arith
labels_few (MoreB (CaseB label) rest) = let few = labels_few rest in omega arith
labels_few (MoreB DefaultB rest) = omega arith
labels_few (MoreB (StmtB a) rest) = let few = labels_few rest in omega arith

match_good : (s : Site) (ls : List Bool) (t i d : ℕ) (arms : TArmTs) → ArmsInWords arms → t < s.temps → i + arms_nodes arms < 2 ^ 32 → d < 2 ^ 32 → Good s (false ∷ ls) (coded (low_match t i d arms) Stop)
match_good s ls t i d NoB w lt few small = alone (k_const t d lt small)
match_good s ls t i d (MoreB (CaseB label) rest) w lt few small =
    let held = both (k_const other label (fixed s 5 (omega arith)) w.0) (both (k_two IEQ other t other (fixed s 5 (omega arith)) lt (fixed s 5 (omega arith)))
    (choose_kept {s = s} {ls = false ∷ ls} other (fixed s 5 (omega arith)) (alone (both (k_const t i lt (omega arith)) (leave_kept {s = s} {ls = false ∷ ls} 0 (omega arith)))) (good_stop s (false ∷ ls)))) in
    held.keep _ (match_good s ls t (suc i) d rest w.1 lt (omega arith) small)
match_good s ls t i d (MoreB DefaultB rest) w lt few small = match_good s ls t (suc i) d rest w.1 lt (omega arith) small
match_good s ls t i d (MoreB (StmtB a) rest) w lt few small = match_good s ls t i d rest w.1 lt (omega arith) small

returned_kept : {ls : List Bool} (s : Site) (h : Shape) (ty : Ty) (t : ℕ) → t < s.temps → Keeps s ls (coded (returned h ty t))
returned_kept s h ty t lt =
    either_kept (is_structure ty) (both (between_kept s (words h ty) t result_at (words_small h ty) lt (fixed s 8 (omega arith))) (return_kept None tt)) (return_kept (Some t) (lt, tt))

chosen_good : (s : Site) (z : Scene) (h : Shape) → Linked s z h → (test : Option TExprT) → MayTest z test → MaybeInWords test → (ls : List Bool) (n m : ℕ) (c : Piece) → n + maybe_temps test ≤ s.temps → m + length (maybe_sizes h test) ≤ s.locals
    → Good s ls (coded c Stop) → Good s ls (coded (low_chosen h test n m c) Stop)
chosen_good s z h link None is w ls n m c ln lm good = good
chosen_good s z h link (Some x) is w ls n m c ln lm good =
    let v = low_test_kept s z h link x (is.0).typed w in alone (both (v.at ls n (n + 1) m (omega arith) (omega arith) lm) (choose_kept n (omega arith) good (good_stop s ls)))

dropped_kept : (s : Site) (z : Scene) (h : Shape) → Linked s z h → (step : Option TExprT) → MayValue z step → MaybeInWords step → (ls : List Bool) (n m : ℕ) → n + maybe_temps step ≤ s.temps → m + length (maybe_sizes h step) ≤ s.locals
    → Keeps s ls (coded (low_dropped h step n m))
dropped_kept s z h link None is w ls n m ln lm = none
dropped_kept s z h link (Some x) is w ls n m ln lm = let v = low_value_kept s z h link x is.typed w in v.at ls n (n + 1) m (omega arith) (omega arith) lm

label_good : (s : Site) (ls : List Bool) (t : ℕ) {a c : Nodes} → t < s.temps → Good s ls a → Good s ls c → Good s ls (Choose t (Do (TwoO ISUB t t one) Stop) a c)
label_good s ls t lt p q =
    let k = choose_kept {s = s} {ls = ls} t lt (alone (k_two ISUB t t one lt lt (fixed s 1 (omega arith)))) p in k.keep _ q

mutual
  pub stmt_kept : (s : Site) (z : Scene) (h : Shape) → Linked s z h → (ty : Ty) (a : TStmtT) (breaks continues : Bool) → IsStatement z a ty breaks continues → StatementInWords a → statement_nodes a < 2 ^ 32
      → (ls : List Bool) (n m b : ℕ) (j : Jump) → n + stmt_temps a ≤ s.temps → m + length (stmt_sizes h a) ≤ s.locals → b < length ls → JumpsTo ls j → Keeps s ls (coded (low_stmt h ty a n m b j))
  stmt_kept s z h link ty (BlockZ ks body) br co is w few ls n m b j ln lm lb lj =
      both (made_kept s ks (objects_there s z h link 0 ks is.0)) (stmts_kept s z h link ty body br co is.1 w.1 (omega arith) ls n m b j ln lm lb lj)
  stmt_kept s z h link ty EmptyZ br co is w few ls n m b j ln lm lb lj = none
  stmt_kept s z h link ty (VarsZ vars) br co is w few ls n m b j ln lm lb lj = vars_kept s z h link false vars is w ls n m ln lm
  stmt_kept s z h link ty (DoZ x) br co is w few ls n m b j ln lm lb lj = let v = low_value_kept s z h link x is.typed w in v.at ls n (n + 1) m (omega arith) (omega arith) lm
  stmt_kept s z h link ty (IfZ x a rest) br co is w few ls n m b j ln lm lb lj =
      let v = low_test_kept s z h link x ((is.0).0).typed w.0 in
      let more = length-append (value_sizes h x) (stmt_sizes h a ++ other_sizes h rest) in
      let most = length-append (stmt_sizes h a) (other_sizes h rest) in
      both (v.at ls n (n + 1) m (omega arith) (omega arith) (omega (arith, more)))
      (choose_kept n (omega arith)
      (alone (stmt_kept s z h link ty a br co is.1 w.1 (omega arith) ls (second x n) (beyond h x m) b j (omega arith) (omega (arith, more, most)) lb lj))
      (alone (other_kept s z h link ty rest br co is.2 w.2 (omega arith) ls (second x n + stmt_temps a) (beyond h x m + length (stmt_sizes h a)) b j (omega arith) (omega (arith, more, most)) lb lj)))
  stmt_kept s z h link ty (WhileZ x a) br co is w few ls n m b j ln lm lb lj =
      let v = low_test_kept s z h link x ((is.0).0).typed w.0 in
      let more = length-append (value_sizes h x) (stmt_sizes h a) in
      loop_kept (alone (both (v.at (true ∷ ls) n (n + 1) m (omega arith) (omega arith) (omega (arith, more)))
      (choose_kept n (omega arith)
      (alone (both (stmt_kept s z h link ty a true true is.1 w.1 (omega arith) (true ∷ ls) (second x n) (beyond h x m) 0 (ToTurn 0) (omega arith) (omega (arith, more)) (omega arith) refl) (again_kept {s = s} {ls = true ∷ ls} 0 refl)))
      (good_stop s (true ∷ ls)))))
  stmt_kept s z h link ty (DoWhileZ a x) br co is w few ls n m b j ln lm lb lj =
      let v = low_test_kept s z h link x ((is.1).0).typed w.1 in
      let more = length-append (stmt_sizes h a) (value_sizes h x) in
      loop_kept (alone (both
      (block_kept (alone (stmt_kept s z h link ty a true true is.0 w.0 (omega arith) (false ∷ true ∷ ls) n m 1 (ToEnd 0) (omega arith) (omega (arith, more)) (omega arith) (omega arith))))
      (both (v.at (true ∷ ls) (n + stmt_temps a) (n + stmt_temps a + 1) (m + length (stmt_sizes h a)) (omega arith) (omega arith) (omega (arith, more)))
      (choose_kept (n + stmt_temps a) (omega arith) (alone (again_kept {s = s} {ls = true ∷ ls} 0 refl)) (good_stop s (true ∷ ls))))))
  stmt_kept s z h link ty (ForZ ks first test step a) br co is w few ls n m b j ln lm lb lj =
      let k = n + other_temps first in
      let q = m + length (other_sizes h first) in
      let u = k + maybe_temps test in
      let r = q + length (maybe_sizes h test) in
      let one_more = length-append (other_sizes h first) (maybe_sizes h test ++ (stmt_sizes h a ++ maybe_sizes h step)) in
      let two_more = length-append (maybe_sizes h test) (stmt_sizes h a ++ maybe_sizes h step) in
      let three_more = length-append (stmt_sizes h a) (maybe_sizes h step) in
      both (made_kept s ks (objects_there s z h link 0 ks is.0))
      (both (other_kept s z h link ty first br co is.1 w.1 (omega arith) ls n m b j (omega arith) (omega (arith, one_more)) lb lj)
      (loop_kept (chosen_good s z h link test is.2 w.2 (true ∷ ls) k q (turn_of (low_stmt h ty a u r 1 (ToEnd 0)) (low_dropped h step (u + stmt_temps a) (r + length (stmt_sizes h a)))) (omega arith) (omega (arith, one_more, two_more))
      (alone (both (block_kept (alone (stmt_kept s z h link ty a true true is.4 w.4 (omega arith) (false ∷ true ∷ ls) u r 1 (ToEnd 0) (omega arith) (omega (arith, one_more, two_more, three_more)) (omega arith) (omega arith))))
      (both (dropped_kept s z h link step is.3 w.3 (true ∷ ls) (u + stmt_temps a) (r + length (stmt_sizes h a)) (omega arith) (omega (arith, one_more, two_more, three_more)))
      (again_kept {s = s} {ls = true ∷ ls} 0 refl)))))))
  stmt_kept s z h link ty (SwitchZ x ks arms) br co is w few ls n m b j ln lm lb lj =
      let v = low_value_kept s z h link x (is.0).typed w.0 in
      let more = length-append (value_sizes h x) (arms_sizes h arms) in
      let labels = labels_few arms in
      both (v.at ls n (n + 1) m (omega arith) (omega arith) (omega (arith, more)))
      (both (block_kept (match_good s ls n 0 (labels_before_default arms) arms w.2 (omega arith) (omega arith) (omega arith)))
      (both (k_const one 1 (fixed s 1 (omega arith)) (omega arith))
      (both (made_kept s ks (objects_there s z h link 0 ks is.2))
      (block_kept (arms_good s z h link ty n arms co no_labels is.3 w.2 (omega arith) (false ∷ ls) (second x n) (beyond h x m) 0 (further j) (omega arith) (omega arith) (omega (arith, more)) (omega arith) (further_there ls false j lj))))))
  stmt_kept s z h link ty (ReturnZ None) br co is w few ls n m b j ln lm lb lj = return_kept None tt
  stmt_kept s z h link ty (ReturnZ (Some x)) br co is w few ls n m b j ln lm lb lj =
      let v = low_value_kept s z h link x (is.0).typed w in
      both (v.at ls n (n + 1) m (omega arith) (omega arith) lm) (both (converted_kept ty (is_flag x) n (omega arith)) (returned_kept s h ty n (omega arith)))
  stmt_kept s z h link ty BreakZ br co is w few ls n m b j ln lm lb lj = leave_kept b lb
  stmt_kept s z h link ty ContinueZ br co is w few ls n m b j ln lm lb lj = jump_kept j lj

  other_kept : (s : Site) (z : Scene) (h : Shape) → Linked s z h → (ty : Ty) (a : MaybeZ) (breaks continues : Bool) → MayState z a ty breaks continues → MaybeStatementInWords a → maybe_statement_nodes a < 2 ^ 32
      → (ls : List Bool) (n m b : ℕ) (j : Jump) → n + other_temps a ≤ s.temps → m + length (other_sizes h a) ≤ s.locals → b < length ls → JumpsTo ls j → Keeps s ls (coded (low_other h ty a n m b j))
  other_kept s z h link ty NoneZ br co is w few ls n m b j ln lm lb lj = none
  other_kept s z h link ty (SomeZ a) br co is w few ls n m b j ln lm lb lj = stmt_kept s z h link ty a br co is w few ls n m b j ln lm lb lj

  pub stmts_kept : (s : Site) (z : Scene) (h : Shape) → Linked s z h → (ty : Ty) (body : TStmtTs) (breaks continues : Bool) → AreStatements z body ty breaks continues → StatementsInWords body → statements_nodes body < 2 ^ 32
      → (ls : List Bool) (n m b : ℕ) (j : Jump) → n + stmts_temps body ≤ s.temps → m + length (stmts_sizes h body) ≤ s.locals → b < length ls → JumpsTo ls j → Keeps s ls (coded (low_stmts h ty body n m b j))
  stmts_kept s z h link ty NoZ br co is w few ls n m b j ln lm lb lj = none
  stmts_kept s z h link ty (MoreZ a rest) br co is w few ls n m b j ln lm lb lj =
      let more = length-append (stmt_sizes h a) (stmts_sizes h rest) in
      both (stmt_kept s z h link ty a br co is.0 w.0 (omega arith) ls n m b j (omega arith) (omega (arith, more)) lb lj)
      (stmts_kept s z h link ty rest br co is.1 w.1 (omega arith) ls (n + stmt_temps a) (m + length (stmt_sizes h a)) b j (omega arith) (omega (arith, more)) lb lj)

  arms_good : (s : Site) (z : Scene) (h : Shape) → Linked s z h → (ty : Ty) (t : ℕ) (arms : TArmTs) (continues : Bool) (seen : Labels) → AreArms z arms ty continues seen → ArmsInWords arms → arms_nodes arms < 2 ^ 32
      → (ls : List Bool) (n m b : ℕ) (j : Jump) → t < s.temps → n + arms_temps arms ≤ s.temps → m + length (arms_sizes h arms) ≤ s.locals → b < length ls → JumpsTo ls j → Good s ls (coded (low_arms h ty t arms n m b j) Stop)
  arms_good s z h link ty t NoB co seen is w few ls n m b j lt ln lm lb lj = good_stop s ls
  arms_good s z h link ty t (MoreB (CaseB label) rest) co seen is w few ls n m b j lt ln lm lb lj =
      label_good s ls t lt (group_good s z h link ty rest co (with_label seen (CaseB label)) is.2 w.1 (omega arith) ls n m b j (omega arith) lm lb lj)
      (arms_good s z h link ty t rest co (with_label seen (CaseB label)) is.2 w.1 (omega arith) ls n m b j lt (omega arith) lm lb lj)
  arms_good s z h link ty t (MoreB DefaultB rest) co seen is w few ls n m b j lt ln lm lb lj =
      label_good s ls t lt (group_good s z h link ty rest co (with_label seen DefaultB) is.2 w.1 (omega arith) ls n m b j (omega arith) lm lb lj)
      (arms_good s z h link ty t rest co (with_label seen DefaultB) is.2 w.1 (omega arith) ls n m b j lt (omega arith) lm lb lj)
  arms_good s z h link ty t (MoreB (StmtB a) rest) co seen is w few ls n m b j lt ln lm lb lj =
      let more = length-append (stmt_sizes h a) (arms_sizes h rest) in
      arms_good s z h link ty t rest co (with_label seen (StmtB a)) is.2 w.1 (omega arith) ls (n + stmt_temps a) (m + length (stmt_sizes h a)) b j lt (omega arith) (omega (arith, more)) lb lj

  group_good : (s : Site) (z : Scene) (h : Shape) → Linked s z h → (ty : Ty) (arms : TArmTs) (continues : Bool) (seen : Labels) → AreArms z arms ty continues seen → ArmsInWords arms → arms_nodes arms < 2 ^ 32
      → (ls : List Bool) (n m b : ℕ) (j : Jump) → n + arms_temps arms ≤ s.temps → m + length (arms_sizes h arms) ≤ s.locals → b < length ls → JumpsTo ls j → Good s ls (coded (low_group h ty arms n m b j) Stop)
  group_good s z h link ty NoB co seen is w few ls n m b j ln lm lb lj = good_stop s ls
  group_good s z h link ty (MoreB (CaseB label) rest) co seen is w few ls n m b j ln lm lb lj = good_stop s ls
  group_good s z h link ty (MoreB DefaultB rest) co seen is w few ls n m b j ln lm lb lj = good_stop s ls
  group_good s z h link ty (MoreB (StmtB a) rest) co seen is w few ls n m b j ln lm lb lj =
      let more = length-append (stmt_sizes h a) (arms_sizes h rest) in
      let p = stmt_kept s z h link ty a true co is.1 w.0 (omega arith) ls n m b j (omega arith) (omega (arith, more)) lb lj in
      p.keep _ (group_good s z h link ty rest co (with_label seen (StmtB a)) is.2 w.1 (omega arith) ls (n + stmt_temps a) (m + length (stmt_sizes h a)) b j (omega arith) (omega (arith, more)) lb lj)
