-- Initialisers, statements and functions of a sound program that take no turns have no loop.
use Rattle.std.proofs.Common.{◌≡◌, ℕ, zero, ◌+◌, ◌%◌, ◌^◌, inr, arith, refl, sym, ◌∙◌, subst, Bool, true, false, List, [], ◌∷◌, length, Some, None}
use Rattle.c_types.specs.Types.{Ty, VoidY, IntY, BoolY, EnumY, StructY, UnionY, PointerY, ArrayY}
use Rattle.c_types.specs.Typed.{TInitT, OneI, TextI, ListI, TInitTs, NoI, MoreI, TVarT, TStmtT, BlockZ, EmptyZ, VarsZ, DoZ, IfZ, WhileZ, DoWhileZ, ForZ, SwitchZ, ReturnZ, BreakZ, ContinueZ, MaybeZ, NoneZ, SomeZ, TStmtTs, NoZ, MoreZ, CaseB, DefaultB, StmtB, TArmTs, NoB, MoreB}
use Rattle.c_types.specs.Programs.{TFunctionT, ProgramT}
use Rattle.c_exprs.specs.Nodes.{type_of_typed}
use Rattle.c_stmts.specs.Slots.{next_slot}
use Rattle.c_stmts.specs.State.{Labels, no_labels, with_label}
use Rattle.c_facts.specs.Sound.{Scene, IsSized, FillsAs, FillEach, AreFilled, IsStatement, MayState, AreStatements, AreArms, AreDeclaredAs, IsFunction, in_call, wholes, scene}
use Rattle.c_meaning.specs.Kinds.{type_of}
use Rattle.c_types.specs.Kinds.{is_structure}
use Rattle.c_types.specs.Parts.{part_type}
use Rattle.c_meaning.specs.Setting.{Setting, setting}
use Rattle.mid_code.specs.Code.{ConstO, Stop, Do, Block}
use Rattle.mid_code.specs.Calls.{loops}
use Rattle.lower_trees.specs.Shape.{Shape, shape, words}
use Rattle.lower_trees.specs.Flags.{is_flag}
use Rattle.lower_trees.specs.Pieces.{Nodes, coded}
use Rattle.lower_trees.specs.Parts.{one, item, made, first_param}
use Rattle.lower_trees.specs.Expressions.{second, beyond}
use Rattle.lower_trees.specs.Initialisers.{low_init, low_inits, address_of, low_vars}
use Rattle.lower_trees.specs.Statements.{Jump, ToEnd, further, labels_before_default, low_match, low_stmt, low_other, low_stmts, low_arms, low_group}
use Rattle.lower_trees.specs.Lowered.{all_received, first_of, low_body, low_function}
use Rattle.lower_trees.specs.Counts.{init_temps, init_sizes, behind_address, stmt_temps, stmt_sizes}
use Rattle.mid_lower.specs.SourceLoops.{params_copied, rest_turns, init_turns, items_turns, variables_turns, turns, turns_maybe, turns_all, turns_arms, HasNoLoops}
use Rattle.mid_lower.proofs.Operands.{number_scalar, condition_scalar, to_scalar, from_scalar}
use Rattle.mid_lower.proofs.SoundExpressions.{of_scalar}
use Rattle.mid_lower.proofs.SoundInitialisers.{places, places_first, places_later, value_taken, part_filled}
use Rattle.mid_lower.proofs.Tallies.{tally, of_loops, loops_counted, one_is, converted_tally, made_tally}
use Rattle.mid_lower.proofs.QuietForms.{choose_quiet, block_quiet}
use Rattle.mid_lower.proofs.QuietParts.{NoRest, filled_tally, rest_tally, object_tally, jump_tally, match_tally, label_tally, returned_tally, received_tally}
use Rattle.mid_lower.proofs.LooplessExpressions.{unread_of, low_value_quiet, low_test_quiet}

abbrev count : Nodes → ℕ
count = tally of_loops

module _ (p : ProgramT) (declared : AreDeclaredAs p.layouts (wholes p.layouts) p.layouts) (locals : List ℕ) where
  abbrev z : Scene
  z = in_call (scene p) locals

  abbrev h : Shape
  h = shape p

  abbrev s : Setting
  s = setting p []

  -- ---- initialisers

  no_rest : (ty : Ty) (k : ℕ) → rest_turns s ty k ≡ zero → NoRest of_loops h ty k
  no_rest (ArrayY of len) k e = inr e
  no_rest VoidY k e = tt
  no_rest IntY k e = tt
  no_rest BoolY k e = tt
  no_rest (EnumY n) k e = tt
  no_rest (StructY n) k e = tt
  no_rest (UnionY n) k e = tt
  no_rest (PointerY of) k e = tt

  mutual
    init_loopless : (global : Bool) (i : TInitT) (ty : Ty) → IsSized p.layouts (wholes p.layouts) ty → FillsAs z global i (Some ty) → init_turns s i ty ≡ zero → (a offset n m : ℕ) (c : Nodes) → count (coded (low_init h i ty a offset n m) c) ≡ count c
    init_loopless global (OneI x) ty sized is e a offset n m c =
        let plain : is_structure ty ≡ false = one_is (is_structure ty) (omega (arith, e)) in
        let taken = from_scalar (type_of_typed x) ty (value_taken global ty x is.1) plain in
        low_value_quiet z h x (is.0).typed (omega (arith, e)) (unread_of x taken) item n m _ ∙ (converted_tally of_loops ty (is_flag x) item _ ∙ filled_tally of_loops h ty a offset c (inr plain))
    init_loopless global (TextI number) ty sized is e a offset n m c = absurd (omega (arith, e))
    init_loopless global (ListI items) ty sized is e a offset n m c = items_loopless global items ty 0 sized (subst (FillEach z global items) (places_first p.layouts ty) is.1) e a offset n m c

    items_loopless : (global : Bool) (items : TInitTs) (ty : Ty) (k : ℕ) → IsSized p.layouts (wholes p.layouts) ty → FillEach z global items (places p.layouts ty k) → items_turns s items ty k ≡ zero → (a offset n m : ℕ) (c : Nodes) → count (coded (low_inits h items ty k a offset n m) c) ≡ count c
    items_loopless global NoI ty k sized is e a offset n m c = rest_tally of_loops h ty k a offset c (no_rest ty k e)
    items_loopless global (MoreI i rest) ty k sized is e a offset n m c =
        let part = part_filled z declared global i ty k sized (next_slot (places p.layouts ty k)) refl is.0 in
        init_loopless global i (part_type p.layouts ty k) (subst (IsSized p.layouts (wholes p.layouts)) (sym part.same) part.sized) (subst (λ q. FillsAs z global i (Some q)) (sym part.same) part.filled) (omega (arith, e)) a offset n m _
        ∙ items_loopless global rest ty (k + 1) sized (subst (FillEach z global rest) (places_later p.layouts ty k) is.1) (omega (arith, e)) a ((offset + words h (part_type p.layouts ty k)) % 2 ^ 32) (n + init_temps i) (m + length (init_sizes h i)) c

  vars_loopless : (global : Bool) (vs : List TVarT) → AreFilled z global vs → variables_turns s vs ≡ zero → (n m : ℕ) (c : Nodes) → count (coded (low_vars h vs n m) c) ≡ count c
  vars_loopless global [] is e n m c = refl
  vars_loopless global (v ∷ vs) is e n m c =
      object_tally of_loops v.global v.object (address_of v.init n) _
      ∙ (init_loopless global v.init v.ty (is.0).sized (is.0).filled (omega (arith, e)) (address_of v.init n) 0 (behind_address v.init n) m _
      ∙ vars_loopless global vs is.1 (omega (arith, e)) (behind_address v.init n + init_temps v.init) (m + length (init_sizes h v.init)) c)

  -- ---- statements

  mutual
    stmt_loopless : (ty : Ty) (a : TStmtT) (br co : Bool) → IsStatement z a ty br co → turns s a ≡ zero → (n m b : ℕ) (j : Jump) (c : Nodes) → count (coded (low_stmt h ty a n m b j) c) ≡ count c
    stmt_loopless ty (BlockZ ks body) br co is e n m b j c = made_tally of_loops ks _ ∙ stmts_loopless ty body br co is.1 e n m b j c
    stmt_loopless ty EmptyZ br co is e n m b j c = refl
    stmt_loopless ty (VarsZ vars) br co is e n m b j c = vars_loopless false vars is e n m c
    stmt_loopless ty (DoZ x) br co is e n m b j c = low_value_quiet z h x is.typed (omega (arith, e)) (inr (omega (arith, e))) n (n + 1) m c
    stmt_loopless ty (IfZ x a rest) br co is e n m b j c =
        let u = second x n in
        let v = beyond h x m in
        let first = stmt_loopless ty a br co is.1 (omega (arith, e)) u v b j Stop in
        let last = other_loopless ty rest br co is.2 (omega (arith, e)) (u + stmt_temps a) (v + length (stmt_sizes h a)) b j Stop in
        low_test_quiet z h x ((is.0).0).typed (omega (arith, e)) (unread_of x (condition_scalar (type_of_typed x) (is.0).1)) n (n + 1) m _
        ∙ choose_quiet of_loops n (coded (low_stmt h ty a u v b j) Stop) (coded (low_other h ty rest (u + stmt_temps a) (v + length (stmt_sizes h a)) b j) Stop) c first last
    stmt_loopless ty (WhileZ x a) br co is e n m b j c = absurd (omega (arith, e))
    stmt_loopless ty (DoWhileZ a x) br co is e n m b j c = absurd (omega (arith, e))
    stmt_loopless ty (ForZ ks first test step a) br co is e n m b j c = absurd (omega (arith, e))
    stmt_loopless ty (SwitchZ x ks arms) br co is e n m b j c =
        let tests = coded (low_match n 0 (labels_before_default arms) arms) Stop in
        let inside = coded (low_arms h ty n arms (second x n) (beyond h x m) 0 (further j)) Stop in
        low_value_quiet z h x (is.0).typed (omega (arith, e)) (unread_of x (number_scalar (type_of_typed x) is.1)) n (n + 1) m _
        ∙ (block_quiet of_loops tests (Do (ConstO one 1) (coded (made ks) (Block inside c))) (match_tally of_loops n 0 (labels_before_default arms) arms)
        ∙ (made_tally of_loops ks (Block inside c)
        ∙ block_quiet of_loops inside c (arms_loopless ty n arms co no_labels is.3 (omega (arith, e)) (second x n) (beyond h x m) 0 (further j))))
    stmt_loopless ty (ReturnZ None) br co is e n m b j c = refl
    stmt_loopless ty (ReturnZ (Some x)) br co is e n m b j c =
        let plain = of_scalar x (one_is (is_structure (type_of x)) (omega (arith, e))) in
        low_value_quiet z h x (is.0).typed (omega (arith, e)) (unread_of x plain) n (n + 1) m _
        ∙ (converted_tally of_loops ty (is_flag x) n _ ∙ returned_tally of_loops h ty n c (inr (to_scalar (type_of_typed x) ty is.1 plain)))
    stmt_loopless ty BreakZ br co is e n m b j c = refl
    stmt_loopless ty ContinueZ br co is e n m b j c = jump_tally of_loops j c

    other_loopless : (ty : Ty) (a : MaybeZ) (br co : Bool) → MayState z a ty br co → turns_maybe s a ≡ zero → (n m b : ℕ) (j : Jump) (c : Nodes) → count (coded (low_other h ty a n m b j) c) ≡ count c
    other_loopless ty NoneZ br co is e n m b j c = refl
    other_loopless ty (SomeZ a) br co is e n m b j c = stmt_loopless ty a br co is e n m b j c

    stmts_loopless : (ty : Ty) (all : TStmtTs) (br co : Bool) → AreStatements z all ty br co → turns_all s all ≡ zero → (n m b : ℕ) (j : Jump) (c : Nodes) → count (coded (low_stmts h ty all n m b j) c) ≡ count c
    stmts_loopless ty NoZ br co is e n m b j c = refl
    stmts_loopless ty (MoreZ a rest) br co is e n m b j c =
        stmt_loopless ty a br co is.0 (omega (arith, e)) n m b j _ ∙ stmts_loopless ty rest br co is.1 (omega (arith, e)) (n + stmt_temps a) (m + length (stmt_sizes h a)) b j c

    arms_loopless : (ty : Ty) (t : ℕ) (all : TArmTs) (co : Bool) (seen : Labels) → AreArms z all ty co seen → turns_arms s all ≡ zero → (n m b : ℕ) (j : Jump) → count (coded (low_arms h ty t all n m b j) Stop) ≡ zero
    arms_loopless ty t NoB co seen is e n m b j = refl
    arms_loopless ty t (MoreB (CaseB label) rest) co seen is e n m b j =
        let later = with_label seen (CaseB label) in
        label_tally of_loops t (coded (low_group h ty rest n m b j) Stop) (coded (low_arms h ty t rest n m b j) Stop) (group_loopless ty rest co later is.2 (omega (arith, e)) n m b j) (arms_loopless ty t rest co later is.2 (omega (arith, e)) n m b j)
    arms_loopless ty t (MoreB DefaultB rest) co seen is e n m b j =
        let later = with_label seen DefaultB in
        label_tally of_loops t (coded (low_group h ty rest n m b j) Stop) (coded (low_arms h ty t rest n m b j) Stop) (group_loopless ty rest co later is.2 (omega (arith, e)) n m b j) (arms_loopless ty t rest co later is.2 (omega (arith, e)) n m b j)
    arms_loopless ty t (MoreB (StmtB a) rest) co seen is e n m b j = arms_loopless ty t rest co (with_label seen (StmtB a)) is.2 (omega (arith, e)) (n + stmt_temps a) (m + length (stmt_sizes h a)) b j

    group_loopless : (ty : Ty) (all : TArmTs) (co : Bool) (seen : Labels) → AreArms z all ty co seen → turns_arms s all ≡ zero → (n m b : ℕ) (j : Jump) → count (coded (low_group h ty all n m b j) Stop) ≡ zero
    group_loopless ty NoB co seen is e n m b j = refl
    group_loopless ty (MoreB (CaseB label) rest) co seen is e n m b j = refl
    group_loopless ty (MoreB DefaultB rest) co seen is e n m b j = refl
    group_loopless ty (MoreB (StmtB a) rest) co seen is e n m b j =
        stmt_loopless ty a true co is.1 (omega (arith, e)) n m b j _ ∙ group_loopless ty rest co (with_label seen (StmtB a)) is.2 (omega (arith, e)) (n + stmt_temps a) (m + length (stmt_sizes h a)) b j

-- ---- functions

received_loopless : (h : Shape) (tys : List Ty) → params_copied tys ≡ zero → (number a : ℕ) (c : Nodes) → count (coded (all_received h tys number a) c) ≡ count c
received_loopless h [] e number a c = refl
received_loopless h (ty ∷ tys) e number a c =
    received_tally of_loops h ty number a _ (inr (one_is (is_structure ty) (omega (arith, e)))) ∙ received_loopless h tys (omega (arith, e)) (number + 1) (a + 1) c

pub no_loops : (p : ProgramT) → AreDeclaredAs p.layouts (wholes p.layouts) p.layouts → (f : TFunctionT) → IsFunction (scene p) f → HasNoLoops (setting p []) f → loops (low_function (shape p) f).body ≡ 0
no_loops p declared f is e =
    let body = coded (low_stmts (shape p) f.gives f.body (first_of f.params) (length f.locals) 0 (ToEnd 0)) Stop in
    loops_counted (coded (low_body (shape p) f) Stop)
    ∙ (made_tally of_loops f.made (coded (all_received (shape p) f.params 0 first_param) (Block body Stop))
    ∙ (received_loopless (shape p) f.params (omega (arith, e)) 0 first_param (Block body Stop)
    ∙ block_quiet of_loops body Stop (stmts_loopless p declared f.locals f.gives f.body false false is.body (omega (arith, e)) (first_of f.params) (length f.locals) 0 (ToEnd 0) Stop)))
