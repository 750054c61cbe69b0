-- Code of initialisers, statements and functions calls only what their trees call.
use Rattle.std.proofs.Common.{◌≡◌, ℕ, zero, ◌+◌, ◌%◌, ◌^◌, inl, arith, refl, ◌∙◌, List, [], ◌∷◌, length, Option, Some, None}
use Rattle.c_types.specs.Types.{Ty, VoidY, IntY, BoolY, EnumY, StructY, UnionY, PointerY, ArrayY}
use Rattle.c_types.specs.Typed.{TExprT, TInitT, OneI, TextI, ListI, TInitTs, NoI, MoreI, TVarT, TStmtT, BlockZ, EmptyZ, VarsZ, DoZ, IfZ, WhileZ, DoWhileZ, ForZ, SwitchZ, ReturnZ, BreakZ, ContinueZ, MaybeZ, NoneZ, SomeZ, TStmtTs, NoZ, MoreZ, CaseB, DefaultB, StmtB, TArmTs, NoB, MoreB}
use Rattle.c_types.specs.Programs.{TFunctionT}
use Rattle.c_types.specs.Parts.{part_type}
use Rattle.c_meaning.specs.Frames.{over_maybe, over_init, over_inits, over_vars, over_statement, over_other, over_statements, over_arms}
use Rattle.mid_code.specs.Code.{ConstO, Stop, Do, Choose, Block, Loop, Again}
use Rattle.mid_code.specs.Calls.{CallsTo}
use Rattle.lower_trees.specs.Shape.{Shape, words}
use Rattle.lower_trees.specs.Flags.{is_flag}
use Rattle.lower_trees.specs.Pieces.{Nodes, coded, Piece}
use Rattle.lower_trees.specs.Parts.{one, item, made, first_param}
use Rattle.lower_trees.specs.Expressions.{second, beyond, low_test}
use Rattle.lower_trees.specs.Initialisers.{low_init, low_inits, address_of, low_vars}
use Rattle.lower_trees.specs.Statements.{Jump, ToEnd, ToTurn, further, low_chosen, low_dropped, turns, labels_before_default, low_match, low_stmt, low_other, low_stmts, low_arms, low_group, turn_of}
use Rattle.lower_trees.specs.Lowered.{all_received, first_of, low_body, low_function}
use Rattle.lower_trees.specs.Counts.{init_temps, init_sizes, behind_address, maybe_temps, maybe_sizes, stmt_temps, stmt_sizes, other_temps, other_sizes}
use Rattle.mid_lower.specs.SourceLoops.{is_call_of, TreeCalls}
use Rattle.mid_lower.proofs.Tallies.{tally, of_calls, calls_counted, converted_tally, made_tally}
use Rattle.mid_lower.proofs.QuietForms.{choose_quiet, block_quiet}
use Rattle.mid_lower.proofs.QuietParts.{NoRest, filled_tally, text_tally, rest_tally, object_tally, jump_tally, match_tally, label_tally, returned_tally, received_tally}
use Rattle.mid_lower.proofs.CallsOfExpressions.{value_uncalled, test_uncalled}

-- of a function that the tree does not call
module _ (f : ℕ) (h : Shape) where
  abbrev count : Nodes → ℕ
  count = tally (of_calls f)

  any_rest : (ty : Ty) (j : ℕ) → NoRest (of_calls f) h ty j
  any_rest (ArrayY of len) j = inl refl
  any_rest VoidY j = tt
  any_rest IntY j = tt
  any_rest BoolY j = tt
  any_rest (EnumY n) j = tt
  any_rest (StructY n) j = tt
  any_rest (UnionY n) j = tt
  any_rest (PointerY of) j = tt

  -- ---- initialisers

  mutual
    init_uncalled : (i : TInitT) (ty : Ty) → over_init (is_call_of f) i ≡ zero → (p offset n m : ℕ) (c : Nodes) → count (coded (low_init h i ty p offset n m) c) ≡ count c
    init_uncalled (OneI x) ty e p offset n m c =
        value_uncalled f h x e item n m _ ∙ (converted_tally (of_calls f) ty (is_flag x) item _ ∙ filled_tally (of_calls f) h ty p offset c (inl refl))
    init_uncalled (TextI number) ty e p offset n m c = text_tally (of_calls f) h number (words h ty) p offset c refl
    init_uncalled (ListI items) ty e p offset n m c = inits_uncalled items ty 0 e p offset n m c

    inits_uncalled : (is : TInitTs) (ty : Ty) (j : ℕ) → over_inits (is_call_of f) is ≡ zero → (p offset n m : ℕ) (c : Nodes) → count (coded (low_inits h is ty j p offset n m) c) ≡ count c
    inits_uncalled NoI ty j e p offset n m c = rest_tally (of_calls f) h ty j p offset c (any_rest ty j)
    inits_uncalled (MoreI i rest) ty j e p offset n m c =
        init_uncalled i (part_type h.layouts ty j) (omega (arith, e)) p offset n m _
        ∙ inits_uncalled rest ty (j + 1) (omega (arith, e)) p ((offset + words h (part_type h.layouts ty j)) % 2 ^ 32) (n + init_temps i) (m + length (init_sizes h i)) c

  vars_uncalled : (vs : List TVarT) → over_vars (is_call_of f) vs ≡ zero → (n m : ℕ) (c : Nodes) → count (coded (low_vars h vs n m) c) ≡ count c
  vars_uncalled [] e n m c = refl
  vars_uncalled (v ∷ vs) e n m c =
      object_tally (of_calls f) v.global v.object (address_of v.init n) _
      ∙ (init_uncalled v.init v.ty (omega (arith, e)) (address_of v.init n) 0 (behind_address v.init n) m _
      ∙ vars_uncalled vs (omega (arith, e)) (behind_address v.init n + init_temps v.init) (m + length (init_sizes h v.init)) c)

  -- ---- statements

  chosen_uncalled : (test : Option TExprT) → over_maybe (is_call_of f) test ≡ zero → (n m : ℕ) (turn : Piece) → count (coded turn Stop) ≡ zero → count (coded (low_chosen h test n m turn) Stop) ≡ zero
  chosen_uncalled None e n m turn q = q
  chosen_uncalled (Some x) e n m turn q = test_uncalled f h x e n (n + 1) m _ ∙ choose_quiet (of_calls f) n (coded turn Stop) Stop Stop q refl

  dropped_uncalled : (step : Option TExprT) → over_maybe (is_call_of f) step ≡ zero → (n m : ℕ) (c : Nodes) → count (coded (low_dropped h step n m) c) ≡ count c
  dropped_uncalled None e n m c = refl
  dropped_uncalled (Some x) e n m c = value_uncalled f h x e n (n + 1) m c

  -- loops do not count here
  loop_quiet : (b c : Nodes) → count b ≡ zero → count (Loop b c) ≡ count c
  loop_quiet b c e = omega (arith, e)

  turns_uncalled : (test step : Option TExprT) (a : TStmtT) (body : (n m : ℕ) → Piece) → over_maybe (is_call_of f) test ≡ zero → over_maybe (is_call_of f) step ≡ zero
      → ((n m : ℕ) → count (coded (body n m) Stop) ≡ zero) → (n m : ℕ) (c : Nodes) → count (coded (turns h test step a body n m) c) ≡ count c
  turns_uncalled test step a body e g b n m c =
      let u = n + maybe_temps test in
      let v = m + length (maybe_sizes h test) in
      let dropped = low_dropped h step (u + stmt_temps a) (v + length (stmt_sizes h a)) in
      loop_quiet (coded (low_chosen h test n m (turn_of (body u v) dropped)) Stop) c
      (chosen_uncalled test e n m (turn_of (body u v) dropped) (block_quiet (of_calls f) (coded (body u v) Stop) (coded dropped (Again 0 Stop)) (b u v) ∙ dropped_uncalled step g (u + stmt_temps a) (v + length (stmt_sizes h a)) (Again 0 Stop)))

  mutual
    stmt_uncalled : (ty : Ty) (a : TStmtT) → over_statement (is_call_of f) a ≡ zero → (n m b : ℕ) (j : Jump) (c : Nodes) → count (coded (low_stmt h ty a n m b j) c) ≡ count c
    stmt_uncalled ty (BlockZ ks body) e n m b j c = made_tally (of_calls f) ks _ ∙ stmts_uncalled ty body e n m b j c
    stmt_uncalled ty EmptyZ e n m b j c = refl
    stmt_uncalled ty (VarsZ vars) e n m b j c = vars_uncalled vars e n m c
    stmt_uncalled ty (DoZ x) e n m b j c = value_uncalled f h x e n (n + 1) m c
    stmt_uncalled ty (IfZ x a rest) e n m b j c =
        let u = second x n in
        let v = beyond h x m in
        let first = stmt_uncalled ty a (omega (arith, e)) u v b j Stop in
        let last = other_uncalled ty rest (omega (arith, e)) (u + stmt_temps a) (v + length (stmt_sizes h a)) b j Stop in
        test_uncalled f h x (omega (arith, e)) n (n + 1) m _
        ∙ choose_quiet (of_calls f) n (coded (low_stmt h ty a u v b j) Stop) (coded (low_other h ty rest (u + stmt_temps a) (v + length (stmt_sizes h a)) b j) Stop) c first last
    stmt_uncalled ty (WhileZ x a) e n m b j c =
        let turn = coded (low_stmt h ty a (second x n) (beyond h x m) 0 (ToTurn 0)) (Again 0 Stop) in
        let quiet = stmt_uncalled ty a (omega (arith, e)) (second x n) (beyond h x m) 0 (ToTurn 0) (Again 0 Stop) in
        loop_quiet (coded (low_test h x n (n + 1) m) (Choose n turn Stop Stop)) c (test_uncalled f h x (omega (arith, e)) n (n + 1) m _ ∙ choose_quiet (of_calls f) n turn Stop Stop quiet refl)
    stmt_uncalled ty (DoWhileZ a x) e n m b j c =
        let u = n + stmt_temps a in
        let v = m + length (stmt_sizes h a) in
        let turn = coded (low_stmt h ty a n m 1 (ToEnd 0)) Stop in
        let test = coded (low_test h x u (u + 1) v) (Choose u (Again 0 Stop) Stop Stop) in
        loop_quiet (Block turn test) c (block_quiet (of_calls f) turn test (stmt_uncalled ty a (omega (arith, e)) n m 1 (ToEnd 0) Stop) ∙ test_uncalled f h x (omega (arith, e)) u (u + 1) v (Choose u (Again 0 Stop) Stop Stop))
    stmt_uncalled ty (ForZ ks first test step a) e n m b j c =
        made_tally (of_calls f) ks _
        ∙ (other_uncalled ty first (omega (arith, e)) n m b j _
        ∙ turns_uncalled test step a (λ u v. low_stmt h ty a u v 1 (ToEnd 0)) (omega (arith, e)) (omega (arith, e)) (λ u v. stmt_uncalled ty a (omega (arith, e)) u v 1 (ToEnd 0) Stop) (n + other_temps first) (m + length (other_sizes h first)) c)
    stmt_uncalled ty (SwitchZ x ks arms) e n m b j c =
        let tests = coded (low_match n 0 (labels_before_default arms) arms) Stop in
        let inside = coded (low_arms h ty n arms (second x n) (beyond h x m) 0 (further j)) Stop in
        value_uncalled f h x (omega (arith, e)) n (n + 1) m _
        ∙ (block_quiet (of_calls f) tests (Do (ConstO one 1) (coded (made ks) (Block inside c))) (match_tally (of_calls f) n 0 (labels_before_default arms) arms)
        ∙ (made_tally (of_calls f) ks (Block inside c)
        ∙ block_quiet (of_calls f) inside c (arms_uncalled ty n arms (omega (arith, e)) (second x n) (beyond h x m) 0 (further j))))
    stmt_uncalled ty (ReturnZ None) e n m b j c = refl
    stmt_uncalled ty (ReturnZ (Some x)) e n m b j c =
        value_uncalled f h x e n (n + 1) m _ ∙ (converted_tally (of_calls f) ty (is_flag x) n _ ∙ returned_tally (of_calls f) h ty n c (inl refl))
    stmt_uncalled ty BreakZ e n m b j c = refl
    stmt_uncalled ty ContinueZ e n m b j c = jump_tally (of_calls f) j c

    other_uncalled : (ty : Ty) (a : MaybeZ) → over_other (is_call_of f) a ≡ zero → (n m b : ℕ) (j : Jump) (c : Nodes) → count (coded (low_other h ty a n m b j) c) ≡ count c
    other_uncalled ty NoneZ e n m b j c = refl
    other_uncalled ty (SomeZ a) e n m b j c = stmt_uncalled ty a e n m b j c

    stmts_uncalled : (ty : Ty) (all : TStmtTs) → over_statements (is_call_of f) all ≡ zero → (n m b : ℕ) (j : Jump) (c : Nodes) → count (coded (low_stmts h ty all n m b j) c) ≡ count c
    stmts_uncalled ty NoZ e n m b j c = refl
    stmts_uncalled ty (MoreZ a rest) e n m b j c =
        stmt_uncalled ty a (omega (arith, e)) n m b j _ ∙ stmts_uncalled ty rest (omega (arith, e)) (n + stmt_temps a) (m + length (stmt_sizes h a)) b j c

    arms_uncalled : (ty : Ty) (t : ℕ) (all : TArmTs) → over_arms (is_call_of f) all ≡ zero → (n m b : ℕ) (j : Jump) → count (coded (low_arms h ty t all n m b j) Stop) ≡ zero
    arms_uncalled ty t NoB e n m b j = refl
    arms_uncalled ty t (MoreB (CaseB label) rest) e n m b j =
        label_tally (of_calls f) t (coded (low_group h ty rest n m b j) Stop) (coded (low_arms h ty t rest n m b j) Stop) (group_uncalled ty rest (omega (arith, e)) n m b j) (arms_uncalled ty t rest (omega (arith, e)) n m b j)
    arms_uncalled ty t (MoreB DefaultB rest) e n m b j =
        label_tally (of_calls f) t (coded (low_group h ty rest n m b j) Stop) (coded (low_arms h ty t rest n m b j) Stop) (group_uncalled ty rest (omega (arith, e)) n m b j) (arms_uncalled ty t rest (omega (arith, e)) n m b j)
    arms_uncalled ty t (MoreB (StmtB a) rest) e n m b j = arms_uncalled ty t rest (omega (arith, e)) (n + stmt_temps a) (m + length (stmt_sizes h a)) b j

    group_uncalled : (ty : Ty) (all : TArmTs) → over_arms (is_call_of f) all ≡ zero → (n m b : ℕ) (j : Jump) → count (coded (low_group h ty all n m b j) Stop) ≡ zero
    group_uncalled ty NoB e n m b j = refl
    group_uncalled ty (MoreB (CaseB label) rest) e n m b j = refl
    group_uncalled ty (MoreB DefaultB rest) e n m b j = refl
    group_uncalled ty (MoreB (StmtB a) rest) e n m b j =
        stmt_uncalled ty a (omega (arith, e)) n m b j _ ∙ group_uncalled ty rest (omega (arith, e)) (n + stmt_temps a) (m + length (stmt_sizes h a)) b j

  -- ---- functions

  received_uncalled : (tys : List Ty) (number a : ℕ) (c : Nodes) → count (coded (all_received h tys number a) c) ≡ count c
  received_uncalled [] number a c = refl
  received_uncalled (ty ∷ tys) number a c = received_tally (of_calls f) h ty number a _ (inl refl) ∙ received_uncalled tys (number + 1) (a + 1) c

  body_uncalled : (g : TFunctionT) → over_statements (is_call_of f) g.body ≡ zero → count (coded (low_body h g) Stop) ≡ zero
  body_uncalled g e =
      made_tally (of_calls f) g.made _
      ∙ (received_uncalled g.params 0 first_param _
      ∙ block_quiet (of_calls f) (coded (low_stmts h g.gives g.body (first_of g.params) (length g.locals) 0 (ToEnd 0)) Stop) Stop (stmts_uncalled g.gives g.body e (first_of g.params) (length g.locals) 0 (ToEnd 0) Stop))

  -- of any function: what its code calls stands in its tree
  pub calls_stand : (g : TFunctionT) → CallsTo f (low_function h g).body → TreeCalls f g
  calls_stand g c e = omega (arith, calls_counted f (coded (low_body h g) Stop) c, body_uncalled g e)
