-- What a configuration stands for does not look at what was done before.
use Rattle.std.proofs.Common.{◌≡◌, ℕ, List, [], ◌∷◌, slice_get, Some, None, refl, ap, ◌∙◌}
use Rattle.kit_base.specs.declared.event.Event.{Event}
use Rattle.c_tree.specs.declared.span.Span.{Span}
use Rattle.c_tree.specs.declared.operator.BinOp.{BinOp}
use Rattle.c_tree.specs.declared.operator.BinOp.TheVariants.{AndAlso, OrElse}
use Rattle.c_types.specs.Types.{Ty}
use Rattle.c_types.specs.Typed.{TExprT, Typed, TKindT, NumberK, NullK, LiteralK, GlobalK, LocalK, UnaryK, BinaryK, AssignK, StepK, IndexK, MemberK, ArrowK, CastK, CallK, InK, OutK, WaitK, HaltK, CardK, TExprTs, NoX, MoreX, TStmtT, BlockZ, EmptyZ, VarsZ, DoZ, IfZ, WhileZ, DoWhileZ, ForZ, SwitchZ, ReturnZ, BreakZ, ContinueZ}
use Rattle.obj_mem.specs.declared.cell.Cell.{Cell}
use Rattle.obj_mem.specs.Stores.{fresh_all}
use Rattle.obj_mem.specs.Worlds.{World, on_store, spend, with_past}
use Rattle.obj_mem.proofs.Past.{spend_past, happened_past}
use Rattle.c_meaning.specs.Outcomes as out
use Rattle.c_meaning.specs.Outcomes.{Val, Stops, Vals, Values, Short, Went, Through, CutOff, Done, Goes, Breaks, Continues, Returns, Ended, Turn, DoTurn, nowhere, then_went, then_values, then_done}
use Rattle.c_meaning.specs.Setting.{Setting}
use Rattle.c_meaning.specs.Operators.{converted}
use Rattle.c_meaning.specs.Expressions.{call, params_of}
use Rattle.c_meaning.specs.Statements.{left, arms_before, labels, switch_done, does_arms, below}
use Rattle.c_meaning.specs.Runs.{main_done}
use Rattle.c_meaning.proofs.Past.{val_past, vals_past, went_past, done_past, final_past, val as val_kind, went as went_kind, done as done_kind, asked_past, then_went_past, then_values_past, then_done_past, with_value_past, tested_past, dropped_past, truth_past, unary_past, second_operated_past, binary_past, second_assigned_past, assign_past, step_past, second_indexed_past, index_past, member_past, arrow_past, call_past, argument_past, output_past, evaluated_past, evaluated_all_past, one_past, filled_past, all_filled_past, variables_past, left_past, body_past, step_done_past, turn_past, switch_past, switched_past, returned_past, does_past, does_maybe_past, does_all_past, does_arms_past, below_past}
use Rattle.c_evaluate.specs.declared.frame.Outcome.{Outcome}
use Rattle.c_evaluate.specs.declared.frame.Outcome.TheVariants.{Value, Place, Nothing}
use Rattle.c_evaluate.specs.declared.frame.How.TheVariants.{On, Break, Continue, Return}
use Rattle.c_evaluate.specs.inner.Machine.{FocusT, EvalF, FillF, DoF, OutcomeF, MadeF, ExitF, FullF, CallerT, FrameT, FirstW, SecondW, ArgumentW, BackW, ValueW, StepW, BodyW, BeginW, RestW, ArmsW, EndW, SwitchW, OneW, ItemsW, VarsW, FilledW, MainW, Res, V, D, W, val, done, went, with_first, with_second, behind, types_left, with_argument, call_left, outcome_value, with_step, with_body, with_begin, with_inits, apply, resume, val_at, result_of}

module _ (d : ℕ) (es : List Event) where
  abbrev p : World → World
  p = with_past d es

  abbrev pv : Val → Val
  pv = val_past d es

  abbrev pvs : Vals → Vals
  pvs = vals_past d es

  abbrev pw : Went → Went
  pw = went_past d es

  abbrev pd : Done → Done
  pd = done_past d es

  abbrev pub res_past : Res → Res
  res_past (V r) = V (pv r)
  res_past (D r) = D (pd r)
  res_past (W r) = W (pw r)

  -- ---- outcomes that are taken as others

  val_is : (x : Res) → val (res_past x) ≡ pv (val x)
  val_is (V r) = refl
  val_is (D (Goes w)) = refl
  val_is (D (Breaks w)) = refl
  val_is (D (Continues w)) = refl
  val_is (D (Returns c w)) = refl
  val_is (D (Ended e w)) = refl
  val_is (W (Through w)) = refl
  val_is (W (CutOff e w)) = refl

  done_is : (x : Res) → done (res_past x) ≡ pd (done x)
  done_is (V (out.Value c w)) = refl
  done_is (V (out.Place c w)) = refl
  done_is (V (out.NoValue w)) = refl
  done_is (V (Stops e w)) = refl
  done_is (D r) = refl
  done_is (W (Through w)) = refl
  done_is (W (CutOff e w)) = refl

  went_is : (x : Res) → went (res_past x) ≡ pw (went x)
  went_is (V (out.Value c w)) = refl
  went_is (V (out.Place c w)) = refl
  went_is (V (out.NoValue w)) = refl
  went_is (V (Stops e w)) = refl
  went_is (D (Goes w)) = refl
  went_is (D (Breaks w)) = refl
  went_is (D (Continues w)) = refl
  went_is (D (Returns c w)) = refl
  went_is (D (Ended e w)) = refl
  went_is (W r) = refl

  lost_each : (r : Val) → done (V (pv r)) ≡ pd (done (V r))
  lost_each r = done_is (V r)

  lost : (r' r : Val) → r' ≡ pv r → done (V r') ≡ pd (done (V r))
  lost r' r e = ap (λ x. done (V x)) e ∙ lost_each r

  module _ (s : Setting) (n : ℕ) where
    -- ---- expressions

    first_past : (kind : TKindT) (ty : Ty) (span : Span) (r' r : Val) → r' ≡ pv r → with_first s n kind ty span r' ≡ pv (with_first s n kind ty span r)
    first_past (UnaryK op x) ty span r' r e = unary_past d es s n (below s n) (below_past d es s n) op x span r' r e
    first_past (BinaryK op x y) ty span r' r e = binary_past d es s n (below s n) (below_past d es s n) op x y span _ (evaluated_past d es s n (below s n) (below_past d es s n) y) r' r e
    first_past (AssignK op x y) ty span r' r e = assign_past d es s n (below s n) (below_past d es s n) op x y span _ (evaluated_past d es s n (below s n) (below_past d es s n) y) r' r e
    first_past (StepK op x) ty span r' r e = step_past d es s n (below s n) (below_past d es s n) op x span r' r e
    first_past (IndexK x y) ty span r' r e = index_past d es s n (below s n) (below_past d es s n) ty x y span _ (evaluated_past d es s n (below s n) (below_past d es s n) y) r' r e
    first_past (MemberK x offset) ty span r' r e = member_past d es s n (below s n) (below_past d es s n) ty x span offset r' r e
    first_past (ArrowK x offset) ty span r' r e = arrow_past d es s n (below s n) (below_past d es s n) x span offset r' r e
    first_past (CastK x) ty span r' r e = with_value_past d es s n (below s n) (below_past d es s n) (val_kind d es) x _ (λ c w. asked_past d es (val_kind d es) span w (converted ty c) _ _ (λ z. refl)) r' r e
    first_past (OutK port x) ty span r' r e = output_past d es s n (below s n) (below_past d es s n) port x r' r e
    first_past (NumberK k) ty span r' r e = e
    first_past NullK ty span r' r e = e
    first_past (LiteralK k) ty span r' r e = e
    first_past (GlobalK k) ty span r' r e = e
    first_past (LocalK k) ty span r' r e = e
    first_past (CallK f xs) ty span r' r e = e
    first_past (InK port) ty span r' r e = e
    first_past WaitK ty span r' r e = e
    first_past HaltK ty span r' r e = e
    first_past CardK ty span r' r e = e

    second_operand : (op : BinOp) (x y : TExprT) (ty : Ty) (span : Span) (c : Cell) (r' r : Val) → r' ≡ pv r → with_second s n (BinaryK op x y) ty span c r' ≡ pv (with_second s n (BinaryK op x y) ty span c r)
    second_operand AndAlso x y ty span c r' r e = truth_past d es s n (below s n) (below_past d es s n) y r' r e
    second_operand OrElse x y ty span c r' r e = truth_past d es s n (below s n) (below_past d es s n) y r' r e
    second_operand op x y ty span c r' r e = second_operated_past d es s n (below s n) (below_past d es s n) op x y span c r' r e

    second_past : (kind : TKindT) (ty : Ty) (span : Span) (c : Cell) (r' r : Val) → r' ≡ pv r → with_second s n kind ty span c r' ≡ pv (with_second s n kind ty span c r)
    second_past (BinaryK op x y) ty span c r' r e = second_operand op x y ty span c r' r e
    second_past (AssignK op x y) ty span c r' r e = second_assigned_past d es s n (below s n) (below_past d es s n) op x y span c r' r e
    second_past (IndexK x y) ty span c r' r e = second_indexed_past d es s n (below s n) (below_past d es s n) ty y span c r' r e
    second_past (UnaryK op x) ty span c r' r e = e
    second_past (StepK op x) ty span c r' r e = e
    second_past (MemberK x offset) ty span c r' r e = e
    second_past (ArrowK x offset) ty span c r' r e = e
    second_past (CastK x) ty span c r' r e = e
    second_past (OutK port x) ty span c r' r e = e
    second_past (NumberK k) ty span c r' r e = e
    second_past NullK ty span c r' r e = e
    second_past (LiteralK k) ty span c r' r e = e
    second_past (GlobalK k) ty span c r' r e = e
    second_past (LocalK k) ty span c r' r e = e
    second_past (CallK f xs) ty span c r' r e = e
    second_past (InK port) ty span c r' r e = e
    second_past WaitK ty span c r' r e = e
    second_past HaltK ty span c r' r e = e
    second_past CardK ty span c r' r e = e

    behind_past : (vs : List Cell) (r' r : Vals) → r' ≡ pvs r → behind vs r' ≡ pvs (behind vs r)
    behind_past vs r' (Values us w) e = ap (behind vs) e
    behind_past vs r' (Short end w) e = ap (behind vs) e

    argument_is : (f : ℕ) (span : Span) (vs : List Cell) (xs : TExprTs) (r' r : Val) → r' ≡ pv r → with_argument s n f span vs xs r' ≡ pv (with_argument s n f span vs xs r)
    argument_is f span vs NoX r' r e = e
    argument_is f span vs (MoreX x xs) r' r e =
        then_values_past d es _ (λ us w. call_past d es s n (below s n) (below_past d es s n) f us span w) _ _
        (behind_past vs _ _ (argument_past d es s n (below s n) (below_past d es s n) (types_left s f vs) x _ (λ tys w. evaluated_all_past d es s n (below s n) (below_past d es s n) tys xs w) r' r e))

    -- ---- statements

    value_is : (r : Cell) (a : TStmtT) (v' v : Val) → v' ≡ pv v → outcome_value s n r a v' ≡ pd (outcome_value s n r a v)
    value_is r (DoZ x) v' v e = dropped_past d es s n (below s n) (below_past d es s n) (done_kind d es) x _ (λ w. refl) v' v e
    value_is r (IfZ x a b) v' v e = tested_past d es s n (below s n) (below_past d es s n) (done_kind d es) x _ _ (does_past d es s n (below s n) (below_past d es s n) r a) (does_maybe_past d es s n (below s n) (below_past d es s n) r b) v' v e
    value_is r (WhileZ x a) v' v e = tested_past d es s n (below s n) (below_past d es s n) (done_kind d es) x _ _ (λ w. body_past d es s n (below s n) (below_past d es s n) _ (below_past d es s n (Turn r (Some x) None a)) _ _ (does_past d es s n (below s n) (below_past d es s n) r a w)) (λ w. refl) v' v e
    value_is r (DoWhileZ a x) v' v e = tested_past d es s n (below s n) (below_past d es s n) (done_kind d es) x _ _ (below_past d es s n (DoTurn r a x)) (λ w. refl) v' v e
    value_is r (ForZ made first (Some x) step a) v' v e = tested_past d es s n (below s n) (below_past d es s n) (done_kind d es) x _ _ (λ w. body_past d es s n (below s n) (below_past d es s n) _ (λ u. step_done_past d es s n (below s n) (below_past d es s n) step u _ (below_past d es s n (Turn r (Some x) step a))) _ _ (does_past d es s n (below s n) (below_past d es s n) r a w)) (λ w. refl) v' v e
    value_is r (ForZ made first None step a) v' v e = lost v' v e
    value_is r (SwitchZ x made arms) v' v e =
        let after : ℕ → World → Done = λ z t. left made (switch_done (does_arms s n (below s n) r (arms_before z arms) arms (on_store (fresh_all s.sizes made) t))) in
        switched_past d es s n (below s n) (below_past d es s n) x _ (λ z w. ap (after z) (spend_past d es (labels arms) w) ∙ left_past d es s n (below s n) (below_past d es s n) made _ _ (switch_past d es s n (below s n) (below_past d es s n) _ _ (does_arms_past d es s n (below s n) (below_past d es s n) r (arms_before z arms) arms (on_store (fresh_all s.sizes made) (spend (labels arms) w))))) v' v e
    value_is r (ReturnZ (Some x)) v' v e = returned_past d es s n (below s n) (below_past d es s n) r x v' v e
    value_is r (ReturnZ None) v' v e = lost v' v e
    value_is r (BlockZ made body) v' v e = lost v' v e
    value_is r EmptyZ v' v e = lost v' v e
    value_is r (VarsZ vars) v' v e = lost v' v e
    value_is r BreakZ v' v e = lost v' v e
    value_is r ContinueZ v' v e = lost v' v e

    step_is : (r : Cell) (a : TStmtT) (v' v : Val) → v' ≡ pv v → with_step s n r a v' ≡ pd (with_step s n r a v)
    step_is r (ForZ made first test (Some y) a) v' v e = dropped_past d es s n (below s n) (below_past d es s n) (done_kind d es) y _ (below_past d es s n (Turn r test (Some y) a)) v' v e
    step_is r (ForZ made first test None a) v' v e = lost v' v e
    step_is r (DoZ x) v' v e = lost v' v e
    step_is r (IfZ x a b) v' v e = lost v' v e
    step_is r (WhileZ x a) v' v e = lost v' v e
    step_is r (DoWhileZ a x) v' v e = lost v' v e
    step_is r (SwitchZ x made arms) v' v e = lost v' v e
    step_is r (ReturnZ x) v' v e = lost v' v e
    step_is r (BlockZ made body) v' v e = lost v' v e
    step_is r EmptyZ v' v e = lost v' v e
    step_is r (VarsZ vars) v' v e = lost v' v e
    step_is r BreakZ v' v e = lost v' v e
    step_is r ContinueZ v' v e = lost v' v e

    body_is : (r : Cell) (a : TStmtT) (x' x : Done) → x' ≡ pd x → with_body s n r a x' ≡ pd (with_body s n r a x)
    body_is r (WhileZ y a) x' x e = body_past d es s n (below s n) (below_past d es s n) _ (below_past d es s n (Turn r (Some y) None a)) x' x e
    body_is r (DoWhileZ a y) x' x e = body_past d es s n (below s n) (below_past d es s n) _ (λ w. tested_past d es s n (below s n) (below_past d es s n) (done_kind d es) y _ _ (below_past d es s n (DoTurn r a y)) (λ u. refl) _ _ (evaluated_past d es s n (below s n) (below_past d es s n) y w)) x' x e
    body_is r (ForZ made first test step a) x' x e = body_past d es s n (below s n) (below_past d es s n) _ (λ u. step_done_past d es s n (below s n) (below_past d es s n) step u _ (below_past d es s n (Turn r test step a))) x' x e
    body_is r (DoZ y) x' x e = e
    body_is r (IfZ y a b) x' x e = e
    body_is r (SwitchZ y made arms) x' x e = e
    body_is r (ReturnZ y) x' x e = e
    body_is r (BlockZ made body) x' x e = e
    body_is r EmptyZ x' x e = e
    body_is r (VarsZ vars) x' x e = e
    body_is r BreakZ x' x e = e
    body_is r ContinueZ x' x e = e

    begin_is : (r : Cell) (a : TStmtT) (x' x : Done) → x' ≡ pd x → with_begin s n r a x' ≡ pd (with_begin s n r a x)
    begin_is r (ForZ made first test step a) x' x e = then_done_past d es _ (turn_past d es s n (below s n) (below_past d es s n) test step _ _ (does_past d es s n (below s n) (below_past d es s n) r a) (below_past d es s n (Turn r test step a))) x' x e
    begin_is r (WhileZ y a) x' x e = e
    begin_is r (DoWhileZ a y) x' x e = e
    begin_is r (DoZ y) x' x e = e
    begin_is r (IfZ y a b) x' x e = e
    begin_is r (SwitchZ y made arms) x' x e = e
    begin_is r (ReturnZ y) x' x e = e
    begin_is r (BlockZ made body) x' x e = e
    begin_is r EmptyZ x' x e = e
    begin_is r (VarsZ vars) x' x e = e
    begin_is r BreakZ x' x e = e
    begin_is r ContinueZ x' x e = e

  -- ---- frames

  left_call : (tys : List Ty) (vs : List Cell) (r : Cell) (span : Span) (c : CallerT) (x : Done) → call_left tys vs r span c (pd x) ≡ pv (call_left tys vs r span c x)
  left_call tys vs r span c (Goes w) = refl
  left_call tys vs r span c (Breaks w) = refl
  left_call tys vs r span c (Continues w) = refl
  left_call tys vs r span c (Returns None w) = refl
  left_call tys vs r span c (Returns (Some z) w) = refl
  left_call tys vs r span c (Ended e w) = refl

  inits_each : (go : World → Val) → ((w : World) → go (p w) ≡ pv (go w)) → (x : Done) → with_inits (pd x) go ≡ pv (with_inits x go)
  inits_each go h (Goes w) = h w
  inits_each go h (Breaks w) = refl
  inits_each go h (Continues w) = refl
  inits_each go h (Returns c w) = refl
  inits_each go h (Ended e w) = refl

  module _ (s : Setting) where
    apply_past : (f : FrameT) (x : Res) → apply s f (res_past x) ≡ res_past (apply s f x)
    apply_past (FirstW n (Typed kind ty span)) x = ap V (first_past s n kind ty span _ _ (val_is x))
    apply_past (SecondW n (Typed kind ty span) c) x = ap V (second_past s n kind ty span c _ _ (val_is x))
    apply_past (ArgumentW n f span vs xs) x = ap V (argument_is s n f span vs xs _ _ (val_is x))
    apply_past (BackW f vs r span c) x = ap V (ap (call_left (params_of (slice_get s.functions f)) vs r span c) (done_is x) ∙ left_call (params_of (slice_get s.functions f)) vs r span c (done x))
    apply_past (ValueW n r a) x = ap D (value_is s n r a _ _ (val_is x))
    apply_past (StepW n r a) x = ap D (step_is s n r a _ _ (val_is x))
    apply_past (BodyW n r a) x = ap D (body_is s n r a _ _ (done_is x))
    apply_past (BeginW n r a) x = ap D (begin_is s n r a _ _ (done_is x))
    apply_past (RestW n r rest) x = ap D (then_done_past d es _ (does_all_past d es s n (below s n) (below_past d es s n) r rest) _ _ (done_is x))
    apply_past (ArmsW n r rest) x = ap D (then_done_past d es _ (does_arms_past d es s n (below s n) (below_past d es s n) r 0 rest) _ _ (done_is x))
    apply_past (EndW made) x = ap D (left_past d es s 0 (below s 0) (below_past d es s 0) made _ _ (done_is x))
    apply_past SwitchW x = ap D (switch_past d es s 0 (below s 0) (below_past d es s 0) _ _ (done_is x))
    apply_past (OneW n ty e at) x = ap W (one_past d es s n (below s n) (below_past d es s n) ty e at _ _ (val_is x))
    apply_past (ItemsW n rest ty k at) x = ap W (then_went_past d es (went_kind d es) _ (λ w. all_filled_past d es s n (below s n) (below_past d es s n) rest ty k at w) _ _ (went_is x))
    apply_past (VarsW n vars) x = ap W (then_went_past d es (went_kind d es) _ (variables_past d es s n (below s n) (below_past d es s n) vars) _ _ (went_is x))
    apply_past FilledW x = ap D (then_went_past d es (done_kind d es) _ (λ w. refl) _ _ (went_is x))
    apply_past (MainW n main) x =
        let go : World → Val = call s n (below s n) main [] nowhere in
        ap V (ap (λ r. with_inits r (λ w. go (spend 1 w))) (done_is x) ∙ inits_each (λ w. go (spend 1 w)) (λ w. ap go (spend_past d es 1 w) ∙ call_past d es s n (below s n) (below_past d es s n) main [] nowhere (spend 1 w)) (done x))

    main_past : (r : Val) → main_done (pv r) ≡ final_past d es (main_done r)
    main_past (out.Value c w) = refl
    main_past (out.Place c w) = refl
    main_past (out.NoValue w) = refl
    main_past (Stops e w) = refl

    pub resume_past : (k : List FrameT) (x : Res) → resume s k (res_past x) ≡ final_past d es (resume s k x)
    resume_past [] x = ap main_done (val_is x) ∙ main_past (val x)
    resume_past (f ∷ k) x = ap (resume s k) (apply_past f x) ∙ resume_past k (apply s f x)

    val_at_past : (v : Outcome) (w : World) → val_at v (p w) ≡ pv (val_at v w)
    val_at_past (Value c) w = refl
    val_at_past (Place c) w = refl
    val_at_past Nothing w = refl

    pub result_past : (f : FocusT) (w : World) → result_of s f (p w) ≡ res_past (result_of s f w)
    result_past (EvalF n x) w = ap V (evaluated_past d es s n (below s n) (below_past d es s n) x w)
    result_past (FillF n i ty at) w = ap W (filled_past d es s n (below s n) (below_past d es s n) i ty at w)
    result_past (DoF n r a) w = ap D (does_past d es s n (below s n) (below_past d es s n) r a w)
    result_past (OutcomeF v) w = ap V (val_at_past v w)
    result_past (MadeF e v) w = ap V (ap (val_at v) (happened_past d es e w) ∙ val_at_past v _)
    result_past (ExitF On) w = refl
    result_past (ExitF Break) w = refl
    result_past (ExitF Continue) w = refl
    result_past (ExitF (Return c)) w = refl
    result_past FullF w = refl
