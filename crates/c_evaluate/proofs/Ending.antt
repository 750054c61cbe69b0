-- Where a run is over, no frame changes how it ended.
use Rattle.std.proofs.Common.{◌≡◌, ℕ, List, [], ◌∷◌, slice_get, Some, None, refl, ap, ◌∙◌}
use Rattle.c_tree.specs.declared.span.Span.{Span}
use Rattle.c_tree.specs.declared.operator.UnOp.{UnOp}
use Rattle.c_tree.specs.declared.operator.UnOp.TheVariants as un
use Rattle.c_tree.specs.declared.operator.BinOp.{BinOp}
use Rattle.c_tree.specs.declared.operator.BinOp.TheVariants.{AndAlso, OrElse}
use Rattle.c_types.specs.Types.{Ty}
use Rattle.c_types.specs.Typed.{TExprT, Typed, TKindT, NumberK, NullK, LiteralK, GlobalK, LocalK, UnaryK, BinaryK, AssignK, StepK, IndexK, MemberK, ArrowK, CastK, CallK, InK, OutK, WaitK, HaltK, CardK, TExprTs, NoX, MoreX, TStmtT, BlockZ, EmptyZ, VarsZ, DoZ, IfZ, WhileZ, DoWhileZ, ForZ, SwitchZ, ReturnZ, BreakZ, ContinueZ}
use Rattle.obj_mem.specs.declared.cell.Cell.{Cell}
use Rattle.obj_mem.specs.Worlds.{World}
use Rattle.c_meaning.specs.declared.end.End.{End}
use Rattle.c_meaning.specs.Outcomes.{Val, Stops, Vals, CutOff, Ended, then_values}
use Rattle.c_meaning.specs.Setting.{Setting}
use Rattle.c_meaning.specs.Expressions.{unary, binary, params_of, next_argument, evaluated_all, call}
use Rattle.c_meaning.specs.Statements.{below}
use Rattle.c_meaning.specs.Runs.{final, main_done}
use Rattle.c_evaluate.specs.inner.Machine.{FrameT, FirstW, SecondW, ArgumentW, BackW, ValueW, StepW, BodyW, BeginW, RestW, ArmsW, EndW, SwitchW, OneW, ItemsW, VarsW, FilledW, MainW, Res, V, D, W, val, done, went, with_first, with_second, behind, types_left, with_argument, call_left, outcome_value, with_step, with_body, with_begin, apply, resume}

module _ (s : Setting) (e : End) (w : World) where
  -- an outcome where the run is over
  record IsOver (x : Res) : Type 0 where
    as_val : val x ≡ Stops e w
    as_done : done x ≡ Ended e w
    as_went : went x ≡ CutOff e w

  v_over : IsOver (V (Stops e w))
  v_over = record { as_val = refl; as_done = refl; as_went = refl }

  d_over : IsOver (D (Ended e w))
  d_over = record { as_val = refl; as_done = refl; as_went = refl }

  w_over : IsOver (W (CutOff e w))
  w_over = record { as_val = refl; as_done = refl; as_went = refl }

  -- which of the three a frame gives
  abbrev given : FrameT → Res
  given (FirstW n x) = V (Stops e w)
  given (SecondW n x c) = V (Stops e w)
  given (ArgumentW n f span vs xs) = V (Stops e w)
  given (BackW f vs r span c) = V (Stops e w)
  given (ValueW n r a) = D (Ended e w)
  given (StepW n r a) = D (Ended e w)
  given (BodyW n r a) = D (Ended e w)
  given (BeginW n r a) = D (Ended e w)
  given (RestW n r rest) = D (Ended e w)
  given (ArmsW n r rest) = D (Ended e w)
  given (EndW made) = D (Ended e w)
  given SwitchW = D (Ended e w)
  given (OneW n ty x p) = W (CutOff e w)
  given (ItemsW n rest ty k p) = W (CutOff e w)
  given (VarsW n vars) = W (CutOff e w)
  given FilledW = D (Ended e w)
  given (MainW n main) = V (Stops e w)

  given_over : (f : FrameT) → IsOver (given f)
  given_over (FirstW n x) = v_over
  given_over (SecondW n x c) = v_over
  given_over (ArgumentW n f span vs xs) = v_over
  given_over (BackW f vs r span c) = v_over
  given_over (ValueW n r a) = d_over
  given_over (StepW n r a) = d_over
  given_over (BodyW n r a) = d_over
  given_over (BeginW n r a) = d_over
  given_over (RestW n r rest) = d_over
  given_over (ArmsW n r rest) = d_over
  given_over (EndW made) = d_over
  given_over SwitchW = d_over
  given_over (OneW n ty x p) = w_over
  given_over (ItemsW n rest ty k p) = w_over
  given_over (VarsW n vars) = w_over
  given_over FilledW = d_over
  given_over (MainW n main) = v_over

  module _ (n : ℕ) where
    unary_over : (op : UnOp) (x : TExprT) (span : Span) → unary s n op x span (Stops e w) ≡ Stops e w
    unary_over un.Deref x span = refl
    unary_over un.Address x span = refl
    unary_over un.Not x span = refl
    unary_over un.Minus x span = refl
    unary_over un.Plus x span = refl
    unary_over un.Flip x span = refl

    binary_over : (op : BinOp) (x y : TExprT) (span : Span) (go : World → Val) → binary s n op x y span (Stops e w) go ≡ Stops e w
    binary_over AndAlso x y span go = refl
    binary_over OrElse x y span go = refl
    binary_over op x y span go = refl

    first_over : (kind : TKindT) (ty : Ty) (span : Span) → with_first s n kind ty span (Stops e w) ≡ Stops e w
    first_over (UnaryK op x) ty span = unary_over op x span
    first_over (BinaryK op x y) ty span = binary_over op x y span _
    first_over (AssignK op x y) ty span = refl
    first_over (StepK op x) ty span = refl
    first_over (IndexK x y) ty span = refl
    first_over (MemberK x offset) ty span = refl
    first_over (ArrowK x offset) ty span = refl
    first_over (CastK x) ty span = refl
    first_over (OutK port x) ty span = refl
    first_over (NumberK k) ty span = refl
    first_over NullK ty span = refl
    first_over (LiteralK k) ty span = refl
    first_over (GlobalK k) ty span = refl
    first_over (LocalK k) ty span = refl
    first_over (CallK f xs) ty span = refl
    first_over (InK port) ty span = refl
    first_over WaitK ty span = refl
    first_over HaltK ty span = refl
    first_over CardK ty span = refl

    operand_over : (op : BinOp) (x y : TExprT) (ty : Ty) (span : Span) (c : Cell) → with_second s n (BinaryK op x y) ty span c (Stops e w) ≡ Stops e w
    operand_over AndAlso x y ty span c = refl
    operand_over OrElse x y ty span c = refl
    operand_over op x y ty span c = refl

    second_over : (kind : TKindT) (ty : Ty) (span : Span) (c : Cell) → with_second s n kind ty span c (Stops e w) ≡ Stops e w
    second_over (BinaryK op x y) ty span c = operand_over op x y ty span c
    second_over (AssignK None x y) ty span c = refl
    second_over (AssignK (Some op) x y) ty span c = refl
    second_over (IndexK x y) ty span c = refl
    second_over (UnaryK op x) ty span c = refl
    second_over (StepK op x) ty span c = refl
    second_over (MemberK x offset) ty span c = refl
    second_over (ArrowK x offset) ty span c = refl
    second_over (CastK x) ty span c = refl
    second_over (OutK port x) ty span c = refl
    second_over (NumberK k) ty span c = refl
    second_over NullK ty span c = refl
    second_over (LiteralK k) ty span c = refl
    second_over (GlobalK k) ty span c = refl
    second_over (LocalK k) ty span c = refl
    second_over (CallK f xs) ty span c = refl
    second_over (InK port) ty span c = refl
    second_over WaitK ty span c = refl
    second_over HaltK ty span c = refl
    second_over CardK ty span c = refl

    abbrev more : TExprTs → List Ty → World → Vals
    more xs tys u = evaluated_all s n (below s n) tys xs u

    abbrev calling : ℕ → Span → List Cell → World → Val
    calling f span us u = call s n (below s n) f us span u

    types_over : (f : ℕ) (span : Span) (vs : List Cell) (x : TExprT) (xs : TExprTs) (tys : List Ty) → types_left s f vs ≡ tys → with_argument s n f span vs (MoreX x xs) (Stops e w) ≡ Stops e w
    types_over f span vs x xs [] h = ap (λ l. then_values (behind vs (next_argument s n l x (Stops e w) (more xs))) (calling f span)) h
    types_over f span vs x xs (ty ∷ tys) h = ap (λ l. then_values (behind vs (next_argument s n l x (Stops e w) (more xs))) (calling f span)) h

    argument_over : (f : ℕ) (span : Span) (vs : List Cell) (xs : TExprTs) → with_argument s n f span vs xs (Stops e w) ≡ Stops e w
    argument_over f span vs NoX = refl
    argument_over f span vs (MoreX x xs) = types_over f span vs x xs (types_left s f vs) refl

    value_over : (r : Cell) (a : TStmtT) → outcome_value s n r a (Stops e w) ≡ Ended e w
    value_over r (DoZ x) = refl
    value_over r (IfZ x a b) = refl
    value_over r (WhileZ x a) = refl
    value_over r (DoWhileZ a x) = refl
    value_over r (ForZ made first (Some x) step a) = refl
    value_over r (ForZ made first None step a) = refl
    value_over r (SwitchZ x made arms) = refl
    value_over r (ReturnZ (Some x)) = refl
    value_over r (ReturnZ None) = refl
    value_over r (BlockZ made body) = refl
    value_over r EmptyZ = refl
    value_over r (VarsZ vars) = refl
    value_over r BreakZ = refl
    value_over r ContinueZ = refl

    step_over : (r : Cell) (a : TStmtT) → with_step s n r a (Stops e w) ≡ Ended e w
    step_over r (ForZ made first test (Some y) a) = refl
    step_over r (ForZ made first test None a) = refl
    step_over r (DoZ x) = refl
    step_over r (IfZ x a b) = refl
    step_over r (WhileZ x a) = refl
    step_over r (DoWhileZ a x) = refl
    step_over r (SwitchZ x made arms) = refl
    step_over r (ReturnZ x) = refl
    step_over r (BlockZ made body) = refl
    step_over r EmptyZ = refl
    step_over r (VarsZ vars) = refl
    step_over r BreakZ = refl
    step_over r ContinueZ = refl

    body_over : (r : Cell) (a : TStmtT) → with_body s n r a (Ended e w) ≡ Ended e w
    body_over r (ForZ made first test step a) = refl
    body_over r (DoZ x) = refl
    body_over r (IfZ x a b) = refl
    body_over r (WhileZ x a) = refl
    body_over r (DoWhileZ a x) = refl
    body_over r (SwitchZ x made arms) = refl
    body_over r (ReturnZ x) = refl
    body_over r (BlockZ made body) = refl
    body_over r EmptyZ = refl
    body_over r (VarsZ vars) = refl
    body_over r BreakZ = refl
    body_over r ContinueZ = refl

    begin_over : (r : Cell) (a : TStmtT) → with_begin s n r a (Ended e w) ≡ Ended e w
    begin_over r (ForZ made first test step a) = refl
    begin_over r (DoZ x) = refl
    begin_over r (IfZ x a b) = refl
    begin_over r (WhileZ x a) = refl
    begin_over r (DoWhileZ a x) = refl
    begin_over r (SwitchZ x made arms) = refl
    begin_over r (ReturnZ x) = refl
    begin_over r (BlockZ made body) = refl
    begin_over r EmptyZ = refl
    begin_over r (VarsZ vars) = refl
    begin_over r BreakZ = refl
    begin_over r ContinueZ = refl

  apply_over : (f : FrameT) (x : Res) → IsOver x → apply s f x ≡ given f
  apply_over (FirstW n (Typed kind ty span)) x o = ap (λ v. V (with_first s n kind ty span v)) o.as_val ∙ ap V (first_over n kind ty span)
  apply_over (SecondW n (Typed kind ty span) c) x o = ap (λ v. V (with_second s n kind ty span c v)) o.as_val ∙ ap V (second_over n kind ty span c)
  apply_over (ArgumentW n f span vs xs) x o = ap (λ v. V (with_argument s n f span vs xs v)) o.as_val ∙ ap V (argument_over n f span vs xs)
  apply_over (BackW f vs r span c) x o = ap (λ z. V (call_left (params_of (slice_get s.functions f)) vs r span c z)) o.as_done
  apply_over (ValueW n r a) x o = ap (λ v. D (outcome_value s n r a v)) o.as_val ∙ ap D (value_over n r a)
  apply_over (StepW n r a) x o = ap (λ v. D (with_step s n r a v)) o.as_val ∙ ap D (step_over n r a)
  apply_over (BodyW n r a) x o = ap (λ v. D (with_body s n r a v)) o.as_done ∙ ap D (body_over n r a)
  apply_over (BeginW n r a) x o = ap (λ v. D (with_begin s n r a v)) o.as_done ∙ ap D (begin_over n r a)
  apply_over (RestW n r rest) x o = ap (λ z. apply s (RestW n r rest) (D z)) o.as_done
  apply_over (ArmsW n r rest) x o = ap (λ z. apply s (ArmsW n r rest) (D z)) o.as_done
  apply_over (EndW made) x o = ap (λ z. apply s (EndW made) (D z)) o.as_done
  apply_over SwitchW x o = ap (λ z. apply s SwitchW (D z)) o.as_done
  apply_over (OneW n ty y p) x o = ap (λ z. apply s (OneW n ty y p) (V z)) o.as_val
  apply_over (ItemsW n rest ty k p) x o = ap (λ z. apply s (ItemsW n rest ty k p) (W z)) o.as_went
  apply_over (VarsW n vars) x o = ap (λ z. apply s (VarsW n vars) (W z)) o.as_went
  apply_over FilledW x o = ap (λ z. apply s FilledW (W z)) o.as_went
  apply_over (MainW n main) x o = ap (λ z. apply s (MainW n main) (D z)) o.as_done

  resume_over : (k : List FrameT) (x : Res) → IsOver x → resume s k x ≡ final e w
  resume_over [] x o = ap main_done o.as_val
  resume_over (f ∷ k) x o = ap (resume s k) (apply_over f x o) ∙ resume_over k (given f) (given_over f)

  pub val_ends : (k : List FrameT) → resume s k (V (Stops e w)) ≡ final e w
  val_ends k = resume_over k (V (Stops e w)) v_over

  pub done_ends : (k : List FrameT) → resume s k (D (Ended e w)) ≡ final e w
  done_ends k = resume_over k (D (Ended e w)) d_over

  pub went_ends : (k : List FrameT) → resume s k (W (CutOff e w)) ≡ final e w
  went_ends k = resume_over k (W (CutOff e w)) w_over
