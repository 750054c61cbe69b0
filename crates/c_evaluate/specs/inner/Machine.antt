-- The machine: what it looks at, what it has still to do, and what of the meaning is left there.
use Rattle.std.specs.Prelude.{ℕ, List, [], ◌∷◌, ◌++◌, length, drop, slice_get, Option, Some, None}
use Rattle.kit_base.specs.declared.event.Event.{Event}
use Rattle.c_tree.specs.declared.span.Span.{Span}
use Rattle.c_tree.specs.declared.operator.BinOp.TheVariants.{AndAlso, OrElse}
use Rattle.c_types.specs.Types.{Ty}
use Rattle.c_types.specs.Typed.{TExprT, Typed, TKindT, UnaryK, BinaryK, AssignK, StepK, IndexK, MemberK, ArrowK, CastK, OutK, TExprTs, NoX, MoreX}
use Rattle.c_types.specs.Typed.{TInitT, TInitTs, TVarT, TStmtT, DoZ, IfZ, WhileZ, DoWhileZ, ForZ, SwitchZ, ReturnZ, TStmtTs, TArmTs}
use Rattle.obj_mem.specs.declared.cell.Cell.{Cell}
use Rattle.obj_mem.specs.Objects.{end_from}
use Rattle.obj_mem.specs.Stores.{Store, fresh_all}
use Rattle.obj_mem.specs.Worlds.{World, on_store, spend, happened, bare}
use Rattle.c_meaning.specs.declared.end.End.{End}
use Rattle.c_meaning.specs.declared.end.End.TheVariants.{Stray}
use Rattle.c_meaning.specs.Outcomes as out
use Rattle.c_meaning.specs.Outcomes.{Val, Stops, Vals, Values, Short, Went, Through, CutOff, Done, Goes, Breaks, Continues, Returns, Ended, Turn}
use Rattle.c_meaning.specs.Outcomes.{DoTurn, nowhere, asked, then_went, then_values, then_done}
use Rattle.c_meaning.specs.Setting.{Setting}
use Rattle.c_meaning.specs.Operators.{converted}
use Rattle.c_meaning.specs.Cells.{end_temporary}
use Rattle.c_meaning.specs.Expressions.{with_value, tested, dropped, truth_of, unary, binary, second_operated, assign, second_assigned, step_taken}
use Rattle.c_meaning.specs.Expressions.{index, second_indexed, member_at, arrow, output, call, params_of, next_argument, all_released, evaluated}
use Rattle.c_meaning.specs.Expressions.{evaluated_all}
use Rattle.c_meaning.specs.Initialisers.{one_filled, filled, all_filled, variables_filled}
use Rattle.c_meaning.specs.Statements.{left, body_done, step_done, turn, arms_before, labels, switch_done, switched, returned, does, does_maybe}
use Rattle.c_meaning.specs.Statements.{does_all, does_arms, below}
use Rattle.c_meaning.specs.Runs.{Final, main_done}
use Rattle.c_evaluate.specs.Evaluation.{Left, left_of}
use Rattle.c_evaluate.specs.declared.frame.Outcome.{Outcome}
use Rattle.c_evaluate.specs.declared.frame.Outcome.TheVariants.{Value, Place, Nothing}
use Rattle.c_evaluate.specs.declared.frame.How.{How}
use Rattle.c_evaluate.specs.declared.frame.How.TheVariants.{On, Break, Continue, Return}

pub data FocusT : Type 0 where
  EvalF : (bound : ℕ) → TExprT → FocusT
  FillF : (bound : ℕ) → TInitT → Ty → (place : Cell) → FocusT
  DoF : (bound : ℕ) → (result : Cell) → TStmtT → FocusT
  OutcomeF : Outcome → FocusT
  MadeF : Event → Outcome → FocusT
  ExitF : How → FocusT
  FullF : FocusT

-- what a call keeps of its caller: how many objects there were, its function, its locals, the frames in use
pub record CallerT : Type 0 where
  pub objects : ℕ
  pub function : Option ℕ
  pub locals : List (Option ℕ)
  pub used : ℕ

pub data FrameT : Type 0 where
  FirstW : (bound : ℕ) → TExprT → FrameT
  SecondW : (bound : ℕ) → TExprT → (first : Cell) → FrameT
  ArgumentW : (bound function : ℕ) → Span → (args : List Cell) → TExprTs → FrameT
  BackW : (function : ℕ) → (args : List Cell) → (result : Cell) → Span → CallerT → FrameT
  ValueW : (bound : ℕ) → (result : Cell) → TStmtT → FrameT
  StepW : (bound : ℕ) → (result : Cell) → TStmtT → FrameT
  BodyW : (bound : ℕ) → (result : Cell) → TStmtT → FrameT
  BeginW : (bound : ℕ) → (result : Cell) → TStmtT → FrameT
  RestW : (bound : ℕ) → (result : Cell) → TStmtTs → FrameT
  ArmsW : (bound : ℕ) → (result : Cell) → TArmTs → FrameT
  EndW : List ℕ → FrameT
  SwitchW : FrameT
  OneW : (bound : ℕ) → Ty → TExprT → (place : Cell) → FrameT
  ItemsW : (bound : ℕ) → TInitTs → Ty → (k : ℕ) → (place : Cell) → FrameT
  VarsW : (bound : ℕ) → List TVarT → FrameT
  FilledW : FrameT
  MainW : (bound main : ℕ) → FrameT

-- it goes on, or the run is over
pub data Config : Type 0 where
  Going : FocusT → List FrameT → Store → Config
  Over : End → Config

-- ---- what a configuration stands for

-- what comes of an expression, of a statement, of an initialiser
pub data Res : Type 0 where
  V : Val → Res
  D : Done → Res
  W : Went → Res

-- the run is over there, or strays where something else was to come
abbrev pub stopped : {R : Type 0} → (End → World → R) → Res → R
stopped stop (V (out.Value c w)) = stop (Stray nowhere) w
stopped stop (V (out.Place p w)) = stop (Stray nowhere) w
stopped stop (V (out.NoValue w)) = stop (Stray nowhere) w
stopped stop (V (Stops end w)) = stop end w
stopped stop (D (Goes w)) = stop (Stray nowhere) w
stopped stop (D (Breaks w)) = stop (Stray nowhere) w
stopped stop (D (Continues w)) = stop (Stray nowhere) w
stopped stop (D (Returns c w)) = stop (Stray nowhere) w
stopped stop (D (Ended end w)) = stop end w
stopped stop (W (Through w)) = stop (Stray nowhere) w
stopped stop (W (CutOff end w)) = stop end w

abbrev pub val : Res → Val
val (V r) = r
val (D r) = stopped Stops (D r)
val (W r) = stopped Stops (W r)

abbrev pub done : Res → Done
done (V r) = stopped Ended (V r)
done (D r) = r
done (W r) = stopped Ended (W r)

abbrev pub went : Res → Went
went (V r) = stopped CutOff (V r)
went (D r) = stopped CutOff (D r)
went (W r) = r

-- ---- the rest of the meaning of an expression, behind its first operand and behind its second

abbrev pub with_first : Setting → (bound : ℕ) → TKindT → Ty → Span → Val → Val
with_first s n (UnaryK op x) ty span v = unary s n op x span v
with_first s n (BinaryK op x y) ty span v = binary s n op x y span v (evaluated s n (below s n) y)
with_first s n (AssignK op x y) ty span v = assign s n op x y span v (evaluated s n (below s n) y)
with_first s n (StepK op x) ty span v = step_taken s n op x span v
with_first s n (IndexK x y) ty span v = index s n ty x y span v (evaluated s n (below s n) y)
with_first s n (MemberK x offset) ty span v = member_at ty x span offset v
with_first s n (ArrowK x offset) ty span v = arrow s n x span offset v
with_first s n (CastK x) ty span v = with_value Stops s n x v (λ c w. asked Stops span w (converted ty c) (λ z. out.Value z w))
with_first s n (OutK port x) ty span v = output s n port x v
with_first s n kind ty span v = v

abbrev pub with_second : Setting → (bound : ℕ) → TKindT → Ty → Span → (first : Cell) → Val → Val
with_second s n (BinaryK AndAlso x y) ty span c v = truth_of s n y v
with_second s n (BinaryK OrElse x y) ty span c v = truth_of s n y v
with_second s n (BinaryK op x y) ty span c v = second_operated s n op x y span c v
with_second s n (AssignK op x y) ty span c v = second_assigned s n op x y span c v
with_second s n (IndexK x y) ty span c v = second_indexed s n ty y span c v
with_second s n kind ty span c v = v

-- ---- and of calls

-- arguments before others
abbrev pub behind : List Cell → Vals → Vals
behind vs (Values us w) = Values (vs ++ us) w
behind vs (Short end w) = Short end w

-- the types of the parameters behind those that have an argument
abbrev pub types_left : Setting → (function : ℕ) → (args : List Cell) → List Ty
types_left s f vs = drop (length vs) (params_of (slice_get s.functions f))

abbrev pub with_argument : Setting → (bound function : ℕ) → Span → (args : List Cell) → TExprTs → Val → Val
with_argument s n f span vs NoX v = v
with_argument s n f span vs (MoreX x xs) v =
    then_values (behind vs (next_argument s n (types_left s f vs) x v (λ tys w. evaluated_all s n (below s n) tys xs w)))
    (λ us w. call s n (below s n) f us span w)

abbrev pub caller_of : Store → CallerT
caller_of u = record { objects = length u.objects; function = u.function; locals = u.locals; used = u.used }

abbrev pub back_in : CallerT → Store → Store
back_in c v = record v { objects = end_from c.objects v.objects; function = c.function; locals = c.locals; used = c.used }

abbrev pub call_left : (params : List Ty) → (args : List Cell) → (result : Cell) → Span → CallerT → Done → Val
call_left params vs r span c (Goes w) = out.NoValue (on_store (λ u. all_released params vs (end_temporary r (back_in c u))) w)
call_left params vs r span c (Breaks w) = Stops (Stray span) w
call_left params vs r span c (Continues w) = Stops (Stray span) w
call_left params vs r span c (Returns None w) = out.NoValue (on_store (λ u. all_released params vs (end_temporary r (back_in c u))) w)
call_left params vs r span c (Returns (Some z) w) = out.Value z (on_store (λ u. all_released params vs (back_in c u)) w)
call_left params vs r span c (Ended end w) = Stops end w

-- ---- the rest of the meaning of a statement

-- behind the value that it asks for
abbrev pub outcome_value : Setting → (bound : ℕ) → (result : Cell) → TStmtT → Val → Done
outcome_value s n r (DoZ x) v = dropped Ended s n x v (λ w. Goes w)
outcome_value s n r (IfZ x a b) v = tested Ended s n x v (does s n (below s n) r a) (does_maybe s n (below s n) r b)
outcome_value s n r (WhileZ x a) v = tested Ended s n x v (λ w. body_done (does s n (below s n) r a w) (below s n (Turn r (Some x) None a))) (λ w. Goes w)
outcome_value s n r (DoWhileZ a x) v = tested Ended s n x v (below s n (DoTurn r a x)) (λ w. Goes w)
outcome_value s n r (ForZ made first (Some x) step a) v =
    tested Ended s n x v (λ w. body_done (does s n (below s n) r a w) (λ u. step_done s n (below s n) step u (below s n (Turn r (Some x) step a))))
    (λ w. Goes w)
outcome_value s n r (SwitchZ x made arms) v =
    switched s n x v (λ z w. left made (switch_done
    (does_arms s n (below s n) r (arms_before z arms) arms (on_store (fresh_all s.sizes made) (spend (labels arms) w)))))
outcome_value s n r (ReturnZ (Some x)) v = returned s n r x v
outcome_value s n r a v = stopped Ended (V v)

-- behind the step of a `for`
abbrev pub with_step : Setting → (bound : ℕ) → (result : Cell) → TStmtT → Val → Done
with_step s n r (ForZ made first test (Some y) a) v = dropped Ended s n y v (below s n (Turn r test (Some y) a))
with_step s n r a v = stopped Ended (V v)

-- behind the body of a loop
abbrev pub with_body : Setting → (bound : ℕ) → (result : Cell) → TStmtT → Done → Done
with_body s n r (WhileZ x a) d = body_done d (below s n (Turn r (Some x) None a))
with_body s n r (DoWhileZ a x) d = body_done d (λ w. tested Ended s n x (evaluated s n (below s n) x w) (below s n (DoTurn r a x)) (λ u. Goes u))
with_body s n r (ForZ made first test step a) d = body_done d (λ u. step_done s n (below s n) step u (below s n (Turn r test step a)))
with_body s n r a d = d

-- behind the first part of a `for`
abbrev pub with_begin : Setting → (bound : ℕ) → (result : Cell) → TStmtT → Done → Done
with_begin s n r (ForZ made first test step a) d = then_done d (turn s n (below s n) test step (does s n (below s n) r a) (below s n (Turn r test step a)))
with_begin s n r a d = d

-- behind the initialisers of globals: the call of main
abbrev pub with_inits : Done → (World → Val) → Val
with_inits (Goes w) go = go w
with_inits (Breaks w) go = Stops (Stray nowhere) w
with_inits (Continues w) go = Stops (Stray nowhere) w
with_inits (Returns c w) go = Stops (Stray nowhere) w
with_inits (Ended end w) go = Stops end w

-- ---- a frame, and all of them

abbrev pub apply : Setting → FrameT → Res → Res
apply s (FirstW n (Typed kind ty span)) x = V (with_first s n kind ty span (val x))
apply s (SecondW n (Typed kind ty span) c) x = V (with_second s n kind ty span c (val x))
apply s (ArgumentW n f span vs xs) x = V (with_argument s n f span vs xs (val x))
apply s (BackW f vs r span c) x = V (call_left (params_of (slice_get s.functions f)) vs r span c (done x))
apply s (ValueW n r a) x = D (outcome_value s n r a (val x))
apply s (StepW n r a) x = D (with_step s n r a (val x))
apply s (BodyW n r a) x = D (with_body s n r a (done x))
apply s (BeginW n r a) x = D (with_begin s n r a (done x))
apply s (RestW n r rest) x = D (then_done (done x) (does_all s n (below s n) r rest))
apply s (ArmsW n r rest) x = D (then_done (done x) (does_arms s n (below s n) r 0 rest))
apply s (EndW made) x = D (left made (done x))
apply s SwitchW x = D (switch_done (done x))
apply s (OneW n ty e p) x = W (one_filled s n ty e p (val x))
apply s (ItemsW n rest ty k p) x = W (then_went CutOff (went x) (λ w. all_filled s n (below s n) rest ty k p w))
apply s (VarsW n vars) x = W (then_went CutOff (went x) (variables_filled s n (below s n) vars))
apply s FilledW x = D (then_went Ended (went x) (λ w. Goes w))
apply s (MainW n main) x = V (with_inits (done x) (λ w. call s n (below s n) main [] nowhere (spend 1 w)))

abbrev pub resume : Setting → List FrameT → Res → Final
resume s [] x = main_done (val x)
resume s (f ∷ k) x = resume s k (apply s f x)

abbrev pub val_at : Outcome → World → Val
val_at (Value c) w = out.Value c w
val_at (Place p) w = out.Place p w
val_at Nothing w = out.NoValue w

abbrev pub done_at : How → World → Done
done_at On w = Goes w
done_at Break w = Breaks w
done_at Continue w = Continues w
done_at (Return c) w = Returns c w

abbrev pub result_of : Setting → FocusT → World → Res
result_of s (EvalF n x) w = V (evaluated s n (below s n) x w)
result_of s (FillF n i ty p) w = W (filled s n (below s n) i ty p w)
result_of s (DoF n r a) w = D (does s n (below s n) r a w)
result_of s (OutcomeF v) w = V (val_at v w)
result_of s (MadeF e v) w = V (val_at v (happened e w))
result_of s (ExitF h) w = D (done_at h w)
result_of s FullF w = W (Through w)

-- how the run ends, from here on
unfoldable pub whole : Setting → FocusT → List FrameT → Store → Final
whole s f k u = resume s k (result_of s f (bare u))

-- the port operations that are left, and the end
abbrev pub run_left : Setting → Config → Left
run_left s (Going f k u) = left_of (whole s f k u)
run_left s (Over end) = record { events = []; end = end }

abbrev pub work_left : Setting → Config → ℕ
work_left s (Going f k u) = (whole s f k u).world.work
work_left s (Over end) = 0
