-- Each step keeps what is left of the run, and comes nearer to its end.
use Rattle.std.proofs.Common.{◌≡◌, ℕ, zero, suc, ◌+◌, ◌*◌, ◌≤◌, ◌<◌, arith, Bool, true, false, List, [], ◌∷◌, ◌++◌, length, drop, slice_get, Ok, Err, refl, sym, ap, ◌∙◌, append_assoc}
use Rattle.std.proofs.lemmas.List.{append-nil}
use Rattle.std.specs.Prelude.{Option, Some, None, if◌then◌else◌}
use Rattle.kit_base.specs.declared.event.Event.TheVariants as event
use Rattle.c_tree.specs.declared.span.Span.{Span}
use Rattle.c_tree.specs.declared.operator.UnOp.{UnOp}
use Rattle.c_tree.specs.declared.operator.UnOp.TheVariants as un
use Rattle.c_tree.specs.declared.operator.BinOp.{BinOp}
use Rattle.c_tree.specs.declared.operator.BinOp.TheVariants.{AndAlso, OrElse}
use Rattle.c_tree.specs.declared.operator.StepOp.{StepOp}
use Rattle.c_types.specs.Types.{Ty, IntY}
use Rattle.c_types.specs.Typed.{TExprT, Typed, TKindT, NumberK, NullK, LiteralK, GlobalK, LocalK, UnaryK, BinaryK, AssignK, StepK, IndexK, MemberK, ArrowK, CastK, CallK, InK, OutK, WaitK, HaltK, CardK, TExprTs, NoX, MoreX, TInitT, OneI, TextI, ListI, TInitTs, NoI, MoreI, TVarT, TStmtT, BlockZ, EmptyZ, VarsZ, DoZ, IfZ, WhileZ, DoWhileZ, ForZ, SwitchZ, ReturnZ, BreakZ, ContinueZ, MaybeZ, NoneZ, SomeZ, TStmtTs, NoZ, MoreZ, TArmTs, NoB, MoreB, CaseB, DefaultB, StmtB}
use Rattle.c_types.specs.Programs.{TFunctionT}
use Rattle.obj_mem.specs.declared.cell.Cell.{Cell}
use Rattle.obj_mem.specs.declared.cell.Cell.TheVariants.{Unwritten, Num, Null}
use Rattle.obj_mem.specs.declared.refusal.Refusal.TheVariants.{Strays, Faults}
use Rattle.obj_mem.specs.Stores.{Store, local_object, with_answers, fresh_all, end_all, has_room, entered}
use Rattle.obj_mem.specs.Worlds.{World, on_store, spend}
use Rattle.obj_mem.specs.Queries.{Answer, word_of, truth, step as pointer_step, further, first_cell}
use Rattle.c_meaning.specs.declared.end.End.{End}
use Rattle.c_meaning.specs.declared.end.End.TheVariants.{Halted, Starved, Stray, Deep, OutOfBound}
use Rattle.c_meaning.specs.Outcomes as out
use Rattle.c_meaning.specs.Outcomes.{Val, Stops, Vals, Values, Short, Went, Through, CutOff, Done, Goes, Breaks, Continues, Returns, Ended, Turn, DoTurn, Body, nowhere, asked, then_went, then_values, in_front, then_done}
use Rattle.c_meaning.specs.Kinds.{type_of, span_of}
use Rattle.c_types.specs.Kinds.{is_structure}
use Rattle.c_meaning.specs.Setting.{Setting, words, result_of}
use Rattle.c_meaning.specs.Operators.{read_as, converted, cell_unary, stepped, operated}
use Rattle.c_meaning.specs.Cells.{released, cells_set, stored, member_of_value}
use Rattle.c_meaning.specs.Expressions as expr
use Rattle.c_meaning.specs.Expressions.{with_value, step_operator, gives_old, old_or_new, assigned, second_assigned, step_taken, result_place, with_result, params_of, next_argument, call_done, evaluated, evaluated_all}
use Rattle.c_meaning.specs.Initialisers.{object_of, one_filled, filled, all_filled, variables_filled}
use Rattle.c_meaning.specs.Statements as stmt
use Rattle.c_meaning.specs.Statements.{arms_before, labels, does_all, does_arms, returned_as, below}
use Rattle.c_meaning.specs.Runs.{Final}
use Rattle.c_evaluate.specs.declared.frame.Outcome.{Outcome}
use Rattle.c_evaluate.specs.declared.frame.Outcome.TheVariants.{Value, Place, Nothing}
use Rattle.c_evaluate.specs.declared.frame.How.{How}
use Rattle.c_evaluate.specs.declared.frame.How.TheVariants.{On, Break, Continue, Return}
use Rattle.c_evaluate.specs.inner.Storing.{Kept, With, at_span, then_ok, cells_in, taken, assigned_in, stepped_in, second_assigned_in, member_in, one_in, either}
use Rattle.c_evaluate.specs.inner.Machine as m
use Rattle.c_evaluate.specs.inner.Machine.{FocusT, EvalF, FillF, DoF, OutcomeF, MadeF, ExitF, FullF, CallerT, FrameT, FirstW, SecondW, ArgumentW, BackW, ValueW, StepW, BodyW, BeginW, RestW, ArmsW, EndW, SwitchW, OneW, ItemsW, VarsW, FilledW, MainW, Config, Going, Over, Res, V, D, W, stopped, behind, types_left, with_argument, caller_of, call_left, apply, resume, val_at, done_at, whole}
use Rattle.c_evaluate.specs.inner.Steps as st
use Rattle.c_evaluate.specs.inner.Steps.{on, outcome, value, value_here, place_here, full, rest_of, arms_of, vars_of, items_of, in_room, body_of, enter, call_of, call, args_of, input, eval, unary_first, second_of_node, either_of, binary_of, member_first, first_step, combined, binary_second, second_step, argument_in, argument_step, turn_of, again, do_again, step_of, begin_of, exec, other_of, value_looped, value_step, step_step, after_body, after_on, body_step, begin_step, switched, back_step, main_step, fill, take_outcome, take_exit, fill_up, step}
use Rattle.c_evaluate.specs.inner.Turning.{Works}
use Rattle.c_evaluate.proofs.Linked.{spent, Keeps, Holds, then_kept, then_held, asked_kept, asked_held, cells_kept, stored_kept, text_kept, rest_kept, params_kept}
use Rattle.c_evaluate.proofs.Moving.{busy, load, size, Later, to, over, Way, val_way, done_way, went_way, over_later, asked_later, kept_later, taken_later, on_then, tested_later, dropped_later, placed_later}

-- ---- assignments

module _ (s : Setting) (n low : ℕ) where
  assigned_held : (x : TExprT) (span : Span) (p c : Cell) (d : ℕ) (u : Store) → low ≤ d → Holds low (assigned s n x span p c (spent d u)) (assigned_in s n x span p c u)
  assigned_held x span p c d u le =
      asked_held low span d le u (converted (type_of x) c) _ _ (λ z.
      then_held low _ _ (λ e v l. (e, l, refl)) _ _ (stored_kept s n low 0 (type_of x) (span_of x) p z d u le))

  one_held : (s2 : Span) (d : ℕ) (u : Store) → low ≤ d → (old : Cell) (z : Answer Cell) (go : Cell → Val) (next : (Cell × Cell) → With Cell) → ((z : Cell) → Holds low (go z) (next (old, z))) → Holds low (asked Stops s2 (spent d u) z go) (then_ok (then_ok (at_span s2 z) (λ z. Ok (old, z))) next)
  one_held s2 d u le old (Ok z) go next h = h z
  one_held s2 d u le old (Err Strays) go next h = (d, u, le, refl)
  one_held s2 d u le old (Err (Faults k)) go next h = (d, u, le, refl)

  two_held : (s1 s2 : Span) (d : ℕ) (u : Store) → low ≤ d → (a : Answer Cell) (b : Cell → Answer Cell) (go : Cell → Cell → Val) (next : (Cell × Cell) → With Cell) → ((old z : Cell) → Holds low (go old z) (next (old, z))) → Holds low (asked Stops s1 (spent d u) a (λ old. asked Stops s2 (spent d u) (b old) (go old))) (then_ok (then_ok (at_span s1 a) (λ old. then_ok (at_span s2 (b old)) (λ z. Ok (old, z)))) next)
  two_held s1 s2 d u le (Ok old) b go next h = one_held s2 d u le old (b old) (go old) next (h old)
  two_held s1 s2 d u le (Err Strays) b go next h = (d, u, le, refl)
  two_held s1 s2 d u le (Err (Faults k)) b go next h = (d, u, le, refl)

  old_held : (b : Bool) (old : Cell) (r : Val) (q : With Cell) → Holds low r q → Holds low (old_or_new b old r) (then_ok q (λ v. Ok (either b old v.0, v.1)))
  old_held true old r (Ok t) x = (x.0, x.1, ap (old_or_new true old) x.2)
  old_held false old r (Ok t) x = (x.0, x.1, x.2)
  old_held true old r (Err end) x = (x.0, x.1, x.2, ap (old_or_new true old) x.3)
  old_held false old r (Err end) x = x

  changed_held : (op : BinOp) (x y : TExprT) (span : Span) (p c : Cell) (d : ℕ) (u : Store) → low ≤ d → Holds low (asked Stops (span_of x) (spent d u) (read_as (type_of x) u.objects p) (λ old. asked Stops span (spent d u) (operated s op (type_of x) (type_of y) u.objects old c) (λ z. assigned s n x span p z (spent d u)))) (second_assigned_in s n (Some op) x y span p c u)
  changed_held op x y span p c d u le = two_held (span_of x) span d u le (read_as (type_of x) u.objects p) (λ old. operated s op (type_of x) (type_of y) u.objects old c) _ _ (λ old z. assigned_held x span p z d u le)

  stepped_held : (op : StepOp) (x : TExprT) (span : Span) (p : Cell) (d : ℕ) (u : Store) → low ≤ d → Holds low (asked Stops (span_of x) (spent d u) (read_as (type_of x) u.objects p) (λ old. asked Stops span (spent d u) (operated s (step_operator op) (type_of x) IntY u.objects old (Num 1)) (λ z. old_or_new (gives_old op) old (assigned s n x span p z (spent d u))))) (stepped_in s n op x span p u)
  stepped_held op x span p d u le = two_held (span_of x) span d u le (read_as (type_of x) u.objects p) (λ old. operated s (step_operator op) (type_of x) IntY u.objects old (Num 1)) _ _ (λ old z. old_held (gives_old op) old _ _ (assigned_held x span p z d u le))

  if_held : (b : Bool) (x y : Val) (q r : With Cell) → Holds low x q → Holds low y r → Holds low (if b then x else y) (if b then q else r)
  if_held true x y q r f g = f
  if_held false x y q r f g = g

  member_held : (ty : Ty) (span : Span) (p : Cell) (d : ℕ) (u : Store) → low ≤ d → Holds low (member_of_value ty span p (spent d u)) (member_in ty span p u)
  member_held ty span p d u le = if_held (is_structure ty) _ _ _ _ (d, le, refl) (asked_held low span d le u (read_as ty u.objects p) _ _ (λ c. (d, le, refl)))

  one_kept : (ty : Ty) (p c : Cell) (d : ℕ) (u : Store) → low ≤ d → Keeps low (asked CutOff nowhere (spent d u) (converted ty c) (λ z. then_went CutOff (stored s n 1 ty nowhere p z (spent d u)) (λ v. Through (on_store (released ty z) v)))) (one_in s n ty p c u)
  one_kept ty p c d u le = asked_kept low nowhere d le u (converted ty c) _ _ (λ z. then_kept low _ _ (λ e v l. (e, l, refl)) _ _ (stored_kept s n low 1 ty nowhere p z d u le))

-- ---- calls and arguments

left_none : (xs : List Ty) (k : ℕ) → slice_get xs k ≡ None → drop k xs ≡ []
left_none [] zero h = refl
left_none [] (suc k) h = refl
left_none (y ∷ ys) zero h = absurd cc
left_none (y ∷ ys) (suc k) h = left_none ys k h

some_is : {A : Type 0} (x y : A) → (let p : Option A = Some x in p ≡ Some y) → x ≡ y
some_is x y h = cc

left_some : (xs : List Ty) (k : ℕ) (ty : Ty) → slice_get xs k ≡ Some ty → drop k xs ≡ ty ∷ drop (suc k) xs
left_some [] k ty h = absurd cc
left_some (y ∷ ys) zero ty h = ap (λ z. z ∷ ys) (some_is y ty h)
left_some (y ∷ ys) (suc k) ty h = left_some ys k ty h

one_longer : (vs : List Cell) (c : Cell) → suc (length vs) ≡ length (vs ++ c ∷ [])
one_longer [] c = refl
one_longer (v ∷ vs) c = ap suc (one_longer vs c)

behind_nil : (r : Vals) → r ≡ behind [] r
behind_nil (Values us w) = refl
behind_nil (Short end w) = refl

behind_more : (vs : List Cell) (c : Cell) (r : Vals) → behind vs (in_front c r) ≡ behind (vs ++ c ∷ []) r
behind_more vs c (Values us w) = ap (λ l. Values l w) (sym (append_assoc vs (c ∷ []) us))
behind_more vs c (Short end w) = refl

left_is : (tys : List Ty) (vs : List Cell) (r : Cell) (span : Span) (u : Store) (x : Done) → call_done tys vs r span u x ≡ call_left tys vs r span (caller_of u) x
left_is tys vs r span u (Goes w) = refl
left_is tys vs r span u (Breaks w) = refl
left_is tys vs r span u (Continues w) = refl
left_is tys vs r span u (Returns None w) = refl
left_is tys vs r span u (Returns (Some c) w) = refl
left_is tys vs r span u (Ended e w) = refl

module _ (s : Setting) (run : Final) (room : ℕ) where
  -- a value that comes of a store
  value_later : (low : ℕ) (k : List FrameT) (r : Val) (q : With Cell) → Holds low r q → run ≡ resume s k (V r) → load k + 1 < 9 * low + room → Later s run room (value q k)
  value_later low k r (Ok t) x e h = to s run room x.0 (OutcomeF (Value t.0)) k t.1 (e ∙ ap (λ z. resume s k (V z)) x.2) (omega (arith, x.1, h))
  value_later low k r (Err end) x e h = over_later s (val_way s k) run room x.0 end x.1 (e ∙ ap (λ z. resume s k (V z)) x.3) (omega (arith, x.2, h))

  full_later : (low : ℕ) (k : List FrameT) (r : Went) (q : Kept) → Keeps low r q → run ≡ resume s k (W r) → load k + 1 < 9 * low + room → Later s run room (full q k)
  full_later low k r (Ok t) x e h = to s run room x.0 FullF k t (e ∙ ap (λ z. resume s k (W z)) x.2) (omega (arith, x.1, h))
  full_later low k r (Err end) x e h = over_later s (went_way s k) run room x.0 end x.1 (e ∙ ap (λ z. resume s k (W z)) x.3) (omega (arith, x.2, h))

  answer_later : (d : ℕ) (k : List FrameT) (u : Store) (span : Span) (x : Answer Cell) → run ≡ resume s k (V (asked Stops span (spent d u) x (λ z. out.Value z (spent d u)))) → load k + 1 < 9 * d + room → Later s run room (value_here (at_span span x) k u)
  answer_later d k u span x e h = asked_later s (val_way s k) run room d u span x _ _ e (omega (arith, h)) (λ z q. to s run room d (OutcomeF (Value z)) k u q h)

  place_later : (d : ℕ) (k : List FrameT) (u : Store) (span : Span) (x : Answer Cell) → run ≡ resume s k (V (asked Stops span (spent d u) x (λ z. out.Place z (spent d u)))) → load k + 1 < 9 * d + room → Later s run room (place_here (at_span span x) k u)
  place_later d k u span x e h = asked_later s (val_way s k) run room d u span x _ _ e (omega (arith, h)) (λ z q. to s run room d (OutcomeF (Place z)) k u q h)

  -- ---- lists

  rest_later : (n d : ℕ) (r : Cell) (xs : TStmtTs) (k : List FrameT) (u : Store) → run ≡ resume s k (D (does_all s n (below s n) r xs (spent d u))) → load k + 1 < 9 * d + room → Later s run room (rest_of n r xs k u)
  rest_later n d r NoZ k u e h = to s run room d (ExitF On) k u e h
  rest_later n d r (MoreZ a rest) k u e h = to s run room d (DoF n r a) (RestW n r rest ∷ k) u e (omega (arith, h))

  arms_later : (n d : ℕ) (r : Cell) (j : ℕ) (xs : TArmTs) (k : List FrameT) (u : Store) → run ≡ resume s k (D (does_arms s n (below s n) r j xs (spent d u))) → load k + 1 < 9 * d + room → Later s run room (arms_of n r j xs k u)
  arms_later n d r j NoB k u e h = to s run room d (ExitF On) k u e h
  arms_later n d r (suc j) (MoreB a rest) k u e h = arms_later n d r j rest k u e h
  arms_later n d r zero (MoreB (CaseB label) rest) k u e h = arms_later n d r zero rest k u e h
  arms_later n d r zero (MoreB DefaultB rest) k u e h = arms_later n d r zero rest k u e h
  arms_later n d r zero (MoreB (StmtB a) rest) k u e h = to s run room d (DoF n r a) (ArmsW n r rest ∷ k) u e (omega (arith, h))

  vars_later : (n d : ℕ) (xs : List TVarT) (k : List FrameT) (u : Store) → run ≡ resume s k (W (variables_filled s n (below s n) xs (spent d u))) → load k + 1 < 9 * d + room → Later s run room (vars_of n xs k u)
  vars_later n d [] k u e h = to s run room d FullF k u e h
  vars_later n d (v ∷ vs) k u e h = asked_later s (went_way s (VarsW n vs ∷ k)) run room d u nowhere (object_of v.global v.object u) _ _ e (omega (arith, h)) (λ p q. to s run room (d + 1) (FillF n v.init v.ty p) (VarsW n vs ∷ k) u q (omega (arith, h)))

  items_later : (n d : ℕ) (xs : TInitTs) (ty : Ty) (j : ℕ) (p : Cell) (k : List FrameT) (u : Store) → run ≡ resume s k (W (all_filled s n (below s n) xs ty j p (spent d u))) → load k + 1 < 9 * d + room → Later s run room (items_of s n xs ty j p k u)
  items_later n d NoI ty j p k u e h = full_later d k _ _ (rest_kept s n d ty j p d u (omega arith)) e h
  items_later n d (MoreI i rest) ty j p k u e h = to s run room d (FillF n i _ p) (ItemsW n rest ty (j + 1) _ ∷ k) u e (omega (arith, h))

  -- ---- calls

  room_later : (b : Bool) (n d : ℕ) (span : Span) (k : List FrameT) (u : Store) (go : World → Val) (c : Config) → run ≡ resume s k (V (expr.if_room b span (spent d u) go)) → 0 < 9 * d + room → (run ≡ resume s k (V (go (spent d u))) → Later s run room c) → Later s run room (in_room b span c)
  room_later true n d span k u go c e h f = f e
  room_later false n d span k u go c e h f = over_later s (val_way s k) run room d (Deep span) u e h

  body_later : (m d f : ℕ) (g : TFunctionT) (vs : List Cell) (r : Cell) (span : Span) (k : List FrameT) (u : Store) → slice_get s.functions f ≡ Some g → run ≡ resume s k (V (call_done g.params vs r span u (below s (suc m) (Body f vs r) (spent d (entered s.sizes f u))))) → load k + 2 < 9 * d + room → Later s run room (body_of s m f g vs r span k u)
  body_later m d f g vs r span k u same e h =
      let w : World = spent d (entered s.sizes f u) in
      let k1 : List FrameT = BackW f vs r span (caller_of u) ∷ k in
      let e1 : run ≡ resume s k1 (D (stmt.body_of s m (below s m) (Some g) vs r w)) =
      e ∙ ap (λ x. resume s k (V x)) (left_is g.params vs r span u (below s (suc m) (Body f vs r) w))
      ∙ ap (λ o. resume s k (V (call_left (params_of o) vs r span (caller_of u) (below s (suc m) (Body f vs r) w)))) (sym same)
      ∙ ap (λ o. resume s k1 (D (stmt.body_of s m (below s m) o vs r w))) same in
      kept_later s (done_way s k1) run room d _ _ _ _ (params_kept s m d 0 g.params vs d (fresh_all s.sizes g.made (entered s.sizes f u)) (omega arith)) e1 (omega (arith, h)) (λ d1 t le q.
      rest_later m d1 r g.body k1 t q (omega (arith, h, le)))

  enter_later : (n d f : ℕ) (g : TFunctionT) (vs : List Cell) (r : Cell) (span : Span) (k : List FrameT) (u : Store) → slice_get s.functions f ≡ Some g → run ≡ resume s k (V (expr.enter s n (below s n) f g vs r span (spent d u))) → load k + 2 < 9 * d + room → Later s run room (st.enter s n f g vs r span k u)
  enter_later zero d f g vs r span k u same e h = over_later s (val_way s k) run room d OutOfBound u e (omega (arith, h))
  enter_later (suc m) d f g vs r span k u same e h = room_later (has_room s.sizes f u) (suc m) d span k u _ _ e (omega (arith, h)) (λ q. body_later m d f g vs r span k u same q h)

  call_of_later : (n d f : ℕ) (o : Option TFunctionT) (vs : List Cell) (span : Span) (k : List FrameT) (u : Store) → slice_get s.functions f ≡ o → run ≡ resume s k (V (expr.call_of s n (below s n) f o vs span (spent d u))) → load k + 2 < 9 * d + room → Later s run room (st.call_of s n f o vs span k u)
  call_of_later n d f None vs span k u same e h = over_later s (val_way s k) run room d (Stray span) u e (omega (arith, h))
  call_of_later n d f (Some g) vs span k u same e h = enter_later n d f g vs (result_place g.gives u) span k (with_result s g.gives u) same e h

  call_later : (n d f : ℕ) (vs : List Cell) (span : Span) (k : List FrameT) (u : Store) → run ≡ resume s k (V (expr.call s n (below s n) f vs span (spent d u))) → load k + 2 < 9 * d + room → Later s run room (st.call s n f vs span k u)
  call_later n d f vs span k u e h = call_of_later n d f (slice_get s.functions f) vs span k u refl e h

  abbrev calling : ℕ → ℕ → Span → List Cell → World → Val
  calling n f span us w = expr.call s n (below s n) f us span w

  args_later : (n d f : ℕ) (span : Span) (vs : List Cell) (xs : TExprTs) (k : List FrameT) (u : Store) → run ≡ resume s k (V (then_values (behind vs (evaluated_all s n (below s n) (types_left s f vs) xs (spent d u))) (calling n f span))) → load k + 2 < 9 * d + room → Later s run room (args_of s n f span vs xs k u)
  args_later n d f span vs NoX k u e h = call_later n d f vs span k u (e ∙ ap (λ l. resume s k (V (calling n f span l (spent d u)))) (append-nil vs)) h
  args_later n d f span vs (MoreX x xs) k u e h = to s run room d (EvalF n x) (ArgumentW n f span vs (MoreX x xs) ∷ k) u e (omega (arith, h))

  abbrev vals_way : (n f : ℕ) (span : Span) (vs : List Cell) (k : List FrameT) → Way Vals
  vals_way n f span vs k = record { stop = Short; rest = λ r. resume s k (V (then_values (behind vs r) (calling n f span))); ends = λ e w. (val_way s k).ends e w }

  argument_of : (o : Option Ty) (n d f : ℕ) (span : Span) (vs : List Cell) (x : TExprT) (xs : TExprTs) (v : Outcome) (k : List FrameT) (u : Store) → slice_get (params_of (slice_get s.functions f)) (length vs) ≡ o → run ≡ resume s k (V (with_argument s n f span vs (MoreX x xs) (val_at v (spent d u)))) → load k + 2 < 9 * d + room → Later s run room (on (taken s n x v u) (λ t. on (argument_in o x t.0) (λ z. args_of s n f span (vs ++ z ∷ []) xs k t.1)))
  argument_of None n d f span vs x xs v k u same e h =
      let more : List Ty → World → Vals = λ tys w. evaluated_all s n (below s n) tys xs w in
      let e1 = e ∙ ap (λ tys. resume s k (V (then_values (behind vs (next_argument s n tys x (val_at v (spent d u)) more)) (calling n f span)))) (left_none (params_of (slice_get s.functions f)) (length vs) same) in
      taken_later s (vals_way n f span vs k) run room n d x v u _ _ e1 (omega (arith, h)) (λ d1 c t le q. over_later s (vals_way n f span vs k) run room d1 (Stray (span_of x)) t q (omega (arith, h, le)))
  argument_of (Some ty) n d f span vs x xs v k u same e h =
      let params : List Ty = params_of (slice_get s.functions f) in
      let more : List Ty → World → Vals = λ tys w. evaluated_all s n (below s n) tys xs w in
      let e1 = e ∙ ap (λ tys. resume s k (V (then_values (behind vs (next_argument s n tys x (val_at v (spent d u)) more)) (calling n f span)))) (left_some params (length vs) ty same) in
      taken_later s (vals_way n f span vs k) run room n d x v u _ _ e1 (omega (arith, h)) (λ d1 c t le q.
      asked_later s (vals_way n f span vs k) run room d1 t (span_of x) (converted ty c) _ _ q (omega (arith, h, le)) (λ z q1.
      args_later n d1 f span (vs ++ z ∷ []) xs k t (q1 ∙ ap (λ r. resume s k (V (then_values r (calling n f span)))) (behind_more vs z (more (drop (suc (length vs)) params) (spent d1 t))) ∙ ap (λ j. resume s k (V (then_values (behind (vs ++ z ∷ []) (more (drop j params) (spent d1 t))) (calling n f span)))) (one_longer vs z)) (omega (arith, h, le))))

  argument_later : (n d f : ℕ) (span : Span) (vs : List Cell) (xs : TExprTs) (v : Outcome) (k : List FrameT) (u : Store) → run ≡ resume s k (V (with_argument s n f span vs xs (val_at v (spent d u)))) → load k + 2 < 9 * d + room → Later s run room (argument_step s n f span vs xs v k u)
  argument_later n d f span vs NoX v k u e h = to s run room d (OutcomeF v) k u e (omega (arith, h))
  argument_later n d f span vs (MoreX x xs) v k u e h = argument_of (slice_get (params_of (slice_get s.functions f)) (length vs)) n d f span vs x xs v k u refl e h

  -- ---- expressions

  input_later : (port d : ℕ) (xs : List ℕ) (k : List FrameT) (u : Store) → run ≡ resume s k (V (expr.input port xs (spent d u))) → load k + 1 < 9 * d + room → Later s run room (input port xs k u)
  input_later port d [] k u e h = over_later s (val_way s k) run room d Starved u e (omega (arith, h))
  input_later port d (x ∷ rest) k u e h = to s run room d (MadeF (event.In port x) (Value (Num x))) k (with_answers rest u) e h

  eval_later : (n : ℕ) (kind : TKindT) (ty : Ty) (span : Span) (k : List FrameT) (u : Store) → run ≡ resume s k (V (evaluated s n (below s n) (Typed kind ty span) (spent 0 u))) → load k + 0 ≤ room → Later s run room (eval s n kind ty span k u)
  unfolding eval
  eval_later n (NumberK x) ty span k u e h = to s run room 1 (OutcomeF (Value (Num x))) k u e (omega (arith, h))
  eval_later n NullK ty span k u e h = to s run room 1 (OutcomeF (Value Null)) k u e (omega (arith, h))
  eval_later n (LiteralK number) ty span k u e h = to s run room 1 (OutcomeF (Place _)) k u e (omega (arith, h))
  eval_later n (GlobalK number) ty span k u e h = to s run room 1 (OutcomeF (Place _)) k u e (omega (arith, h))
  eval_later n (LocalK number) ty span k u e h = place_later 1 k u span (first_cell (local_object u.locals number)) e (omega (arith, h))
  eval_later n (UnaryK op x) ty span k u e h = to s run room 1 (EvalF n x) (FirstW n (Typed (UnaryK op x) ty span) ∷ k) u e (omega (arith, h))
  eval_later n (BinaryK op x y) ty span k u e h = to s run room 1 (EvalF n x) (FirstW n (Typed (BinaryK op x y) ty span) ∷ k) u e (omega (arith, h))
  eval_later n (AssignK op x y) ty span k u e h = to s run room 1 (EvalF n x) (FirstW n (Typed (AssignK op x y) ty span) ∷ k) u e (omega (arith, h))
  eval_later n (StepK op x) ty span k u e h = to s run room 1 (EvalF n x) (FirstW n (Typed (StepK op x) ty span) ∷ k) u e (omega (arith, h))
  eval_later n (IndexK x y) ty span k u e h = to s run room 1 (EvalF n x) (FirstW n (Typed (IndexK x y) ty span) ∷ k) u e (omega (arith, h))
  eval_later n (MemberK x offset) ty span k u e h = to s run room 1 (EvalF n x) (FirstW n (Typed (MemberK x offset) ty span) ∷ k) u e (omega (arith, h))
  eval_later n (ArrowK x offset) ty span k u e h = to s run room 1 (EvalF n x) (FirstW n (Typed (ArrowK x offset) ty span) ∷ k) u e (omega (arith, h))
  eval_later n (CastK x) ty span k u e h = to s run room 1 (EvalF n x) (FirstW n (Typed (CastK x) ty span) ∷ k) u e (omega (arith, h))
  eval_later n (CallK f xs) ty span k u e h = args_later n 1 f span [] xs k u (e ∙ ap (λ r. resume s k (V (then_values r (calling n f span)))) (behind_nil (evaluated_all s n (below s n) (params_of (slice_get s.functions f)) xs (spent 1 u)))) (omega (arith, h))
  eval_later n (InK port) ty span k u e h = input_later port 1 u.answers k u e (omega (arith, h))
  eval_later n (OutK port x) ty span k u e h = to s run room 1 (EvalF n x) (FirstW n (Typed (OutK port x) ty span) ∷ k) u e (omega (arith, h))
  eval_later n WaitK ty span k u e h = to s run room 1 (MadeF event.Wait Nothing) k u e (omega (arith, h))
  eval_later n HaltK ty span k u e h = over_later s (val_way s k) run room 1 Halted u e (omega (arith, h))
  eval_later n CardK ty span k u e h = to s run room 1 (OutcomeF (Value _)) k u e (omega (arith, h))

  unary_later : (n : ℕ) (op : UnOp) (x : TExprT) (span : Span) (v : Outcome) (k : List FrameT) (u : Store) → run ≡ resume s k (V (expr.unary s n op x span (val_at v (spent 0 u)))) → load k + 1 < room → Later s run room (unary_first s n op x span v k u)
  unary_later n un.Deref x span v k u e h = taken_later s (val_way s k) run room n 0 x v u _ _ e (omega (arith, h)) (λ d c t le q. to s run room d (OutcomeF (Place c)) k t q (omega (arith, h)))
  unary_later n un.Address x span (Value c) k u e h = over_later s (val_way s k) run room 0 (Stray span) u e (omega (arith, h))
  unary_later n un.Address x span (Place p) k u e h = to s run room 0 (OutcomeF (Value p)) k u e (omega (arith, h))
  unary_later n un.Address x span Nothing k u e h = over_later s (val_way s k) run room 0 (Stray span) u e (omega (arith, h))
  unary_later n un.Not x span v k u e h = tested_later s (val_way s k) run room n 0 x v u _ _ _ e (omega (arith, h)) (λ d t le q. to s run room d (OutcomeF (Value (truth false))) k t q (omega (arith, h))) (λ d t le q. to s run room d (OutcomeF (Value (truth true))) k t q (omega (arith, h)))
  unary_later n un.Minus x span v k u e h = taken_later s (val_way s k) run room n 0 x v u _ _ e (omega (arith, h)) (λ d c t le q. answer_later d k t span (cell_unary un.Minus c) q (omega (arith, h)))
  unary_later n un.Plus x span v k u e h = taken_later s (val_way s k) run room n 0 x v u _ _ e (omega (arith, h)) (λ d c t le q. answer_later d k t span (cell_unary un.Plus c) q (omega (arith, h)))
  unary_later n un.Flip x span v k u e h = taken_later s (val_way s k) run room n 0 x v u _ _ e (omega (arith, h)) (λ d c t le q. answer_later d k t span (cell_unary un.Flip c) q (omega (arith, h)))

  binary_later : (n : ℕ) (op : BinOp) (x y : TExprT) (ty : Ty) (span : Span) (v : Outcome) (k : List FrameT) (u : Store) → run ≡ resume s k (V (expr.binary s n op x y span (val_at v (spent 0 u)) (evaluated s n (below s n) y))) → load k + 1 < room → Later s run room (binary_of s n op (Typed (BinaryK op x y) ty span) x y v k u)
  binary_later n AndAlso x y ty span v k u e h = tested_later s (val_way s k) run room n 0 x v u _ _ _ e (omega (arith, h)) (λ d t le q. to s run room d (EvalF n y) (SecondW n (Typed (BinaryK AndAlso x y) ty span) Unwritten ∷ k) t q (omega (arith, h))) (λ d t le q. to s run room d (OutcomeF (Value (truth false))) k t q (omega (arith, h)))
  binary_later n OrElse x y ty span v k u e h = tested_later s (val_way s k) run room n 0 x v u _ _ _ e (omega (arith, h)) (λ d t le q. to s run room d (OutcomeF (Value (truth true))) k t q (omega (arith, h))) (λ d t le q. to s run room d (EvalF n y) (SecondW n (Typed (BinaryK OrElse x y) ty span) Unwritten ∷ k) t q (omega (arith, h)))
  binary_later n op x y ty span v k u e h = taken_later s (val_way s k) run room n 0 x v u _ _ e (omega (arith, h)) (λ d c t le q. to s run room d (EvalF n y) (SecondW n (Typed (BinaryK op x y) ty span) c ∷ k) t q (omega (arith, h)))

  member_later : (ty : Ty) (x : TExprT) (span : Span) (offset : ℕ) (v : Outcome) (k : List FrameT) (u : Store) → run ≡ resume s k (V (expr.member_at ty x span offset (val_at v (spent 0 u)))) → load k + 1 < room → Later s run room (member_first ty x span offset v k u)
  member_later ty x span offset (Place p) k u e h = place_later 0 k u span (pointer_step p offset) e (omega (arith, h))
  member_later ty x span offset (Value p) k u e h = value_later 0 k _ _ (member_held s 0 0 ty span (further p offset) 0 u (omega arith)) e (omega (arith, h))
  member_later ty x span offset Nothing k u e h = over_later s (val_way s k) run room 0 (Stray (span_of x)) u e (omega (arith, h))

  first_later : (n : ℕ) (kind : TKindT) (ty : Ty) (span : Span) (v : Outcome) (k : List FrameT) (u : Store) → run ≡ resume s k (V (m.with_first s n kind ty span (val_at v (spent 0 u)))) → load k + 1 < room → Later s run room (first_step s n kind ty span v k u)
  unfolding first_step
  first_later n (UnaryK op x) ty span v k u e h = unary_later n op x span v k u e h
  first_later n (BinaryK op x y) ty span v k u e h = binary_later n op x y ty span v k u e h
  first_later n (AssignK op x y) ty span v k u e h = placed_later s k run room 0 span v u _ _ e (omega (arith, h)) (λ p q. to s run room 0 (EvalF n y) (SecondW n (Typed (AssignK op x y) ty span) p ∷ k) u q (omega (arith, h)))
  first_later n (StepK op x) ty span v k u e h = placed_later s k run room 0 span v u _ _ e (omega (arith, h)) (λ p q. value_later 0 k _ _ (stepped_held s n 0 op x span p 0 u (omega arith)) q (omega (arith, h)))
  first_later n (IndexK x y) ty span v k u e h = taken_later s (val_way s k) run room n 0 x v u _ _ e (omega (arith, h)) (λ d c t le q. to s run room d (EvalF n y) (SecondW n (Typed (IndexK x y) ty span) c ∷ k) t q (omega (arith, h)))
  first_later n (MemberK x offset) ty span v k u e h = member_later ty x span offset v k u e h
  first_later n (ArrowK x offset) ty span v k u e h = taken_later s (val_way s k) run room n 0 x v u _ _ e (omega (arith, h)) (λ d c t le q. place_later d k t span (pointer_step c offset) q (omega (arith, h)))
  first_later n (CastK x) ty span v k u e h = taken_later s (val_way s k) run room n 0 x v u _ _ e (omega (arith, h)) (λ d c t le q. answer_later d k t span (converted ty c) q (omega (arith, h)))
  first_later n (OutK port x) ty span v k u e h = taken_later s (val_way s k) run room n 0 x v u _ _ e (omega (arith, h)) (λ d c t le q. asked_later s (val_way s k) run room d t (span_of x) (word_of c) _ _ q (omega (arith, h)) (λ z q1. to s run room d (MadeF (event.Out port z) Nothing) k t q1 (omega (arith, h))))
  first_later n (NumberK x) ty span v k u e h = to s run room 0 (OutcomeF v) k u e (omega (arith, h))
  first_later n NullK ty span v k u e h = to s run room 0 (OutcomeF v) k u e (omega (arith, h))
  first_later n (LiteralK x) ty span v k u e h = to s run room 0 (OutcomeF v) k u e (omega (arith, h))
  first_later n (GlobalK x) ty span v k u e h = to s run room 0 (OutcomeF v) k u e (omega (arith, h))
  first_later n (LocalK x) ty span v k u e h = to s run room 0 (OutcomeF v) k u e (omega (arith, h))
  first_later n (CallK f xs) ty span v k u e h = to s run room 0 (OutcomeF v) k u e (omega (arith, h))
  first_later n (InK port) ty span v k u e h = to s run room 0 (OutcomeF v) k u e (omega (arith, h))
  first_later n WaitK ty span v k u e h = to s run room 0 (OutcomeF v) k u e (omega (arith, h))
  first_later n HaltK ty span v k u e h = to s run room 0 (OutcomeF v) k u e (omega (arith, h))
  first_later n CardK ty span v k u e h = to s run room 0 (OutcomeF v) k u e (omega (arith, h))

  operand_later : (n : ℕ) (op : BinOp) (x y : TExprT) (ty : Ty) (span : Span) (c : Cell) (v : Outcome) (k : List FrameT) (u : Store) → run ≡ resume s k (V (m.with_second s n (BinaryK op x y) ty span c (val_at v (spent 0 u)))) → load k + 1 < room → Later s run room (binary_second s n op x y span c v k u)
  operand_later n AndAlso x y ty span c v k u e h = tested_later s (val_way s k) run room n 0 y v u _ _ _ e (omega (arith, h)) (λ d t le q. to s run room d (OutcomeF (Value (truth true))) k t q (omega (arith, h))) (λ d t le q. to s run room d (OutcomeF (Value (truth false))) k t q (omega (arith, h)))
  operand_later n OrElse x y ty span c v k u e h = tested_later s (val_way s k) run room n 0 y v u _ _ _ e (omega (arith, h)) (λ d t le q. to s run room d (OutcomeF (Value (truth true))) k t q (omega (arith, h))) (λ d t le q. to s run room d (OutcomeF (Value (truth false))) k t q (omega (arith, h)))
  operand_later n op x y ty span c v k u e h = taken_later s (val_way s k) run room n 0 y v u _ _ e (omega (arith, h)) (λ d z t le q. answer_later d k t span (operated s op (type_of x) (type_of y) t.objects c z) q (omega (arith, h)))

  second_later : (n : ℕ) (kind : TKindT) (ty : Ty) (span : Span) (c : Cell) (v : Outcome) (k : List FrameT) (u : Store) → run ≡ resume s k (V (m.with_second s n kind ty span c (val_at v (spent 0 u)))) → load k + 1 < room → Later s run room (second_step s n kind ty span c v k u)
  unfolding second_step
  second_later n (BinaryK op x y) ty span c v k u e h = operand_later n op x y ty span c v k u e h
  second_later n (AssignK None x y) ty span c v k u e h = taken_later s (val_way s k) run room n 0 y v u _ _ e (omega (arith, h)) (λ d z t le q. value_later 0 k _ _ (assigned_held s n 0 x span c z d t le) q (omega (arith, h)))
  second_later n (AssignK (Some op) x y) ty span c v k u e h = taken_later s (val_way s k) run room n 0 y v u _ _ e (omega (arith, h)) (λ d z t le q. value_later 0 k _ _ (changed_held s n 0 op x y span c z d t le) q (omega (arith, h)))
  second_later n (IndexK x y) ty span c v k u e h = taken_later s (val_way s k) run room n 0 y v u _ _ e (omega (arith, h)) (λ d z t le q. place_later d k t span (stepped (words s ty) c z) q (omega (arith, h)))
  second_later n (UnaryK op x) ty span c v k u e h = to s run room 0 (OutcomeF v) k u e (omega (arith, h))
  second_later n (StepK op x) ty span c v k u e h = to s run room 0 (OutcomeF v) k u e (omega (arith, h))
  second_later n (MemberK x offset) ty span c v k u e h = to s run room 0 (OutcomeF v) k u e (omega (arith, h))
  second_later n (ArrowK x offset) ty span c v k u e h = to s run room 0 (OutcomeF v) k u e (omega (arith, h))
  second_later n (CastK x) ty span c v k u e h = to s run room 0 (OutcomeF v) k u e (omega (arith, h))
  second_later n (OutK port x) ty span c v k u e h = to s run room 0 (OutcomeF v) k u e (omega (arith, h))
  second_later n (NumberK x) ty span c v k u e h = to s run room 0 (OutcomeF v) k u e (omega (arith, h))
  second_later n NullK ty span c v k u e h = to s run room 0 (OutcomeF v) k u e (omega (arith, h))
  second_later n (LiteralK x) ty span c v k u e h = to s run room 0 (OutcomeF v) k u e (omega (arith, h))
  second_later n (GlobalK x) ty span c v k u e h = to s run room 0 (OutcomeF v) k u e (omega (arith, h))
  second_later n (LocalK x) ty span c v k u e h = to s run room 0 (OutcomeF v) k u e (omega (arith, h))
  second_later n (CallK f xs) ty span c v k u e h = to s run room 0 (OutcomeF v) k u e (omega (arith, h))
  second_later n (InK port) ty span c v k u e h = to s run room 0 (OutcomeF v) k u e (omega (arith, h))
  second_later n WaitK ty span c v k u e h = to s run room 0 (OutcomeF v) k u e (omega (arith, h))
  second_later n HaltK ty span c v k u e h = to s run room 0 (OutcomeF v) k u e (omega (arith, h))
  second_later n CardK ty span c v k u e h = to s run room 0 (OutcomeF v) k u e (omega (arith, h))

  -- ---- loops

  for_turn_later : (n d : ℕ) (r : Cell) (made : List ℕ) (first : MaybeZ) (test step : Option TExprT) (a : TStmtT) (k : List FrameT) (u : Store) → run ≡ resume s k (D (stmt.turn s n (below s n) test step (stmt.does s n (below s n) r a) (below s n (Turn r test step a)) (spent d u))) → load k + 3 < 9 * d + room → Later s run room (turn_of n r (ForZ made first test step a) test a k u)
  for_turn_later n d r made first None step a k u e h = to s run room d (DoF n r a) (BodyW n r (ForZ made first None step a) ∷ k) u e (omega (arith, h))
  for_turn_later n d r made first (Some x) step a k u e h = to s run room d (EvalF n x) (ValueW n r (ForZ made first (Some x) step a) ∷ k) u e (omega (arith, h))

  for_again_later : (n d : ℕ) (r : Cell) (made : List ℕ) (first : MaybeZ) (test step : Option TExprT) (a : TStmtT) (k : List FrameT) (u : Store) → run ≡ resume s k (D (below s n (Turn r test step a) (spent d u))) → load k + 3 < 9 * d + room → Later s run room (again n r (ForZ made first test step a) test a k u)
  for_again_later zero d r made first test step a k u e h = over_later s (done_way s k) run room d OutOfBound u e (omega (arith, h))
  for_again_later (suc m) d r made first test step a k u e h = for_turn_later m d r made first test step a k u e h

  while_again_later : (n d : ℕ) (r : Cell) (x : TExprT) (a : TStmtT) (k : List FrameT) (u : Store) → run ≡ resume s k (D (below s n (Turn r (Some x) None a) (spent d u))) → load k + 3 < 9 * d + room → Later s run room (again n r (WhileZ x a) (Some x) a k u)
  while_again_later zero d r x a k u e h = over_later s (done_way s k) run room d OutOfBound u e (omega (arith, h))
  while_again_later (suc m) d r x a k u e h = to s run room d (EvalF m x) (ValueW m r (WhileZ x a) ∷ k) u e (omega (arith, h))

  do_again_later : (n d : ℕ) (r : Cell) (a : TStmtT) (x : TExprT) (k : List FrameT) (u : Store) → run ≡ resume s k (D (below s n (DoTurn r a x) (spent d u))) → load k + 3 < 9 * d + room → Later s run room (do_again n r (DoWhileZ a x) a k u)
  do_again_later zero d r a x k u e h = over_later s (done_way s k) run room d OutOfBound u e (omega (arith, h))
  do_again_later (suc m) d r a x k u e h = to s run room d (DoF m r a) (BodyW m r (DoWhileZ a x) ∷ k) u e (omega (arith, h))

  for_step_later : (n d : ℕ) (r : Cell) (made : List ℕ) (first : MaybeZ) (test step : Option TExprT) (a : TStmtT) (k : List FrameT) (u : Store) → run ≡ resume s k (D (stmt.step_done s n (below s n) step (spent d u) (below s n (Turn r test step a)))) → load k + 3 < 9 * d + room → Later s run room (step_of n r (ForZ made first test step a) test step a k u)
  for_step_later n d r made first test None a k u e h = for_again_later n d r made first test None a k u e h
  for_step_later n d r made first test (Some y) a k u e h = to s run room d (EvalF n y) (StepW n r (ForZ made first test (Some y) a) ∷ k) u e (omega (arith, h))

  -- ---- statements begun

  begin_later : (n d : ℕ) (r : Cell) (made : List ℕ) (first : MaybeZ) (test step : Option TExprT) (a : TStmtT) (k : List FrameT) (u : Store) → run ≡ resume s k (D (then_done (stmt.does_maybe s n (below s n) r first (spent d u)) (stmt.turn s n (below s n) test step (stmt.does s n (below s n) r a) (below s n (Turn r test step a))))) → load k + 3 < 9 * d + room → Later s run room (begin_of n r (ForZ made first test step a) first test a k u)
  begin_later n d r made NoneZ test step a k u e h = for_turn_later n d r made NoneZ test step a k u e h
  begin_later n d r made (SomeZ b) test step a k u e h = to s run room d (DoF n r b) (BeginW n r (ForZ made (SomeZ b) test step a) ∷ k) u e (omega (arith, h))

  exec_later : (n : ℕ) (r : Cell) (a : TStmtT) (k : List FrameT) (u : Store) → run ≡ resume s k (D (stmt.does s n (below s n) r a (spent 0 u))) → load k ≤ room → Later s run room (exec s n r a k u)
  unfolding exec
  exec_later n r (BlockZ made body) k u e h = rest_later n 1 r body (EndW made ∷ k) (fresh_all s.sizes made u) e (omega (arith, h))
  exec_later n r EmptyZ k u e h = to s run room 1 (ExitF On) k u e (omega (arith, h))
  exec_later n r (VarsZ vars) k u e h = vars_later n 1 vars (FilledW ∷ k) u e (omega (arith, h))
  exec_later n r (DoZ x) k u e h = to s run room 1 (EvalF n x) (ValueW n r (DoZ x) ∷ k) u e (omega (arith, h))
  exec_later n r (IfZ x a b) k u e h = to s run room 1 (EvalF n x) (ValueW n r (IfZ x a b) ∷ k) u e (omega (arith, h))
  exec_later n r (WhileZ x a) k u e h = to s run room 1 (EvalF n x) (ValueW n r (WhileZ x a) ∷ k) u e (omega (arith, h))
  exec_later n r (DoWhileZ a x) k u e h = to s run room 1 (DoF n r a) (BodyW n r (DoWhileZ a x) ∷ k) u e (omega (arith, h))
  exec_later n r (ForZ made first test step a) k u e h = begin_later n 1 r made first test step a (EndW made ∷ k) (fresh_all s.sizes made u) e (omega (arith, h))
  exec_later n r (SwitchZ x made arms) k u e h = to s run room 1 (EvalF n x) (ValueW n r (SwitchZ x made arms) ∷ k) u e (omega (arith, h))
  exec_later n r (ReturnZ None) k u e h = to s run room 1 (ExitF (Return None)) k u e (omega (arith, h))
  exec_later n r (ReturnZ (Some x)) k u e h = to s run room 1 (EvalF n x) (ValueW n r (ReturnZ (Some x)) ∷ k) u e (omega (arith, h))
  exec_later n r BreakZ k u e h = to s run room 1 (ExitF Break) k u e (omega (arith, h))
  exec_later n r ContinueZ k u e h = to s run room 1 (ExitF Continue) k u e (omega (arith, h))

  -- ---- what came of the values of statements

  other_later : (n d : ℕ) (r : Cell) (b : MaybeZ) (k : List FrameT) (u : Store) → run ≡ resume s k (D (stmt.does_maybe s n (below s n) r b (spent d u))) → load k + 1 < 9 * d + room → Later s run room (other_of n r b k u)
  other_later n d r NoneZ k u e h = to s run room d (ExitF On) k u e h
  other_later n d r (SomeZ a) k u e h = to s run room d (DoF n r a) k u e (omega (arith, h))

  returned_later : (b : Bool) (n d size : ℕ) (ty : Ty) (r c : Cell) (k : List FrameT) (u : Store) → run ≡ resume s k (D (if b then then_went Ended (cells_set nowhere 1 n size (Some c) r (spent d u)) (λ v. Returns (Some r) (on_store (released ty c) v)) else Returns (Some c) (spent d u))) → load k + 1 < 9 * d + room → Later s run room (st.return_of (if b then then_ok (cells_in nowhere n size (Some c) r u) (λ v. Ok (r, released ty c v)) else Ok (c, u)) k)
  returned_later true n d size ty r c k u e h = on_then s (done_way s k) run room (cells_in nowhere n size (Some c) r u) _ _ (kept_later s (done_way s k) run room d _ _ _ _ (cells_kept d nowhere 1 n size (Some c) r d u (omega arith)) e (omega (arith, h)) (λ d1 t le q. to s run room d1 (ExitF (Return (Some r))) k (released ty c t) q (omega (arith, h, le))))
  returned_later false n d size ty r c k u e h = to s run room d (ExitF (Return (Some c))) k u e h

  lost_later : (v : Outcome) (k : List FrameT) (u : Store) → run ≡ resume s k (D (stopped Ended (V (val_at v (spent 0 u))))) → load k + 1 < room → Later s run room (Over (Stray nowhere))
  lost_later (Value c) k u e h = over_later s (done_way s k) run room 0 (Stray nowhere) u e (omega (arith, h))
  lost_later (Place c) k u e h = over_later s (done_way s k) run room 0 (Stray nowhere) u e (omega (arith, h))
  lost_later Nothing k u e h = over_later s (done_way s k) run room 0 (Stray nowhere) u e (omega (arith, h))

  looped_later : (n : ℕ) (r : Cell) (a : TStmtT) (x : TExprT) (b : TStmtT) (v : Outcome) (k : List FrameT) (u : Store) (go : World → Done) → run ≡ resume s k (D (expr.tested Ended s n x (val_at v (spent 0 u)) go (λ w. Goes w))) → ((d : ℕ) (t : Store) → run ≡ resume s k (D (go (spent d t))) → run ≡ resume s (BodyW n r a ∷ k) (D (stmt.does s n (below s n) r b (spent d t)))) → load k + 3 < room → Later s run room (value_looped s n r a x b v k u)
  looped_later n r a x b v k u go e f h = tested_later s (done_way s k) run room n 0 x v u _ _ _ e (omega (arith, h)) (λ d t le q. to s run room d (DoF n r b) (BodyW n r a ∷ k) t (f d t q) (omega (arith, h))) (λ d t le q. to s run room d (ExitF On) k t q (omega (arith, h)))

  value_step_later : (n : ℕ) (r : Cell) (a : TStmtT) (v : Outcome) (k : List FrameT) (u : Store) → run ≡ resume s k (D (m.outcome_value s n r a (val_at v (spent 0 u)))) → load k + 3 < room → Later s run room (value_step s n r a v k u)
  unfolding value_step
  value_step_later n r (DoZ x) v k u e h = dropped_later s (done_way s k) run room n 0 x v u _ _ e (omega (arith, h)) (λ d t le q. to s run room d (ExitF On) k t q (omega (arith, h)))
  value_step_later n r (IfZ x a b) v k u e h = tested_later s (done_way s k) run room n 0 x v u _ _ _ e (omega (arith, h)) (λ d t le q. to s run room d (DoF n r a) k t q (omega (arith, h))) (λ d t le q. other_later n d r b k t q (omega (arith, h)))
  value_step_later n r (WhileZ x a) v k u e h = looped_later n r (WhileZ x a) x a v k u _ e (λ d t q. q) h
  value_step_later n r (DoWhileZ a x) v k u e h = tested_later s (done_way s k) run room n 0 x v u _ _ _ e (omega (arith, h)) (λ d t le q. do_again_later n d r a x k t q (omega (arith, h))) (λ d t le q. to s run room d (ExitF On) k t q (omega (arith, h)))
  value_step_later n r (ForZ made first (Some x) step a) v k u e h = looped_later n r (ForZ made first (Some x) step a) x a v k u _ e (λ d t q. q) h
  value_step_later n r (ForZ made first None step a) v k u e h = lost_later v k u e (omega (arith, h))
  value_step_later n r (SwitchZ x made arms) v k u e h = taken_later s (done_way s k) run room n 0 x v u _ _ e (omega (arith, h)) (λ d c t le q. asked_later s (done_way s k) run room d t (span_of x) (word_of c) _ _ q (omega (arith, h)) (λ z q1. arms_later n (d + labels arms) r (arms_before z arms) arms (SwitchW ∷ EndW made ∷ k) (fresh_all s.sizes made t) q1 (omega (arith, h))))
  value_step_later n r (ReturnZ (Some x)) v k u e h = taken_later s (done_way s k) run room n 0 x v u _ _ e (omega (arith, h)) (λ d c t le q. asked_later s (done_way s k) run room d t (span_of x) (converted (result_of s t.function) c) _ _ q (omega (arith, h)) (λ z q1. returned_later (is_structure (result_of s t.function)) n d (words s (result_of s t.function)) (result_of s t.function) r z k t q1 (omega (arith, h))))
  value_step_later n r (ReturnZ None) v k u e h = lost_later v k u e (omega (arith, h))
  value_step_later n r (BlockZ made body) v k u e h = lost_later v k u e (omega (arith, h))
  value_step_later n r EmptyZ v k u e h = lost_later v k u e (omega (arith, h))
  value_step_later n r (VarsZ vars) v k u e h = lost_later v k u e (omega (arith, h))
  value_step_later n r BreakZ v k u e h = lost_later v k u e (omega (arith, h))
  value_step_later n r ContinueZ v k u e h = lost_later v k u e (omega (arith, h))

  step_step_later : (n : ℕ) (r : Cell) (a : TStmtT) (v : Outcome) (k : List FrameT) (u : Store) → run ≡ resume s k (D (m.with_step s n r a (val_at v (spent 0 u)))) → load k + 3 < room → Later s run room (step_step s n r a v k u)
  unfolding step_step
  step_step_later n r (ForZ made first test (Some y) a) v k u e h = dropped_later s (done_way s k) run room n 0 y v u _ _ e (omega (arith, h)) (λ d t le q. for_again_later n d r made first test (Some y) a k t q (omega (arith, h)))
  step_step_later n r (ForZ made first test None a) v k u e h = lost_later v k u e (omega (arith, h))
  step_step_later n r (DoZ x) v k u e h = lost_later v k u e (omega (arith, h))
  step_step_later n r (IfZ x a b) v k u e h = lost_later v k u e (omega (arith, h))
  step_step_later n r (WhileZ x a) v k u e h = lost_later v k u e (omega (arith, h))
  step_step_later n r (DoWhileZ a x) v k u e h = lost_later v k u e (omega (arith, h))
  step_step_later n r (SwitchZ x made arms) v k u e h = lost_later v k u e (omega (arith, h))
  step_step_later n r (ReturnZ x) v k u e h = lost_later v k u e (omega (arith, h))
  step_step_later n r (BlockZ made body) v k u e h = lost_later v k u e (omega (arith, h))
  step_step_later n r EmptyZ v k u e h = lost_later v k u e (omega (arith, h))
  step_step_later n r (VarsZ vars) v k u e h = lost_later v k u e (omega (arith, h))
  step_step_later n r BreakZ v k u e h = lost_later v k u e (omega (arith, h))
  step_step_later n r ContinueZ v k u e h = lost_later v k u e (omega (arith, h))

  -- ---- statements that were left

  exit_on : (h : How) (k : List FrameT) (u : Store) → run ≡ resume s k (D (done_at h (spent 0 u))) → load k + 1 < room → Later s run room (st.left h k u)
  exit_on h k u e l = to s run room 0 (ExitF h) k u e (omega (arith, l))

  body_exit_later : (h : How) (go : World → Done) (k : List FrameT) (u : Store) (c : Config) → run ≡ resume s k (D (stmt.body_done (done_at h (spent 0 u)) go)) → load k + 1 < room → (run ≡ resume s k (D (go (spent 0 u))) → Later s run room c) → Later s run room (after_body h k u c)
  body_exit_later On go k u c e l f = f e
  body_exit_later Break go k u c e l f = exit_on On k u e l
  body_exit_later Continue go k u c e l f = f e
  body_exit_later (Return z) go k u c e l f = exit_on (Return z) k u e l

  on_exit_later : (h : How) (go : World → Done) (k : List FrameT) (u : Store) (c : Config) → run ≡ resume s k (D (then_done (done_at h (spent 0 u)) go)) → load k + 1 < room → (run ≡ resume s k (D (go (spent 0 u))) → Later s run room c) → Later s run room (after_on h k u c)
  on_exit_later On go k u c e l f = f e
  on_exit_later Break go k u c e l f = exit_on Break k u e l
  on_exit_later Continue go k u c e l f = exit_on Continue k u e l
  on_exit_later (Return z) go k u c e l f = exit_on (Return z) k u e l

  body_step_later : (n : ℕ) (r : Cell) (a : TStmtT) (h : How) (k : List FrameT) (u : Store) → run ≡ resume s k (D (m.with_body s n r a (done_at h (spent 0 u)))) → load k + 3 < room → Later s run room (body_step n r a h k u)
  unfolding body_step
  body_step_later n r (WhileZ x a) h k u e l = body_exit_later h _ k u _ e (omega (arith, l)) (λ q. while_again_later n 0 r x a k u q (omega (arith, l)))
  body_step_later n r (DoWhileZ a x) h k u e l = body_exit_later h _ k u _ e (omega (arith, l)) (λ q. to s run room 0 (EvalF n x) (ValueW n r (DoWhileZ a x) ∷ k) u q (omega (arith, l)))
  body_step_later n r (ForZ made first test step a) h k u e l = body_exit_later h _ k u _ e (omega (arith, l)) (λ q. for_step_later n 0 r made first test step a k u q (omega (arith, l)))
  body_step_later n r (DoZ x) h k u e l = exit_on h k u e (omega (arith, l))
  body_step_later n r (IfZ x a b) h k u e l = exit_on h k u e (omega (arith, l))
  body_step_later n r (SwitchZ x made arms) h k u e l = exit_on h k u e (omega (arith, l))
  body_step_later n r (ReturnZ x) h k u e l = exit_on h k u e (omega (arith, l))
  body_step_later n r (BlockZ made body) h k u e l = exit_on h k u e (omega (arith, l))
  body_step_later n r EmptyZ h k u e l = exit_on h k u e (omega (arith, l))
  body_step_later n r (VarsZ vars) h k u e l = exit_on h k u e (omega (arith, l))
  body_step_later n r BreakZ h k u e l = exit_on h k u e (omega (arith, l))
  body_step_later n r ContinueZ h k u e l = exit_on h k u e (omega (arith, l))

  begin_step_later : (n : ℕ) (r : Cell) (a : TStmtT) (h : How) (k : List FrameT) (u : Store) → run ≡ resume s k (D (m.with_begin s n r a (done_at h (spent 0 u)))) → load k + 3 < room → Later s run room (begin_step n r a h k u)
  unfolding begin_step
  begin_step_later n r (ForZ made first test step a) h k u e l = on_exit_later h _ k u _ e (omega (arith, l)) (λ q. for_turn_later n 0 r made first test step a k u q (omega (arith, l)))
  begin_step_later n r (WhileZ x a) h k u e l = exit_on h k u e (omega (arith, l))
  begin_step_later n r (DoWhileZ a x) h k u e l = exit_on h k u e (omega (arith, l))
  begin_step_later n r (DoZ x) h k u e l = exit_on h k u e (omega (arith, l))
  begin_step_later n r (IfZ x a b) h k u e l = exit_on h k u e (omega (arith, l))
  begin_step_later n r (SwitchZ x made arms) h k u e l = exit_on h k u e (omega (arith, l))
  begin_step_later n r (ReturnZ x) h k u e l = exit_on h k u e (omega (arith, l))
  begin_step_later n r (BlockZ made body) h k u e l = exit_on h k u e (omega (arith, l))
  begin_step_later n r EmptyZ h k u e l = exit_on h k u e (omega (arith, l))
  begin_step_later n r (VarsZ vars) h k u e l = exit_on h k u e (omega (arith, l))
  begin_step_later n r BreakZ h k u e l = exit_on h k u e (omega (arith, l))
  begin_step_later n r ContinueZ h k u e l = exit_on h k u e (omega (arith, l))

  back_later : (f : ℕ) (tys : List Ty) (vs : List Cell) (r : Cell) (span : Span) (c : CallerT) (h : How) (k : List FrameT) (u : Store) → run ≡ resume s k (V (call_left tys vs r span c (done_at h (spent 0 u)))) → load k + 1 < room → Later s run room (back_step tys vs r span c h k u)
  back_later f tys vs r span c On k u e l = to s run room 0 (OutcomeF Nothing) k _ e (omega (arith, l))
  back_later f tys vs r span c Break k u e l = over_later s (val_way s k) run room 0 (Stray span) u e (omega (arith, l))
  back_later f tys vs r span c Continue k u e l = over_later s (val_way s k) run room 0 (Stray span) u e (omega (arith, l))
  back_later f tys vs r span c (Return None) k u e l = to s run room 0 (OutcomeF Nothing) k _ e (omega (arith, l))
  back_later f tys vs r span c (Return (Some z)) k u e l = to s run room 0 (OutcomeF (Value z)) k _ e (omega (arith, l))

  end_later : (made : List ℕ) (h : How) (k : List FrameT) (u : Store) → run ≡ resume s k (D (stmt.left made (done_at h (spent 0 u)))) → load k + 1 < room → Later s run room (st.left h k (end_all made u))
  end_later made On k u e l = exit_on On k (end_all made u) e l
  end_later made Break k u e l = exit_on Break k (end_all made u) e l
  end_later made Continue k u e l = exit_on Continue k (end_all made u) e l
  end_later made (Return z) k u e l = exit_on (Return z) k (end_all made u) e l

  switch_later : (h : How) (k : List FrameT) (u : Store) → run ≡ resume s k (D (stmt.switch_done (done_at h (spent 0 u)))) → load k + 1 < room → Later s run room (st.left (switched h) k u)
  switch_later On k u e l = exit_on On k u e l
  switch_later Break k u e l = exit_on On k u e l
  switch_later Continue k u e l = exit_on Continue k u e l
  switch_later (Return z) k u e l = exit_on (Return z) k u e l

  main_later : (n main : ℕ) (h : How) (k : List FrameT) (u : Store) → run ≡ resume s k (V (m.with_inits (done_at h (spent 0 u)) (λ w. expr.call s n (below s n) main [] nowhere (spend 1 w)))) → load k + 1 < room → Later s run room (main_step s n main h k u)
  main_later n main On k u e l = call_later n 1 main [] nowhere k u e (omega (arith, l))
  main_later n main Break k u e l = over_later s (val_way s k) run room 0 (Stray nowhere) u e (omega (arith, l))
  main_later n main Continue k u e l = over_later s (val_way s k) run room 0 (Stray nowhere) u e (omega (arith, l))
  main_later n main (Return z) k u e l = over_later s (val_way s k) run room 0 (Stray nowhere) u e (omega (arith, l))

  -- ---- initialisers

  fill_later : (n : ℕ) (i : TInitT) (ty : Ty) (p : Cell) (k : List FrameT) (u : Store) → run ≡ resume s k (W (filled s n (below s n) i ty p (spent 0 u))) → load k ≤ room → Later s run room (fill s n i ty p k u)
  unfolding fill
  fill_later n (OneI x) ty p k u e h = to s run room 1 (EvalF n x) (OneW n ty x p ∷ k) u e (omega (arith, h))
  fill_later n (TextI number) ty p k u e h = full_later 1 k _ _ (text_kept s n 1 number (words s ty) p 1 u (omega arith)) e (omega (arith, h))
  fill_later n (ListI items) ty p k u e h = items_later n 1 items ty 0 p k u e (omega (arith, h))

  one_later : (n : ℕ) (ty : Ty) (x : TExprT) (p : Cell) (v : Outcome) (k : List FrameT) (u : Store) → run ≡ resume s k (W (one_filled s n ty x p (val_at v (spent 0 u)))) → load k + 1 < room → Later s run room (on (taken s n x v u) (λ t. full (one_in s n ty p t.0 t.1) k))
  one_later n ty x p v k u e h = taken_later s (went_way s k) run room n 0 x v u _ _ e (omega (arith, h)) (λ d c t le q. full_later 0 k _ _ (one_kept s n 0 ty p c d t le) q (omega (arith, h)))

-- ---- what is handed to a frame that waits for something else

module _ (s : Setting) (k : List FrameT) (u : Store) (run : Final) (room : ℕ) (h : 0 < room) where
  strays_done : (x : Done) → run ≡ resume s k (D x) → x ≡ Ended (Stray nowhere) (spent 0 u) → Later s run room (Over (Stray nowhere))
  strays_done x e g = over_later s (done_way s k) run room 0 (Stray nowhere) u (e ∙ ap (λ z. resume s k (D z)) g) (omega (arith, h))

  strays_val : (x : Val) → run ≡ resume s k (V x) → x ≡ Stops (Stray nowhere) (spent 0 u) → Later s run room (Over (Stray nowhere))
  strays_val x e g = over_later s (val_way s k) run room 0 (Stray nowhere) u (e ∙ ap (λ z. resume s k (V z)) g) (omega (arith, h))

  strays_went : (x : Went) → run ≡ resume s k (W x) → x ≡ CutOff (Stray nowhere) (spent 0 u) → Later s run room (Over (Stray nowhere))
  strays_went x e g = over_later s (went_way s k) run room 0 (Stray nowhere) u (e ∙ ap (λ z. resume s k (W z)) g) (omega (arith, h))

module _ {R : Type 0} (stop : End → World → R) (w : World) where
  outcome_lost : (v : Outcome) → stopped stop (V (val_at v w)) ≡ stop (Stray nowhere) w
  outcome_lost (Value c) = refl
  outcome_lost (Place c) = refl
  outcome_lost Nothing = refl

  exit_lost : (h : How) → stopped stop (D (done_at h w)) ≡ stop (Stray nowhere) w
  exit_lost On = refl
  exit_lost Break = refl
  exit_lost Continue = refl
  exit_lost (Return z) = refl

module _ (s : Setting) where
  abbrev raw : FocusT → List FrameT → Store → Final
  raw f k u = resume s k (m.result_of s f (spent 0 u))

  take_outcome_later : (f : FrameT) (v : Outcome) (k : List FrameT) (u : Store) → Later s (raw (OutcomeF v) (f ∷ k) u) (load (f ∷ k) + 1) (take_outcome s f v k u)
  unfolding take_outcome
  take_outcome_later (FirstW n (Typed kind ty span)) v k u = first_later s _ _ n kind ty span v k u refl (omega arith)
  take_outcome_later (SecondW n (Typed kind ty span) c) v k u = second_later s _ _ n kind ty span c v k u refl (omega arith)
  take_outcome_later (ArgumentW n f span vs xs) v k u = argument_later s _ _ n 0 f span vs xs v k u refl (omega arith)
  take_outcome_later (ValueW n r a) v k u = value_step_later s _ _ n r a v k u refl (omega arith)
  take_outcome_later (StepW n r a) v k u = step_step_later s _ _ n r a v k u refl (omega arith)
  take_outcome_later (OneW n ty x p) v k u = one_later s _ _ n ty x p v k u refl (omega arith)
  take_outcome_later (BackW f vs r span c) v k u = strays_done s (BackW f vs r span c ∷ k) u _ _ (omega arith) (stopped Ended (V (val_at v (spent 0 u)))) refl (outcome_lost Ended (spent 0 u) v)
  take_outcome_later (BodyW n r a) v k u = strays_done s (BodyW n r a ∷ k) u _ _ (omega arith) (stopped Ended (V (val_at v (spent 0 u)))) refl (outcome_lost Ended (spent 0 u) v)
  take_outcome_later (BeginW n r a) v k u = strays_done s (BeginW n r a ∷ k) u _ _ (omega arith) (stopped Ended (V (val_at v (spent 0 u)))) refl (outcome_lost Ended (spent 0 u) v)
  take_outcome_later (RestW n r rest) v k u = strays_done s (RestW n r rest ∷ k) u _ _ (omega arith) (stopped Ended (V (val_at v (spent 0 u)))) refl (outcome_lost Ended (spent 0 u) v)
  take_outcome_later (ArmsW n r rest) v k u = strays_done s (ArmsW n r rest ∷ k) u _ _ (omega arith) (stopped Ended (V (val_at v (spent 0 u)))) refl (outcome_lost Ended (spent 0 u) v)
  take_outcome_later (EndW made) v k u = strays_done s (EndW made ∷ k) u _ _ (omega arith) (stopped Ended (V (val_at v (spent 0 u)))) refl (outcome_lost Ended (spent 0 u) v)
  take_outcome_later SwitchW v k u = strays_done s (SwitchW ∷ k) u _ _ (omega arith) (stopped Ended (V (val_at v (spent 0 u)))) refl (outcome_lost Ended (spent 0 u) v)
  take_outcome_later (ItemsW n rest ty j p) v k u = strays_went s (ItemsW n rest ty j p ∷ k) u _ _ (omega arith) (stopped CutOff (V (val_at v (spent 0 u)))) refl (outcome_lost CutOff (spent 0 u) v)
  take_outcome_later (VarsW n vars) v k u = strays_went s (VarsW n vars ∷ k) u _ _ (omega arith) (stopped CutOff (V (val_at v (spent 0 u)))) refl (outcome_lost CutOff (spent 0 u) v)
  take_outcome_later FilledW v k u = strays_went s (FilledW ∷ k) u _ _ (omega arith) (stopped CutOff (V (val_at v (spent 0 u)))) refl (outcome_lost CutOff (spent 0 u) v)
  take_outcome_later (MainW n main) v k u = strays_done s (MainW n main ∷ k) u _ _ (omega arith) (stopped Ended (V (val_at v (spent 0 u)))) refl (outcome_lost Ended (spent 0 u) v)

  take_exit_later : (f : FrameT) (h : How) (k : List FrameT) (u : Store) → Later s (raw (ExitF h) (f ∷ k) u) (load (f ∷ k) + 1) (take_exit s f h k u)
  unfolding take_exit
  take_exit_later (BackW f vs r span c) h k u = back_later s _ _ f (params_of (slice_get s.functions f)) vs r span c h k u refl (omega arith)
  take_exit_later (BodyW n r a) h k u = body_step_later s _ _ n r a h k u refl (omega arith)
  take_exit_later (BeginW n r a) h k u = begin_step_later s _ _ n r a h k u refl (omega arith)
  take_exit_later (RestW n r rest) h k u = on_exit_later s _ _ h _ k u _ refl (omega arith) (λ q. rest_later s _ _ n 0 r rest k u q (omega arith))
  take_exit_later (ArmsW n r rest) h k u = on_exit_later s _ _ h _ k u _ refl (omega arith) (λ q. arms_later s _ _ n 0 r 0 rest k u q (omega arith))
  take_exit_later (EndW made) h k u = end_later s _ _ made h k u refl (omega arith)
  take_exit_later SwitchW h k u = switch_later s _ _ h k u refl (omega arith)
  take_exit_later (MainW n main) h k u = main_later s _ _ n main h k u refl (omega arith)
  take_exit_later (FirstW n (Typed kind ty span)) h k u = strays_val s (FirstW n (Typed kind ty span) ∷ k) u _ _ (omega arith) (stopped Stops (D (done_at h (spent 0 u)))) refl (exit_lost Stops (spent 0 u) h)
  take_exit_later (SecondW n (Typed kind ty span) c) h k u = strays_val s (SecondW n (Typed kind ty span) c ∷ k) u _ _ (omega arith) (stopped Stops (D (done_at h (spent 0 u)))) refl (exit_lost Stops (spent 0 u) h)
  take_exit_later (ArgumentW n f span vs xs) h k u = strays_val s (ArgumentW n f span vs xs ∷ k) u _ _ (omega arith) (stopped Stops (D (done_at h (spent 0 u)))) refl (exit_lost Stops (spent 0 u) h)
  take_exit_later (ValueW n r a) h k u = strays_val s (ValueW n r a ∷ k) u _ _ (omega arith) (stopped Stops (D (done_at h (spent 0 u)))) refl (exit_lost Stops (spent 0 u) h)
  take_exit_later (StepW n r a) h k u = strays_val s (StepW n r a ∷ k) u _ _ (omega arith) (stopped Stops (D (done_at h (spent 0 u)))) refl (exit_lost Stops (spent 0 u) h)
  take_exit_later (OneW n ty x p) h k u = strays_val s (OneW n ty x p ∷ k) u _ _ (omega arith) (stopped Stops (D (done_at h (spent 0 u)))) refl (exit_lost Stops (spent 0 u) h)
  take_exit_later (ItemsW n rest ty j p) h k u = strays_went s (ItemsW n rest ty j p ∷ k) u _ _ (omega arith) (stopped CutOff (D (done_at h (spent 0 u)))) refl (exit_lost CutOff (spent 0 u) h)
  take_exit_later (VarsW n vars) h k u = strays_went s (VarsW n vars ∷ k) u _ _ (omega arith) (stopped CutOff (D (done_at h (spent 0 u)))) refl (exit_lost CutOff (spent 0 u) h)
  take_exit_later FilledW h k u = strays_went s (FilledW ∷ k) u _ _ (omega arith) (stopped CutOff (D (done_at h (spent 0 u)))) refl (exit_lost CutOff (spent 0 u) h)

  fill_up_later : (f : FrameT) (k : List FrameT) (u : Store) → Later s (raw FullF (f ∷ k) u) (load (f ∷ k) + 1) (fill_up s f k u)
  unfolding fill_up
  fill_up_later (ItemsW n rest ty j p) k u = items_later s _ _ n 0 rest ty j p k u refl (omega arith)
  fill_up_later (VarsW n vars) k u = vars_later s _ _ n 0 vars k u refl (omega arith)
  fill_up_later FilledW k u = exit_on s _ _ On k u refl (omega arith)
  fill_up_later (FirstW n (Typed kind ty span)) k u = strays_val s (FirstW n (Typed kind ty span) ∷ k) u _ _ (omega arith) (stopped Stops (W (Through (spent 0 u)))) refl refl
  fill_up_later (SecondW n (Typed kind ty span) c) k u = strays_val s (SecondW n (Typed kind ty span) c ∷ k) u _ _ (omega arith) (stopped Stops (W (Through (spent 0 u)))) refl refl
  fill_up_later (ArgumentW n f span vs xs) k u = strays_val s (ArgumentW n f span vs xs ∷ k) u _ _ (omega arith) (stopped Stops (W (Through (spent 0 u)))) refl refl
  fill_up_later (ValueW n r a) k u = strays_val s (ValueW n r a ∷ k) u _ _ (omega arith) (stopped Stops (W (Through (spent 0 u)))) refl refl
  fill_up_later (StepW n r a) k u = strays_val s (StepW n r a ∷ k) u _ _ (omega arith) (stopped Stops (W (Through (spent 0 u)))) refl refl
  fill_up_later (OneW n ty x p) k u = strays_val s (OneW n ty x p ∷ k) u _ _ (omega arith) (stopped Stops (W (Through (spent 0 u)))) refl refl
  fill_up_later (BackW f vs r span c) k u = strays_done s (BackW f vs r span c ∷ k) u _ _ (omega arith) (stopped Ended (W (Through (spent 0 u)))) refl refl
  fill_up_later (BodyW n r a) k u = strays_done s (BodyW n r a ∷ k) u _ _ (omega arith) (stopped Ended (W (Through (spent 0 u)))) refl refl
  fill_up_later (BeginW n r a) k u = strays_done s (BeginW n r a ∷ k) u _ _ (omega arith) (stopped Ended (W (Through (spent 0 u)))) refl refl
  fill_up_later (RestW n r rest) k u = strays_done s (RestW n r rest ∷ k) u _ _ (omega arith) (stopped Ended (W (Through (spent 0 u)))) refl refl
  fill_up_later (ArmsW n r rest) k u = strays_done s (ArmsW n r rest ∷ k) u _ _ (omega arith) (stopped Ended (W (Through (spent 0 u)))) refl refl
  fill_up_later (EndW made) k u = strays_done s (EndW made ∷ k) u _ _ (omega arith) (stopped Ended (W (Through (spent 0 u)))) refl refl
  fill_up_later SwitchW k u = strays_done s (SwitchW ∷ k) u _ _ (omega arith) (stopped Ended (W (Through (spent 0 u)))) refl refl
  fill_up_later (MainW n main) k u = strays_done s (MainW n main ∷ k) u _ _ (omega arith) (stopped Ended (W (Through (spent 0 u)))) refl refl

  halted_later : (v : Outcome) (u : Store) → Later s (raw (OutcomeF v) [] u) 1 (Over Halted)
  halted_later (Value c) u = over s _ 1 0 Halted u refl (omega arith)
  halted_later (Place c) u = over s _ 1 0 Halted u refl (omega arith)
  halted_later Nothing u = over s _ 1 0 Halted u refl (omega arith)

  last_later : (h : How) (u : Store) → Later s (raw (ExitF h) [] u) 1 (Over (Stray nowhere))
  last_later On u = over s _ 1 0 (Stray nowhere) u refl (omega arith)
  last_later Break u = over s _ 1 0 (Stray nowhere) u refl (omega arith)
  last_later Continue u = over s _ 1 0 (Stray nowhere) u refl (omega arith)
  last_later (Return z) u = over s _ 1 0 (Stray nowhere) u refl (omega arith)

  pub step_later : (f : FocusT) (k : List FrameT) (u : Store) → Works f → Later s (whole s f k u) (load k + busy f) (step s f k u)
  unfolding step whole
  step_later (EvalF n (Typed kind ty span)) k u g = eval_later s _ _ n kind ty span k u refl (omega arith)
  step_later (FillF n i ty p) k u g = fill_later s _ _ n i ty p k u refl (omega arith)
  step_later (DoF n r a) k u g = exec_later s _ _ n r a k u refl (omega arith)
  step_later (OutcomeF v) [] u g = halted_later v u
  step_later (OutcomeF v) (f ∷ k) u g = take_outcome_later f v k u
  step_later (MadeF e v) k u g = absurd g
  step_later (ExitF h) [] u g = last_later h u
  step_later (ExitF h) (f ∷ k) u g = take_exit_later f h k u
  step_later FullF [] u g = over s _ 1 0 (Stray nowhere) u refl (omega arith)
  step_later FullF (f ∷ k) u g = fill_up_later f k u
