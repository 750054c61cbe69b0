-- A larger bound extends what expressions, initialisers and statements come to.
use Rattle.std.proofs.Common.{◌≡◌, ℕ, zero, suc, ◌+◌, ◌-◌, ◌*◌, Bool, true, false, if◌then◌else◌, List, [], ◌∷◌, slice_get, Option, Some, None, option_map, refl, inl, inr}
use Rattle.kit_base.specs.declared.event.Event.{Event}
use Rattle.kit_base.specs.declared.event.Event.TheVariants as event
use Rattle.c_tree.specs.declared.span.Span.{Span}
use Rattle.c_tree.specs.declared.operator.UnOp.{UnOp}
use Rattle.c_tree.specs.declared.operator.UnOp.TheVariants as un
use Rattle.c_tree.specs.declared.operator.StepOp.{StepOp}
use Rattle.c_tree.specs.declared.operator.BinOp.{BinOp}
use Rattle.c_tree.specs.declared.operator.BinOp.TheVariants.{AndAlso, OrElse}
use Rattle.c_types.specs.Types.{Ty, VoidY, IntY, BoolY, EnumY, StructY, UnionY, PointerY, ArrayY}
use Rattle.c_types.specs.Typed.{TExprT, Typed, TKindT, NumberK, NullK, LiteralK, GlobalK, LocalK, UnaryK, BinaryK, AssignK, StepK, IndexK, MemberK, ArrowK, CastK, CallK, InK, OutK, WaitK, HaltK, CardK, TExprTs, NoX, MoreX, TInitT, OneI, TextI, ListI, TInitTs, NoI, MoreI, TVarT, TStmtT, BlockZ, EmptyZ, VarsZ, DoZ, IfZ, WhileZ, DoWhileZ, ForZ, SwitchZ, ReturnZ, BreakZ, ContinueZ, MaybeZ, NoneZ, SomeZ, TStmtTs, NoZ, MoreZ, TArmT, CaseB, DefaultB, StmtB, TArmTs, NoB, MoreB}
use Rattle.c_meaning.specs.Kinds.{type_of, span_of}
use Rattle.c_types.specs.Kinds.{is_structure, decayed}
use Rattle.c_types.specs.Parts.{part_type}
use Rattle.c_types.specs.Programs.{TFunctionT}
use Rattle.obj_mem.specs.declared.cell.Cell.{Cell}
use Rattle.obj_mem.specs.declared.cell.Cell.TheVariants.{Num, Ptr, Null}
use Rattle.obj_mem.specs.Stores.{Store, local_object, with_objects, fresh_all, end_all, with_temporary, next_object, has_room, entered}
use Rattle.obj_mem.specs.Worlds.{World, on_store, spend}
use Rattle.obj_mem.specs.Queries.{Answer, word_of, truth, step, further, first_cell}
use Rattle.c_meaning.specs.declared.end.End.TheVariants.{Halted, Starved, Stray, Deep, OutOfBound}
use Rattle.c_meaning.specs.Outcomes.{Val, Value, Place, NoValue, Stops, Vals, Values, Went, Through, Done, Goes, Breaks, Continues, Returns, Ended, Task, Turn, DoTurn, Body, Before, nowhere, asked}
use Rattle.c_meaning.specs.Setting.{Setting, words, literal_at, literal_words, result_of}
use Rattle.c_meaning.specs.Operators.{read_as, converted, is_true, operated}
use Rattle.c_meaning.specs.Cells.{cells_set, next_turn, cell_set, end_temporary, released, structure_read, scalar_read, fetched, stored, member_of_value}
use Rattle.c_meaning.specs.Expressions.{value_of, with_value, tested, dropped_value, dropped, truth_of, unary, second_operated, both_operated, binary, assigned, second_assigned, assign, step_operator, gives_old, old_or_new, step_taken, second_indexed, index, member_at, arrow, if_bound, if_room, result_place, with_result, back_with, back_without, call_done, enter, call_of, call, params_of, next_argument, input, output, evaluated, evaluated_kind, evaluated_all}
use Rattle.c_meaning.specs.Initialisers.{one_filled, text_filled, rest_filled, filled, all_filled, object_of, variable_filled, variables_filled}
use Rattle.c_meaning.specs.Statements.{left, body_done, test_done, step_done, turn, do_turn, arms_before, labels, switch_done, switched, returned_as, returned, does, does_maybe, does_all, does_arm, does_arms, params_stored, body_of, task_done, below}
use Rattle.c_meaning.proofs.Later.{one, Kind, Later, same, stopped, through, val_events, done_events, val, vals, went, done, asked_later, then_value_later, then_place_later, then_went_later, then_values_later, in_front_later, then_done_later, either_later}

-- a bound and one that is as large
abbrev pub Up : ℕ → ℕ → Type 0
Up zero n = Unit {0}
Up (suc m) zero = ⊥
Up (suc m) (suc n) = Up m n

pub up_same : (n : ℕ) → Up n n
up_same zero = tt
up_same (suc n) = up_same n

pub up_one : (n : ℕ) → Up n (suc n)
up_one zero = tt
up_one (suc n) = up_one n

if_later : {R : Type 0} (k : Kind R) (es : List Event) (b : Bool) (x x' y y' : R) → Later k es x x' → Later k es y y' → Later k es (if b then x else y) (if b then x' else y')
if_later k es true x x' y y' g h = g
if_later k es false x x' y y' g h = h

-- ---- loops over cells

next_later : (left n n' : ℕ) → Up n n' → (w : World) (go : ℕ → World → Went) → ((m m' : ℕ) → Up m m' → (v : World) → Later went v.events (go m v) (go m' v)) → Later went w.events (next_turn left n w go) (next_turn left n' w go)
next_later zero n n' u w go h = same went (Through w)
next_later (suc l) zero zero u w go h = stopped went OutOfBound w
next_later (suc l) zero (suc m') u w go h = let g = h m' m' (up_same m') w in (g.0, inr (w, refl, g.0))
next_later (suc l) (suc m) zero u w go h = absurd u
next_later (suc l) (suc m) (suc m') u w go h = h m m' u w

cells_later : (span : Span) (cost count n n' : ℕ) → Up n n' → (from : Option Cell) (to : Cell) (w : World) → Later went w.events (cells_set span cost n count from to w) (cells_set span cost n' count from to w)
cells_later span cost zero n n' u from to w = same went (Through w)
cells_later span cost (suc left) n n' u from to w =
    asked_later went span (spend cost w) (cell_set from to w.store.objects) _ _ (λ os.
    next_later left n n' u (on_store (with_objects os) (spend cost w)) (λ m v. cells_set span cost m left (option_map (λ p. further p 1) from) (further to 1) v)
    (λ m m' x v. cells_later span cost left m m' x (option_map (λ p. further p 1) from) (further to 1) v))

-- ---- one less of the bound

bound_later : (n n' : ℕ) → Up n n' → (w : World) (go go' : World → Val) → Later val w.events (go w) (go' w) → Later val w.events (if_bound n w go) (if_bound n' w go')
bound_later zero zero u w go go' h = stopped val OutOfBound w
bound_later zero (suc m') u w go go' h = (h.0, inr (w, refl, h.0))
bound_later (suc m) zero u w go go' h = absurd u
bound_later (suc m) (suc m') u w go go' h = h

room_later : (b : Bool) (span : Span) (w : World) (go go' : World → Val) → Later val w.events (go w) (go' w) → Later val w.events (if_room b span w go) (if_room b span w go')
room_later true span w go go' h = h
room_later false span w go go' h = stopped val (Deep span) w

module _ (s : Setting) (n n' : ℕ) (u : Up n n') (prev prev' : Before) (p : (t : Task) (w : World) → Later done w.events (prev t w) (prev' t w)) where
  -- ---- using what an expression came to

  scalar_later : (ty : Ty) (span : Span) (c : Cell) (w : World) → Later val w.events (scalar_read ty span c w) (scalar_read ty span c w)
  scalar_later ty span c w = asked_later val span w (read_as ty w.store.objects c) (λ d. Value d w) (λ d. Value d w) (λ d. same val (Value d w))

  structure_later : (span : Span) (size : ℕ) (c : Cell) (w : World) → Later val w.events (structure_read span n size c w) (structure_read span n' size c w)
  structure_later span size c w = then_went_later val (λ v. Value (next_object w.store) v) (λ v. Value (next_object w.store) v) (λ v. same val (Value (next_object w.store) v)) w.events _ _ (cells_later span 1 size n n' u (Some c) (next_object w.store) (on_store (with_temporary size) w))

  fetched_later : (ty : Ty) (span : Span) (c : Cell) (w : World) → Later val w.events (fetched s n ty span c w) (fetched s n' ty span c w)
  fetched_later VoidY span c w = stopped val (Stray span) w
  fetched_later IntY span c w = scalar_later IntY span c w
  fetched_later BoolY span c w = scalar_later BoolY span c w
  fetched_later (EnumY k) span c w = scalar_later (EnumY k) span c w
  fetched_later (StructY k) span c w = structure_later span (words s (StructY k)) c w
  fetched_later (UnionY k) span c w = structure_later span (words s (UnionY k)) c w
  fetched_later (PointerY to) span c w = scalar_later (PointerY to) span c w
  fetched_later (ArrayY of len) span c w = same val (Value c w)

  value_each : (x : TExprT) (r : Val) → Later val (val_events r) (value_of s n x r) (value_of s n' x r)
  value_each x (Value c w) = same val (Value c w)
  value_each x (Place c w) = fetched_later (type_of x) (span_of x) c w
  value_each x (NoValue w) = same val (NoValue w)
  value_each x (Stops e w) = stopped val e w

  value_later : (x : TExprT) (es : List Event) (r r' : Val) → Later val es r r' → Later val es (value_of s n x r) (value_of s n' x r')
  value_later x = through val val (value_of s n x) (value_of s n' x) (λ w. refl) (value_each x)

  with_later : {R : Type 0} (k : Kind R) (x : TExprT) (go go' : Cell → World → R) → ((c : Cell) (w : World) → Later k w.events (go c w) (go' c w)) → (es : List Event) (r r' : Val) → Later val es r r' → Later k es (with_value k.stop s n x r go) (with_value k.stop s n' x r' go')
  with_later k x go go' h es r r' l = then_value_later k (span_of x) go go' h es (value_of s n x r) (value_of s n' x r') (value_later x es r r' l)

  tested_later : {R : Type 0} (k : Kind R) (x : TExprT) (go go' other other' : World → R) → ((w : World) → Later k w.events (go w) (go' w)) → ((w : World) → Later k w.events (other w) (other' w)) → (es : List Event) (r r' : Val) → Later val es r r' → Later k es (tested k.stop s n x r go other) (tested k.stop s n' x r' go' other')
  tested_later k x go go' other other' g h = with_later k x _ _ (λ c w. asked_later k (span_of x) w (is_true w.store.objects (decayed (type_of x)) c) _ _ (λ b. either_later k b w go go' other other' (g w) (h w)))

  dropped_each : {R : Type 0} (k : Kind R) (x : TExprT) (go go' : World → R) → ((w : World) → Later k w.events (go w) (go' w)) → (r : Val) → Later k (val_events r) (dropped_value k.stop x r go) (dropped_value k.stop x r go')
  dropped_each k x go go' h (Value c w) = h (on_store (released (type_of x) c) w)
  dropped_each k x go go' h (Place c w) = stopped k (Stray (span_of x)) w
  dropped_each k x go go' h (NoValue w) = h w
  dropped_each k x go go' h (Stops e w) = stopped k e w

  dropped_later : {R : Type 0} (k : Kind R) (x : TExprT) (go go' : World → R) → ((w : World) → Later k w.events (go w) (go' w)) → (es : List Event) (r r' : Val) → Later val es r r' → Later k es (dropped k.stop s n x r go) (dropped k.stop s n' x r' go')
  dropped_later k x go go' h es r r' l = through val k (λ v. dropped_value k.stop x v go) (λ v. dropped_value k.stop x v go') (λ w. refl) (dropped_each k x go go' h) es (value_of s n x r) (value_of s n' x r') (value_later x es r r' l)

  -- ---- operators

  given : (span : Span) (w : World) (x : Answer Cell) → Later val w.events (asked Stops span w x (λ z. Value z w)) (asked Stops span w x (λ z. Value z w))
  given span w x = asked_later val span w x _ _ (λ z. same val (Value z w))

  truth_later : (x : TExprT) (es : List Event) (r r' : Val) → Later val es r r' → Later val es (truth_of s n x r) (truth_of s n' x r')
  truth_later x = tested_later val x _ _ _ _ (λ w. same val (Value (truth true) w)) (λ w. same val (Value (truth false) w))

  unary_later : (op : UnOp) (x : TExprT) (span : Span) (es : List Event) (r r' : Val) → Later val es r r' → Later val es (unary s n op x span r) (unary s n' op x span r')
  unary_later un.Deref x span = with_later val x _ _ (λ c w. same val (Place c w))
  unary_later un.Address x span = then_place_later span _ _ (λ c w. same val (Value c w))
  unary_later un.Not x span = tested_later val x _ _ _ _ (λ w. same val (Value (truth false) w)) (λ w. same val (Value (truth true) w))
  unary_later un.Minus x span = with_later val x _ _ (λ c w. given span w _)
  unary_later un.Plus x span = with_later val x _ _ (λ c w. given span w _)
  unary_later un.Flip x span = with_later val x _ _ (λ c w. given span w _)

  both_later : (op : BinOp) (x y : TExprT) (span : Span) (second second' : World → Val) → ((w : World) → Later val w.events (second w) (second' w)) → (es : List Event) (r r' : Val) → Later val es r r' → Later val es (both_operated s n op x y span r second) (both_operated s n' op x y span r' second')
  both_later op x y span second second' q = with_later val x _ _ (λ c w. with_later val y _ _ (λ d v. given span v _) w.events (second w) (second' w) (q w))

  binary_later : (op : BinOp) (x y : TExprT) (span : Span) (second second' : World → Val) → ((w : World) → Later val w.events (second w) (second' w)) → (es : List Event) (r r' : Val) → Later val es r r' → Later val es (binary s n op x y span r second) (binary s n' op x y span r' second')
  binary_later AndAlso x y span second second' q = tested_later val x _ _ _ _ (λ w. truth_later y w.events (second w) (second' w) (q w)) (λ w. same val (Value (truth false) w))
  binary_later OrElse x y span second second' q = tested_later val x _ _ _ _ (λ w. same val (Value (truth true) w)) (λ w. truth_later y w.events (second w) (second' w) (q w))
  binary_later op x y span second second' q = both_later op x y span second second' q

  -- ---- assignments and steps

  stored_later : (extra : ℕ) (ty : Ty) (span : Span) (at c : Cell) (w : World) → Later went w.events (stored s n extra ty span at c w) (stored s n' extra ty span at c w)
  stored_later extra ty span at c w = if_later went w.events (is_structure ty) _ _ _ _ (cells_later span (extra + 1) (words s ty) n n' u (Some c) at w) (asked_later went span (spend extra w) _ _ _ (λ os. same went (Through (on_store (with_objects os) (spend extra w)))))

  assigned_later : (x : TExprT) (span : Span) (at c : Cell) (w : World) → Later val w.events (assigned s n x span at c w) (assigned s n' x span at c w)
  assigned_later x span at c w = asked_later val span w (converted (type_of x) c) _ _ (λ z. then_went_later val _ _ (λ v. same val (Value z v)) w.events _ _ (stored_later 0 (type_of x) (span_of x) at z w))

  assign_later : (op : Option BinOp) (x y : TExprT) (span : Span) (second second' : World → Val) → ((w : World) → Later val w.events (second w) (second' w)) → (es : List Event) (r r' : Val) → Later val es r r' → Later val es (assign s n op x y span r second) (assign s n' op x y span r' second')
  assign_later None x y span second second' q = then_place_later span _ _ (λ at w. with_later val y _ _ (λ c v. assigned_later x span at c v) w.events (second w) (second' w) (q w))
  assign_later (Some op) x y span second second' q = then_place_later span _ _ (λ at w. with_later val y _ _ (λ c v. asked_later val (span_of x) v (read_as (type_of x) v.store.objects at) _ _ (λ old. asked_later val span v (operated s op (type_of x) (type_of y) v.store.objects old c) _ _ (λ z. assigned_later x span at z v))) w.events (second w) (second' w) (q w))

  old_each : (b : Bool) (old : Cell) (r : Val) → Later val (val_events r) (old_or_new b old r) (old_or_new b old r)
  old_each true old (Value c w) = same val (Value old w)
  old_each true old (Place c w) = same val (Place c w)
  old_each true old (NoValue w) = same val (NoValue w)
  old_each true old (Stops e w) = stopped val e w
  old_each false old (Value c w) = same val (Value c w)
  old_each false old (Place c w) = same val (Place c w)
  old_each false old (NoValue w) = same val (NoValue w)
  old_each false old (Stops e w) = stopped val e w

  old_stop : (b : Bool) (old : Cell) (w : World) → old_or_new b old (Stops OutOfBound w) ≡ Stops OutOfBound w
  old_stop true old w = refl
  old_stop false old w = refl

  step_later : (op : StepOp) (x : TExprT) (span : Span) (es : List Event) (r r' : Val) → Later val es r r' → Later val es (step_taken s n op x span r) (step_taken s n' op x span r')
  step_later op x span = then_place_later span _ _ (λ at w. asked_later val (span_of x) w (read_as (type_of x) w.store.objects at) _ _ (λ old. asked_later val span w (operated s (step_operator op) (type_of x) IntY w.store.objects old (Num 1)) _ _ (λ z. through val val (old_or_new (gives_old op) old) (old_or_new (gives_old op) old) (old_stop (gives_old op) old) (old_each (gives_old op) old) w.events _ _ (assigned_later x span at z w))))

  -- ---- elements and members

  index_later : (ty : Ty) (x y : TExprT) (span : Span) (second second' : World → Val) → ((w : World) → Later val w.events (second w) (second' w)) → (es : List Event) (r r' : Val) → Later val es r r' → Later val es (index s n ty x y span r second) (index s n' ty x y span r' second')
  index_later ty x y span second second' q = with_later val x _ _ (λ c w. with_later val y _ _ (λ d v. asked_later val span v _ _ _ (λ z. same val (Place z v))) w.events (second w) (second' w) (q w))

  member_value_later : (ty : Ty) (span : Span) (c : Cell) (w : World) → Later val w.events (member_of_value ty span c w) (member_of_value ty span c w)
  member_value_later ty span c w = if_later val w.events (is_structure ty) _ _ _ _ (same val (Value c w)) (asked_later val span w _ _ _ (λ d. same val (Value d (on_store (end_temporary c) w))))

  member_each : (ty : Ty) (x : TExprT) (span : Span) (offset : ℕ) (r : Val) → Later val (val_events r) (member_at ty x span offset r) (member_at ty x span offset r)
  member_each ty x span offset (Value c w) = member_value_later ty span (further c offset) w
  member_each ty x span offset (Place c w) = asked_later val span w (step c offset) _ _ (λ z. same val (Place z w))
  member_each ty x span offset (NoValue w) = stopped val (Stray (span_of x)) w
  member_each ty x span offset (Stops e w) = stopped val e w

  member_later : (ty : Ty) (x : TExprT) (span : Span) (offset : ℕ) (es : List Event) (r r' : Val) → Later val es r r' → Later val es (member_at ty x span offset r) (member_at ty x span offset r')
  member_later ty x span offset = through val val (member_at ty x span offset) (member_at ty x span offset) (λ w. refl) (member_each ty x span offset)

  arrow_later : (x : TExprT) (span : Span) (offset : ℕ) (es : List Event) (r r' : Val) → Later val es r r' → Later val es (arrow s n x span offset r) (arrow s n' x span offset r')
  arrow_later x span offset = with_later val x _ _ (λ c w. asked_later val span w (step c offset) _ _ (λ z. same val (Place z w)))

  -- ---- calls

  call_each : (params : List Ty) (vs : List Cell) (r : Cell) (span : Span) (u : Store) (d : Done) → Later val (done_events d) (call_done params vs r span u d) (call_done params vs r span u d)
  call_each params vs r span u (Goes v) = same val (NoValue (on_store (back_without params vs r u) v))
  call_each params vs r span u (Breaks v) = stopped val (Stray span) v
  call_each params vs r span u (Continues v) = stopped val (Stray span) v
  call_each params vs r span u (Returns None v) = same val (NoValue (on_store (back_without params vs r u) v))
  call_each params vs r span u (Returns (Some c) v) = same val (Value c (on_store (back_with params vs u) v))
  call_each params vs r span u (Ended e v) = stopped val e v

  enter_later : (f : ℕ) (g : TFunctionT) (vs : List Cell) (r : Cell) (span : Span) (w : World) → Later val w.events (enter s n prev f g vs r span w) (enter s n' prev' f g vs r span w)
  enter_later f g vs r span w = bound_later n n' u w _ _ (room_later (has_room s.sizes f w.store) span w _ _ (through done val (call_done g.params vs r span w.store) (call_done g.params vs r span w.store) (λ v. refl) (call_each g.params vs r span w.store) w.events _ _ (p (Body f vs r) (on_store (entered s.sizes f) w))))

  call_of_later : (f : ℕ) (g : Option TFunctionT) (vs : List Cell) (span : Span) (w : World) → Later val w.events (call_of s n prev f g vs span w) (call_of s n' prev' f g vs span w)
  call_of_later f None vs span w = stopped val (Stray span) w
  call_of_later f (Some g) vs span w = enter_later f g vs (result_place g.gives w.store) span (on_store (with_result s g.gives) w)

  pub call_later : (f : ℕ) (vs : List Cell) (span : Span) (w : World) → Later val w.events (call s n prev f vs span w) (call s n' prev' f vs span w)
  call_later f vs span w = call_of_later f (slice_get s.functions f) vs span w

  argument_later : (tys : List Ty) (x : TExprT) (go go' : List Ty → World → Vals) → ((rest : List Ty) (w : World) → Later vals w.events (go rest w) (go' rest w)) → (es : List Event) (r r' : Val) → Later val es r r' → Later vals es (next_argument s n tys x r go) (next_argument s n' tys x r' go')
  argument_later [] x go go' h = with_later vals x _ _ (λ c w. stopped vals (Stray (span_of x)) w)
  argument_later (ty ∷ tys) x go go' h = with_later vals x _ _ (λ c w. asked_later vals (span_of x) w _ _ _ (λ z. in_front_later z w.events _ _ (h tys w)))

  input_later : (port : ℕ) (xs : List ℕ) (w : World) → Later val w.events (input port xs w) (input port xs w)
  input_later port [] w = stopped val Starved w
  input_later port (x ∷ rest) w = (one w.events (event.In port x), inl refl)

  output_later : (port : ℕ) (x : TExprT) (es : List Event) (r r' : Val) → Later val es r r' → Later val es (output s n port x r) (output s n' port x r')
  output_later port x = with_later val x _ _ (λ c w. asked_later val (span_of x) w (word_of c) _ _ (λ z. (one w.events (event.Out port z), inl refl)))

  -- ---- expressions

  mutual
    pub eval_later : (x : TExprT) (w : World) → Later val w.events (evaluated s n prev x w) (evaluated s n' prev' x w)
    eval_later (Typed kind ty span) w = kind_later kind ty span (spend 1 w)

    kind_later : (k : TKindT) (ty : Ty) (span : Span) (w : World) → Later val w.events (evaluated_kind s n prev k ty span w) (evaluated_kind s n' prev' k ty span w)
    kind_later (NumberK x) ty span w = same val (Value (Num x) w)
    kind_later NullK ty span w = same val (Value Null w)
    kind_later (LiteralK k) ty span w = same val (Place (literal_at s k) w)
    kind_later (GlobalK k) ty span w = same val (Place (Ptr k 0) w)
    kind_later (LocalK k) ty span w = asked_later val span w (first_cell (local_object w.store.locals k)) _ _ (λ c. same val (Place c w))
    kind_later (UnaryK op x) ty span w = unary_later op x span w.events _ _ (eval_later x w)
    kind_later (BinaryK op x y) ty span w = binary_later op x y span _ _ (eval_later y) w.events _ _ (eval_later x w)
    kind_later (AssignK op x y) ty span w = assign_later op x y span _ _ (eval_later y) w.events _ _ (eval_later x w)
    kind_later (StepK op x) ty span w = step_later op x span w.events _ _ (eval_later x w)
    kind_later (IndexK x y) ty span w = index_later ty x y span _ _ (eval_later y) w.events _ _ (eval_later x w)
    kind_later (MemberK x offset) ty span w = member_later ty x span offset w.events _ _ (eval_later x w)
    kind_later (ArrowK x offset) ty span w = arrow_later x span offset w.events _ _ (eval_later x w)
    kind_later (CastK x) ty span w = with_later val x _ _ (λ c v. given span v _) w.events _ _ (eval_later x w)
    kind_later (CallK f xs) ty span w = then_values_later _ _ (λ vs v. call_later f vs span v) w.events _ _ (all_later (params_of (slice_get s.functions f)) xs w)
    kind_later (InK port) ty span w = input_later port w.store.answers w
    kind_later (OutK port x) ty span w = output_later port x w.events _ _ (eval_later x w)
    kind_later WaitK ty span w = (one w.events event.Wait, inl refl)
    kind_later HaltK ty span w = stopped val Halted w
    kind_later CardK ty span w = same val (Value (Ptr s.sizes.card 0) w)

    all_later : (tys : List Ty) (xs : TExprTs) (w : World) → Later vals w.events (evaluated_all s n prev tys xs w) (evaluated_all s n' prev' tys xs w)
    all_later tys NoX w = same vals (Values [] w)
    all_later tys (MoreX x xs) w = argument_later tys x _ _ (λ rest v. all_later rest xs v) w.events _ _ (eval_later x w)

  -- ---- initialisers

  one_later : (ty : Ty) (x : TExprT) (at : Cell) (es : List Event) (r r' : Val) → Later val es r r' → Later went es (one_filled s n ty x at r) (one_filled s n' ty x at r')
  one_later ty x at = with_later went x _ _ (λ c w. asked_later went nowhere w (converted ty c) _ _ (λ z. then_went_later went _ _ (λ v. same went (Through (on_store (released ty z) v))) w.events _ _ (stored_later 1 ty nowhere at z w)))

  text_later : (number size : ℕ) (at : Cell) (w : World) → Later went w.events (text_filled s n number size at w) (text_filled s n' number size at w)
  text_later number size at w = then_went_later went _ _ (λ v. cells_later nowhere 1 (size - literal_words s number) n n' u None (further at (literal_words s number)) v) w.events _ _ (cells_later nowhere 1 (literal_words s number) n n' u (Some (literal_at s number)) at w)

  rest_later : (ty : Ty) (k : ℕ) (at : Cell) (w : World) → Later went w.events (rest_filled s n ty k at w) (rest_filled s n' ty k at w)
  rest_later (ArrayY of len) k at w = cells_later nowhere 1 (words s of * (len - k)) n n' u None at w
  rest_later VoidY k at w = same went (Through w)
  rest_later IntY k at w = same went (Through w)
  rest_later BoolY k at w = same went (Through w)
  rest_later (EnumY number) k at w = same went (Through w)
  rest_later (StructY number) k at w = same went (Through w)
  rest_later (UnionY number) k at w = same went (Through w)
  rest_later (PointerY to) k at w = same went (Through w)

  mutual
    filled_later : (i : TInitT) (ty : Ty) (at : Cell) (w : World) → Later went w.events (filled s n prev i ty at w) (filled s n' prev' i ty at w)
    filled_later (OneI x) ty at w = one_later ty x at w.events _ _ (eval_later x (spend 1 w))
    filled_later (TextI number) ty at w = text_later number (words s ty) at (spend 1 w)
    filled_later (ListI items) ty at w = all_filled_later items ty 0 at (spend 1 w)

    all_filled_later : (is : TInitTs) (ty : Ty) (k : ℕ) (at : Cell) (w : World) → Later went w.events (all_filled s n prev is ty k at w) (all_filled s n' prev' is ty k at w)
    all_filled_later NoI ty k at w = rest_later ty k at w
    all_filled_later (MoreI i rest) ty k at w = then_went_later went _ _ (λ v. all_filled_later rest ty (k + 1) (further at (words s (part_type s.layouts ty k))) v) w.events _ _ (filled_later i (part_type s.layouts ty k) at w)

  variable_later : (v : TVarT) (w : World) → Later went w.events (variable_filled s n prev v w) (variable_filled s n' prev' v w)
  variable_later v w = asked_later went nowhere w (object_of v.global v.object w.store) _ _ (λ at. filled_later v.init v.ty at (spend 1 w))

  variables_later : (vs : List TVarT) (w : World) → Later went w.events (variables_filled s n prev vs w) (variables_filled s n' prev' vs w)
  variables_later [] w = same went (Through w)
  variables_later (v ∷ vs) w = then_went_later went _ _ (variables_later vs) w.events _ _ (variable_later v w)

  -- ---- statements

  left_each : (ks : List ℕ) (r : Done) → Later done (done_events r) (left ks r) (left ks r)
  left_each ks (Goes w) = same done (Goes (on_store (end_all ks) w))
  left_each ks (Breaks w) = same done (Breaks (on_store (end_all ks) w))
  left_each ks (Continues w) = same done (Continues (on_store (end_all ks) w))
  left_each ks (Returns c w) = same done (Returns c (on_store (end_all ks) w))
  left_each ks (Ended e w) = stopped done e w

  left_later : (ks : List ℕ) (es : List Event) (r r' : Done) → Later done es r r' → Later done es (left ks r) (left ks r')
  left_later ks = through done done (left ks) (left ks) (λ w. refl) (left_each ks)

  body_each : (go go' : World → Done) → ((w : World) → Later done w.events (go w) (go' w)) → (r : Done) → Later done (done_events r) (body_done r go) (body_done r go')
  body_each go go' h (Goes w) = h w
  body_each go go' h (Breaks w) = same done (Goes w)
  body_each go go' h (Continues w) = h w
  body_each go go' h (Returns c w) = same done (Returns c w)
  body_each go go' h (Ended e w) = stopped done e w

  body_later : (go go' : World → Done) → ((w : World) → Later done w.events (go w) (go' w)) → (es : List Event) (r r' : Done) → Later done es r r' → Later done es (body_done r go) (body_done r' go')
  body_later go go' h = through done done (λ r. body_done r go) (λ r. body_done r go') (λ w. refl) (body_each go go' h)

  test_later : (test : Option TExprT) (w : World) (go go' other other' : World → Done) → ((v : World) → Later done v.events (go v) (go' v)) → ((v : World) → Later done v.events (other v) (other' v)) → Later done w.events (test_done s n prev test w go other) (test_done s n' prev' test w go' other')
  test_later None w go go' other other' g h = g w
  test_later (Some x) w go go' other other' g h = tested_later done x go go' other other' g h w.events _ _ (eval_later x w)

  step_done_later : (step : Option TExprT) (w : World) (go go' : World → Done) → ((v : World) → Later done v.events (go v) (go' v)) → Later done w.events (step_done s n prev step w go) (step_done s n' prev' step w go')
  step_done_later None w go go' h = h w
  step_done_later (Some x) w go go' h = dropped_later done x go go' h w.events _ _ (eval_later x w)

  turn_later : (test step : Option TExprT) (body body' again again' : World → Done) → ((v : World) → Later done v.events (body v) (body' v)) → ((v : World) → Later done v.events (again v) (again' v)) → (w : World) → Later done w.events (turn s n prev test step body again w) (turn s n' prev' test step body' again' w)
  turn_later test step body body' again again' b a w = test_later test w _ _ _ _ (λ v. body_later _ _ (λ x. step_done_later step x again again' a) v.events (body v) (body' v) (b v)) (λ v. same done (Goes v))

  do_turn_later : (x : TExprT) (body body' again again' : World → Done) → ((v : World) → Later done v.events (body v) (body' v)) → ((v : World) → Later done v.events (again v) (again' v)) → (w : World) → Later done w.events (do_turn s n prev x body again w) (do_turn s n' prev' x body' again' w)
  do_turn_later x body body' again again' b a w = body_later _ _ (λ v. tested_later done x again again' _ _ a (λ z. same done (Goes z)) v.events _ _ (eval_later x v)) w.events (body w) (body' w) (b w)

  switch_each : (r : Done) → Later done (done_events r) (switch_done r) (switch_done r)
  switch_each (Goes w) = same done (Goes w)
  switch_each (Breaks w) = same done (Goes w)
  switch_each (Continues w) = same done (Continues w)
  switch_each (Returns c w) = same done (Returns c w)
  switch_each (Ended e w) = stopped done e w

  switch_later : (es : List Event) (r r' : Done) → Later done es r r' → Later done es (switch_done r) (switch_done r')
  switch_later = through done done switch_done switch_done (λ w. refl) switch_each

  switched_later : (x : TExprT) (go go' : ℕ → World → Done) → ((z : ℕ) (w : World) → Later done w.events (go z w) (go' z w)) → (es : List Event) (r r' : Val) → Later val es r r' → Later done es (switched s n x r go) (switched s n' x r' go')
  switched_later x go go' h = with_later done x _ _ (λ c w. asked_later done (span_of x) w (word_of c) _ _ (λ z. h z w))

  returned_as_later : (ty : Ty) (r c : Cell) (w : World) → Later done w.events (returned_as s n ty r c w) (returned_as s n' ty r c w)
  returned_as_later ty r c w = if_later done w.events (is_structure ty) _ _ _ _ (then_went_later done _ _ (λ v. same done (Returns (Some r) (on_store (released ty c) v))) w.events _ _ (cells_later nowhere 1 (words s ty) n n' u (Some c) r w)) (same done (Returns (Some c) w))

  returned_later : (r : Cell) (x : TExprT) (es : List Event) (v v' : Val) → Later val es v v' → Later done es (returned s n r x v) (returned s n' r x v')
  returned_later r x = with_later done x _ _ (λ c w. asked_later done (span_of x) w (converted (result_of s w.store.function) c) _ _ (λ z. returned_as_later (result_of s w.store.function) r z w))

  mutual
    pub does_later : (r : Cell) (a : TStmtT) (w : World) → Later done w.events (does s n prev r a w) (does s n' prev' r a w)
    does_later r (BlockZ made body) w = left_later made w.events _ _ (does_all_later r body (on_store (fresh_all s.sizes made) (spend 1 w)))
    does_later r EmptyZ w = same done (Goes (spend 1 w))
    does_later r (VarsZ vars) w = then_went_later done _ _ (λ v. same done (Goes v)) w.events _ _ (variables_later vars (spend 1 w))
    does_later r (DoZ x) w = dropped_later done x _ _ (λ v. same done (Goes v)) w.events _ _ (eval_later x (spend 1 w))
    does_later r (IfZ x a b) w = tested_later done x _ _ _ _ (does_later r a) (does_maybe_later r b) w.events _ _ (eval_later x (spend 1 w))
    does_later r (WhileZ x a) w = turn_later (Some x) None _ _ _ _ (does_later r a) (p (Turn r (Some x) None a)) (spend 1 w)
    does_later r (DoWhileZ a x) w = do_turn_later x _ _ _ _ (does_later r a) (p (DoTurn r a x)) (spend 1 w)
    does_later r (ForZ made first test step a) w = left_later made w.events _ _ (then_done_later _ _ (turn_later test step _ _ _ _ (does_later r a) (p (Turn r test step a))) w.events _ _ (does_maybe_later r first (on_store (fresh_all s.sizes made) (spend 1 w))))
    does_later r (SwitchZ x made arms) w = switched_later x _ _ (λ z v. left_later made v.events _ _ (switch_later v.events _ _ (does_arms_later r (arms_before z arms) arms (on_store (fresh_all s.sizes made) (spend (labels arms) v))))) w.events _ _ (eval_later x (spend 1 w))
    does_later r (ReturnZ None) w = same done (Returns None (spend 1 w))
    does_later r (ReturnZ (Some x)) w = returned_later r x w.events _ _ (eval_later x (spend 1 w))
    does_later r BreakZ w = same done (Breaks (spend 1 w))
    does_later r ContinueZ w = same done (Continues (spend 1 w))

    does_maybe_later : (r : Cell) (a : MaybeZ) (w : World) → Later done w.events (does_maybe s n prev r a w) (does_maybe s n' prev' r a w)
    does_maybe_later r NoneZ w = same done (Goes w)
    does_maybe_later r (SomeZ a) w = does_later r a w

    pub does_all_later : (r : Cell) (a : TStmtTs) (w : World) → Later done w.events (does_all s n prev r a w) (does_all s n' prev' r a w)
    does_all_later r NoZ w = same done (Goes w)
    does_all_later r (MoreZ a rest) w = then_done_later _ _ (does_all_later r rest) w.events _ _ (does_later r a w)

    does_arm_later : (r : Cell) (a : TArmT) (w : World) → Later done w.events (does_arm s n prev r a w) (does_arm s n' prev' r a w)
    does_arm_later r (CaseB label) w = same done (Goes w)
    does_arm_later r DefaultB w = same done (Goes w)
    does_arm_later r (StmtB a) w = does_later r a w

    does_arms_later : (r : Cell) (k : ℕ) (a : TArmTs) (w : World) → Later done w.events (does_arms s n prev r k a w) (does_arms s n' prev' r k a w)
    does_arms_later r k NoB w = same done (Goes w)
    does_arms_later r zero (MoreB a rest) w = then_done_later _ _ (does_arms_later r zero rest) w.events _ _ (does_arm_later r a w)
    does_arms_later r (suc k) (MoreB a rest) w = does_arms_later r k rest w

  -- ---- functions

  params_later : (k : ℕ) (tys : List Ty) (cs : List Cell) (w : World) → Later went w.events (params_stored s n k tys cs w) (params_stored s n' k tys cs w)
  params_later k [] [] w = same went (Through w)
  params_later k [] (c ∷ cs) w = stopped went (Stray nowhere) w
  params_later k (ty ∷ tys) [] w = stopped went (Stray nowhere) w
  params_later k (ty ∷ tys) (c ∷ cs) w = asked_later went nowhere w (first_cell (local_object w.store.locals k)) _ _ (λ at. then_went_later went _ _ (params_later (k + 1) tys cs) w.events _ _ (stored_later 0 ty nowhere at c w))

  body_of_later : (g : Option TFunctionT) (vs : List Cell) (r : Cell) (w : World) → Later done w.events (body_of s n prev g vs r w) (body_of s n' prev' g vs r w)
  body_of_later None vs r w = stopped done (Stray nowhere) w
  body_of_later (Some g) vs r w = then_went_later done _ _ (does_all_later r g.body) w.events _ _ (params_later 0 g.params vs (on_store (fresh_all s.sizes (g.made)) w))

  pub task_later : (t : Task) (w : World) → Later done w.events (task_done s n prev t w) (task_done s n' prev' t w)
  task_later (Turn r test step a) w = turn_later test step _ _ _ _ (does_later r a) (p (Turn r test step a)) w
  task_later (DoTurn r a x) w = do_turn_later x _ _ _ _ (does_later r a) (p (DoTurn r a x)) w
  task_later (Body f vs r) w = body_of_later (slice_get s.functions f) vs r w

-- ---- the bound

below_same : (s : Setting) (n : ℕ) (t : Task) (w : World) → Later done w.events (below s n t w) (below s n t w)
below_same s zero t w = stopped done OutOfBound w
below_same s (suc n) t w = task_later s n n (up_same n) (below s n) (below s n) (below_same s n) t w

pub below_later : (s : Setting) (n n' : ℕ) → Up n n' → (t : Task) (w : World) → Later done w.events (below s n t w) (below s n' t w)
below_later s zero zero u t w = stopped done OutOfBound w
below_later s zero (suc n') u t w = let b = (below_same s (suc n') t w).0 in (b, inr (w, refl, b))
below_later s (suc n) zero u t w = absurd u
below_later s (suc n) (suc n') u t w = task_later s n n' u (below s n) (below s n') (below_later s n n' u) t w
