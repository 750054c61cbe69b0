-- What is done does not look at what was done before: with more port operations and work in the past of the world, parts of a program come to
-- the same, with these in its past.
use Rattle.std.proofs.Common.{◌≡◌, ℕ, zero, suc, ◌+◌, ◌-◌, ◌*◌, Bool, true, false, if◌then◌else◌, List, [], ◌∷◌, slice_get, Option, Some, None, option_map, Ok, Err, refl, ap, ◌∙◌}
use Rattle.kit_base.specs.declared.event.Event.{Event}
use Rattle.kit_base.specs.declared.event.Event.TheVariants as event
use Rattle.c_tree.specs.declared.span.Span.{Span}
use Rattle.c_tree.specs.declared.operator.UnOp.{UnOp}
use Rattle.c_tree.specs.declared.operator.UnOp.TheVariants as un
use Rattle.c_tree.specs.declared.operator.StepOp.{StepOp}
use Rattle.c_tree.specs.declared.operator.BinOp.{BinOp}
use Rattle.c_tree.specs.declared.operator.BinOp.TheVariants.{AndAlso, OrElse}
use Rattle.c_types.specs.Types.{Ty, VoidY, IntY, BoolY, EnumY, StructY, UnionY, PointerY, ArrayY}
use Rattle.c_types.specs.Typed.{TExprT, Typed, TKindT, NumberK, NullK, LiteralK, GlobalK, LocalK, UnaryK, BinaryK, AssignK, StepK, IndexK, MemberK, ArrowK, CastK, CallK, InK, OutK, WaitK, HaltK, CardK, TExprTs, NoX, MoreX, TInitT, OneI, TextI, ListI, TInitTs, NoI, MoreI, TVarT, TStmtT, BlockZ, EmptyZ, VarsZ, DoZ, IfZ, WhileZ, DoWhileZ, ForZ, SwitchZ, ReturnZ, BreakZ, ContinueZ, MaybeZ, NoneZ, SomeZ, TStmtTs, NoZ, MoreZ, TArmT, CaseB, DefaultB, StmtB, TArmTs, NoB, MoreB}
use Rattle.c_meaning.specs.Kinds.{type_of, span_of}
use Rattle.c_types.specs.Kinds.{is_structure, decayed}
use Rattle.c_types.specs.Parts.{part_type}
use Rattle.c_types.specs.Programs.{TFunctionT, ProgramT}
use Rattle.obj_mem.specs.declared.cell.Cell.{Cell}
use Rattle.obj_mem.specs.declared.cell.Cell.TheVariants.{Num}
use Rattle.obj_mem.specs.declared.refusal.Refusal.TheVariants.{Strays, Faults}
use Rattle.obj_mem.specs.Stores.{Store, local_object, with_objects, fresh_all, with_temporary, next_object, has_room, entered}
use Rattle.obj_mem.specs.Worlds.{World, on_store, spend, with_past}
use Rattle.obj_mem.specs.Queries.{Answer, word_of, write, step, further, first_cell}
use Rattle.obj_mem.proofs.Past.{spend_past, happened_past, answered_past}
use Rattle.c_meaning.specs.declared.end.End.{End}
use Rattle.c_meaning.specs.declared.end.End.TheVariants.{Fault, Stray}
use Rattle.c_meaning.specs.Outcomes.{Val, Value, Place, NoValue, Stops, Vals, Values, Short, Went, Through, CutOff, Done, Goes, Breaks, Continues, Returns, Ended, Task, Turn, DoTurn, Body, Before, nowhere, asked, then_value, then_place, then_went, then_values, in_front, then_done, either_way}
use Rattle.c_meaning.specs.Setting.{Setting, setting, words, literal_at, literal_words, result_of}
use Rattle.c_meaning.specs.Operators.{read_as, converted, operated, stepped}
use Rattle.c_meaning.specs.Cells.{cell_set, cells_set, next_turn, structure_read, scalar_read, fetched, stored, member_of_value}
use Rattle.c_meaning.specs.Expressions.{value_of, with_value, tested, dropped_value, dropped, truth_of, unary, second_operated, both_operated, binary, assigned, second_assigned, assign, step_operator, gives_old, old_or_new, step_taken, second_indexed, index, member_at, arrow, if_bound, if_room, result_place, with_result, call_done, enter, call_of, call, params_of, next_argument, input, output, evaluated, evaluated_kind, evaluated_all}
use Rattle.c_meaning.specs.Initialisers.{one_filled, text_filled, rest_filled, filled, all_filled, object_of, variable_filled, variables_filled}
use Rattle.c_meaning.specs.Statements.{left, body_done, test_done, step_done, turn, do_turn, arms_before, labels, switch_done, switched, returned_as, returned, does, does_maybe, does_all, does_arm, does_arms, params_stored, body_of, task_done, below}
use Rattle.c_meaning.specs.Runs.{Final, final, main_done, main_called, inits_done}

-- ---- outcomes with more in the past

abbrev pub val_past : ℕ → List Event → Val → Val
val_past d es (Value c w) = Value c (with_past d es w)
val_past d es (Place c w) = Place c (with_past d es w)
val_past d es (NoValue w) = NoValue (with_past d es w)
val_past d es (Stops e w) = Stops e (with_past d es w)

abbrev pub vals_past : ℕ → List Event → Vals → Vals
vals_past d es (Values vs w) = Values vs (with_past d es w)
vals_past d es (Short e w) = Short e (with_past d es w)

abbrev pub went_past : ℕ → List Event → Went → Went
went_past d es (Through w) = Through (with_past d es w)
went_past d es (CutOff e w) = CutOff e (with_past d es w)

abbrev pub done_past : ℕ → List Event → Done → Done
done_past d es (Goes w) = Goes (with_past d es w)
done_past d es (Breaks w) = Breaks (with_past d es w)
done_past d es (Continues w) = Continues (with_past d es w)
done_past d es (Returns c w) = Returns c (with_past d es w)
done_past d es (Ended e w) = Ended e (with_past d es w)

abbrev pub final_past : ℕ → List Event → Final → Final
final_past d es x = final x.end (with_past d es x.world)

-- a kind of outcomes: how a run ends in it, and one with more in the past
pub record Kind (d : ℕ) (es : List Event) (R : Type 0) : Type 0 where
  pub stop : End → World → R
  pub past : R → R
  pub told : (e : End) (w : World) → stop e (with_past d es w) ≡ past (stop e w)

module _ (d : ℕ) (es : List Event) where
  abbrev p : World → World
  p = with_past d es

  abbrev pv : Val → Val
  pv = val_past d es

  abbrev pvs : Vals → Vals
  pvs = vals_past d es

  abbrev pw : Went → Went
  pw = went_past d es

  abbrev pd : Done → Done
  pd = done_past d es

  abbrev pub val : Kind d es Val
  val = record { stop = Stops; past = pv; told = λ e w. refl }

  abbrev pub vals : Kind d es Vals
  vals = record { stop = Short; past = pvs; told = λ e w. refl }

  abbrev pub went : Kind d es Went
  went = record { stop = CutOff; past = pw; told = λ e w. refl }

  abbrev pub done : Kind d es Done
  done = record { stop = Ended; past = pd; told = λ e w. refl }

  abbrev pub last : Kind d es Final
  last = record { stop = final; past = final_past d es; told = λ e w. refl }

  -- ---- going on

  pub asked_past : {A R : Type 0} (k : Kind d es R) (span : Span) (w : World) (x : Answer A) (go' go : A → R) → ((a : A) → go' a ≡ k.past (go a)) → asked k.stop span (p w) x go' ≡ k.past (asked k.stop span w x go)
  asked_past k span w (Ok a) go' go h = h a
  asked_past k span w (Err Strays) go' go h = k.told (Stray span) w
  asked_past k span w (Err (Faults n)) go' go h = k.told (Fault n) w

  then_value_each : {R : Type 0} (k : Kind d es R) (span : Span) (go : Cell → World → R) → ((c : Cell) (w : World) → go c (p w) ≡ k.past (go c w)) → (r : Val) → then_value k.stop span (pv r) go ≡ k.past (then_value k.stop span r go)
  then_value_each k span go h (Value c w) = h c w
  then_value_each k span go h (Place c w) = k.told (Stray span) w
  then_value_each k span go h (NoValue w) = k.told (Stray span) w
  then_value_each k span go h (Stops e w) = k.told e w

  pub then_value_past : {R : Type 0} (k : Kind d es R) (span : Span) (go : Cell → World → R) → ((c : Cell) (w : World) → go c (p w) ≡ k.past (go c w)) → (r' r : Val) → r' ≡ pv r → then_value k.stop span r' go ≡ k.past (then_value k.stop span r go)
  then_value_past k span go h r' r e = ap (λ x. then_value k.stop span x go) e ∙ then_value_each k span go h r

  then_place_each : (span : Span) (go : Cell → World → Val) → ((c : Cell) (w : World) → go c (p w) ≡ pv (go c w)) → (r : Val) → then_place span (pv r) go ≡ pv (then_place span r go)
  then_place_each span go h (Value c w) = refl
  then_place_each span go h (Place c w) = h c w
  then_place_each span go h (NoValue w) = refl
  then_place_each span go h (Stops e w) = refl

  pub then_place_past : (span : Span) (go : Cell → World → Val) → ((c : Cell) (w : World) → go c (p w) ≡ pv (go c w)) → (r' r : Val) → r' ≡ pv r → then_place span r' go ≡ pv (then_place span r go)
  then_place_past span go h r' r e = ap (λ x. then_place span x go) e ∙ then_place_each span go h r

  then_went_each : {R : Type 0} (k : Kind d es R) (go : World → R) → ((w : World) → go (p w) ≡ k.past (go w)) → (r : Went) → then_went k.stop (pw r) go ≡ k.past (then_went k.stop r go)
  then_went_each k go h (Through w) = h w
  then_went_each k go h (CutOff e w) = k.told e w

  pub then_went_past : {R : Type 0} (k : Kind d es R) (go : World → R) → ((w : World) → go (p w) ≡ k.past (go w)) → (r' r : Went) → r' ≡ pw r → then_went k.stop r' go ≡ k.past (then_went k.stop r go)
  then_went_past k go h r' r e = ap (λ x. then_went k.stop x go) e ∙ then_went_each k go h r

  then_values_each : (go : List Cell → World → Val) → ((cs : List Cell) (w : World) → go cs (p w) ≡ pv (go cs w)) → (r : Vals) → then_values (pvs r) go ≡ pv (then_values r go)
  then_values_each go h (Values cs w) = h cs w
  then_values_each go h (Short e w) = refl

  pub then_values_past : (go : List Cell → World → Val) → ((cs : List Cell) (w : World) → go cs (p w) ≡ pv (go cs w)) → (r' r : Vals) → r' ≡ pvs r → then_values r' go ≡ pv (then_values r go)
  then_values_past go h r' r e = ap (λ x. then_values x go) e ∙ then_values_each go h r

  in_front_each : (c : Cell) (r : Vals) → in_front c (pvs r) ≡ pvs (in_front c r)
  in_front_each c (Values cs w) = refl
  in_front_each c (Short e w) = refl

  pub in_front_past : (c : Cell) (r' r : Vals) → r' ≡ pvs r → in_front c r' ≡ pvs (in_front c r)
  in_front_past c r' r e = ap (in_front c) e ∙ in_front_each c r

  then_done_each : (go : World → Done) → ((w : World) → go (p w) ≡ pd (go w)) → (r : Done) → then_done (pd r) go ≡ pd (then_done r go)
  then_done_each go h (Goes w) = h w
  then_done_each go h (Breaks w) = refl
  then_done_each go h (Continues w) = refl
  then_done_each go h (Returns c w) = refl
  then_done_each go h (Ended e w) = refl

  pub then_done_past : (go : World → Done) → ((w : World) → go (p w) ≡ pd (go w)) → (r' r : Done) → r' ≡ pd r → then_done r' go ≡ pd (then_done r go)
  then_done_past go h r' r e = ap (λ x. then_done x go) e ∙ then_done_each go h r

  pub either_past : {R : Type 0} (k : Kind d es R) (b : Bool) (w : World) (go other : World → R) → go (p w) ≡ k.past (go w) → other (p w) ≡ k.past (other w) → either_way b (p w) go other ≡ k.past (either_way b w go other)
  either_past k true w go other g h = g
  either_past k false w go other g h = h

  if_past : {R : Type 0} (k : Kind d es R) (b : Bool) (x' x y' y : R) → x' ≡ k.past x → y' ≡ k.past y → (if b then x' else y') ≡ k.past (if b then x else y)
  if_past k true x' x y' y g h = g
  if_past k false x' x y' y g h = h

  -- ---- loops over cells

  next_past : (left n : ℕ) (w : World) (go : ℕ → World → Went) → ((m : ℕ) (v : World) → go m (p v) ≡ pw (go m v)) → next_turn left n (p w) go ≡ pw (next_turn left n w go)
  next_past zero n w go h = refl
  next_past (suc left) zero w go h = refl
  next_past (suc left) (suc n) w go h = h n w

  pub cells_past : (span : Span) (cost n count : ℕ) (from : Option Cell) (to : Cell) (w : World) → cells_set span cost n count from to (p w) ≡ pw (cells_set span cost n count from to w)
  cells_past span cost n zero from to w = refl
  cells_past span cost n (suc left) from to w =
      let go : ℕ → World → Went = λ m v. cells_set span cost m left (option_map (λ c. further c 1) from) (further to 1) v in
      ap (λ t. asked CutOff span t (cell_set from to w.store.objects) (λ os. next_turn left n (on_store (with_objects os) t) go)) (spend_past d es cost w)
      ∙ asked_past went span (spend cost w) (cell_set from to w.store.objects) _ _ (λ os. next_past left n (on_store (with_objects os) (spend cost w)) go (λ m v. cells_past span cost m left (option_map (λ c. further c 1) from) (further to 1) v))

  -- ---- one less of the bound

  bound_past : (n : ℕ) (w : World) (go : World → Val) → go (p w) ≡ pv (go w) → if_bound n (p w) go ≡ pv (if_bound n w go)
  bound_past zero w go h = refl
  bound_past (suc n) w go h = h

  room_past : (b : Bool) (span : Span) (w : World) (go : World → Val) → go (p w) ≡ pv (go w) → if_room b span (p w) go ≡ pv (if_room b span w go)
  room_past true span w go h = h
  room_past false span w go h = refl

  module _ (s : Setting) (n : ℕ) (prev : Before) (q : (t : Task) (w : World) → prev t (p w) ≡ pd (prev t w)) where
    -- ---- using what an expression came to

    scalar_past : (ty : Ty) (span : Span) (c : Cell) (w : World) → scalar_read ty span c (p w) ≡ pv (scalar_read ty span c w)
    scalar_past ty span c w = asked_past val span w (read_as ty w.store.objects c) _ _ (λ z. refl)

    structure_past : (span : Span) (size : ℕ) (c : Cell) (w : World) → structure_read span n size c (p w) ≡ pv (structure_read span n size c w)
    structure_past span size c w = then_went_past val _ (λ v. refl) _ _ (cells_past span 1 n size (Some c) (next_object w.store) (on_store (with_temporary size) w))

    pub fetched_past : (ty : Ty) (span : Span) (c : Cell) (w : World) → fetched s n ty span c (p w) ≡ pv (fetched s n ty span c w)
    fetched_past VoidY span c w = refl
    fetched_past IntY span c w = scalar_past IntY span c w
    fetched_past BoolY span c w = scalar_past BoolY span c w
    fetched_past (EnumY k) span c w = scalar_past (EnumY k) span c w
    fetched_past (StructY k) span c w = structure_past span (words s (StructY k)) c w
    fetched_past (UnionY k) span c w = structure_past span (words s (UnionY k)) c w
    fetched_past (PointerY to) span c w = scalar_past (PointerY to) span c w
    fetched_past (ArrayY of len) span c w = refl

    pub value_each : (x : TExprT) (r : Val) → value_of s n x (pv r) ≡ pv (value_of s n x r)
    value_each x (Value c w) = refl
    value_each x (Place c w) = fetched_past (type_of x) (span_of x) c w
    value_each x (NoValue w) = refl
    value_each x (Stops e w) = refl

    pub with_value_past : {R : Type 0} (k : Kind d es R) (x : TExprT) (go : Cell → World → R) → ((c : Cell) (w : World) → go c (p w) ≡ k.past (go c w)) → (r' r : Val) → r' ≡ pv r → with_value k.stop s n x r' go ≡ k.past (with_value k.stop s n x r go)
    with_value_past k x go h r' r e = then_value_past k (span_of x) go h (value_of s n x r') (value_of s n x r) (ap (value_of s n x) e ∙ value_each x r)

    pub tested_past : {R : Type 0} (k : Kind d es R) (x : TExprT) (go other : World → R) → ((w : World) → go (p w) ≡ k.past (go w)) → ((w : World) → other (p w) ≡ k.past (other w)) → (r' r : Val) → r' ≡ pv r → tested k.stop s n x r' go other ≡ k.past (tested k.stop s n x r go other)
    tested_past k x go other g h = with_value_past k x _ (λ c w. asked_past k (span_of x) w _ _ _ (λ b. either_past k b w go other (g w) (h w)))

    dropped_each : {R : Type 0} (k : Kind d es R) (x : TExprT) (go : World → R) → ((w : World) → go (p w) ≡ k.past (go w)) → (r : Val) → dropped_value k.stop x (pv r) go ≡ k.past (dropped_value k.stop x r go)
    dropped_each k x go h (Value c w) = h _
    dropped_each k x go h (Place c w) = k.told (Stray (span_of x)) w
    dropped_each k x go h (NoValue w) = h w
    dropped_each k x go h (Stops e w) = k.told e w

    pub dropped_past : {R : Type 0} (k : Kind d es R) (x : TExprT) (go : World → R) → ((w : World) → go (p w) ≡ k.past (go w)) → (r' r : Val) → r' ≡ pv r → dropped k.stop s n x r' go ≡ k.past (dropped k.stop s n x r go)
    dropped_past k x go h r' r e = ap (λ v. dropped k.stop s n x v go) e ∙ ap (λ v. dropped_value k.stop x v go) (value_each x r) ∙ dropped_each k x go h (value_of s n x r)

    -- ---- operators

    given : (span : Span) (w : World) (x : Answer Cell) → asked Stops span (p w) x (λ z. Value z (p w)) ≡ pv (asked Stops span w x (λ z. Value z w))
    given span w x = asked_past val span w x _ _ (λ z. refl)

    pub truth_past : (x : TExprT) (r' r : Val) → r' ≡ pv r → truth_of s n x r' ≡ pv (truth_of s n x r)
    truth_past x = tested_past val x _ _ (λ w. refl) (λ w. refl)

    pub unary_past : (op : UnOp) (x : TExprT) (span : Span) (r' r : Val) → r' ≡ pv r → unary s n op x span r' ≡ pv (unary s n op x span r)
    unary_past un.Deref x span = with_value_past val x _ (λ c w. refl)
    unary_past un.Address x span = then_place_past span _ (λ c w. refl)
    unary_past un.Not x span = tested_past val x _ _ (λ w. refl) (λ w. refl)
    unary_past un.Minus x span = with_value_past val x _ (λ c w. given span w _)
    unary_past un.Plus x span = with_value_past val x _ (λ c w. given span w _)
    unary_past un.Flip x span = with_value_past val x _ (λ c w. given span w _)

    pub second_operated_past : (op : BinOp) (x y : TExprT) (span : Span) (first : Cell) (r' r : Val) → r' ≡ pv r → second_operated s n op x y span first r' ≡ pv (second_operated s n op x y span first r)
    second_operated_past op x y span first = with_value_past val y _ (λ e v. given span v _)

    both_past : (op : BinOp) (x y : TExprT) (span : Span) (second : World → Val) → ((w : World) → second (p w) ≡ pv (second w)) → (r' r : Val) → r' ≡ pv r → both_operated s n op x y span r' second ≡ pv (both_operated s n op x y span r second)
    both_past op x y span second h = with_value_past val x _ (λ c w. second_operated_past op x y span c _ _ (h w))

    pub binary_past : (op : BinOp) (x y : TExprT) (span : Span) (second : World → Val) → ((w : World) → second (p w) ≡ pv (second w)) → (r' r : Val) → r' ≡ pv r → binary s n op x y span r' second ≡ pv (binary s n op x y span r second)
    binary_past AndAlso x y span second h = tested_past val x _ _ (λ w. truth_past y _ _ (h w)) (λ w. refl)
    binary_past OrElse x y span second h = tested_past val x _ _ (λ w. refl) (λ w. truth_past y _ _ (h w))
    binary_past op x y span second h = both_past op x y span second h

    -- ---- assignments and steps

    pub stored_past : (extra : ℕ) (ty : Ty) (span : Span) (at c : Cell) (w : World) → stored s n extra ty span at c (p w) ≡ pw (stored s n extra ty span at c w)
    stored_past extra ty span at c w = if_past went (is_structure ty) _ _ _ _ (cells_past span (extra + 1) n (words s ty) (Some c) at w) (ap (λ t. asked CutOff span t (write w.store.objects at c) (λ os. Through (on_store (with_objects os) t))) (spend_past d es extra w) ∙ asked_past went span (spend extra w) (write w.store.objects at c) _ _ (λ os. refl))

    pub assigned_past : (x : TExprT) (span : Span) (at c : Cell) (w : World) → assigned s n x span at c (p w) ≡ pv (assigned s n x span at c w)
    assigned_past x span at c w = asked_past val span w (converted (type_of x) c) _ _ (λ z. then_went_past val _ (λ v. refl) _ _ (stored_past 0 (type_of x) (span_of x) at z w))

    pub second_assigned_past : (op : Option BinOp) (x y : TExprT) (span : Span) (at : Cell) (r' r : Val) → r' ≡ pv r → second_assigned s n op x y span at r' ≡ pv (second_assigned s n op x y span at r)
    second_assigned_past None x y span at = with_value_past val y _ (λ c v. assigned_past x span at c v)
    second_assigned_past (Some op) x y span at = with_value_past val y _ (λ c v. asked_past val (span_of x) v (read_as (type_of x) v.store.objects at) _ _ (λ old. asked_past val span v (operated s op (type_of x) (type_of y) v.store.objects old c) _ _ (λ z. assigned_past x span at z v)))

    pub assign_past : (op : Option BinOp) (x y : TExprT) (span : Span) (second : World → Val) → ((w : World) → second (p w) ≡ pv (second w)) → (r' r : Val) → r' ≡ pv r → assign s n op x y span r' second ≡ pv (assign s n op x y span r second)
    assign_past op x y span second h = then_place_past span _ (λ at w. second_assigned_past op x y span at _ _ (h w))

    old_each : (b : Bool) (old : Cell) (r : Val) → old_or_new b old (pv r) ≡ pv (old_or_new b old r)
    old_each true old (Value c w) = refl
    old_each true old (Place c w) = refl
    old_each true old (NoValue w) = refl
    old_each true old (Stops e w) = refl
    old_each false old r = refl

    pub step_past : (op : StepOp) (x : TExprT) (span : Span) (r' r : Val) → r' ≡ pv r → step_taken s n op x span r' ≡ pv (step_taken s n op x span r)
    step_past op x span = then_place_past span _ (λ at w. asked_past val (span_of x) w (read_as (type_of x) w.store.objects at) _ _ (λ old. asked_past val span w (operated s (step_operator op) (type_of x) IntY w.store.objects old (Num 1)) _ _ (λ z. ap (old_or_new (gives_old op) old) (assigned_past x span at z w) ∙ old_each (gives_old op) old (assigned s n x span at z w))))

    -- ---- elements and members

    pub second_indexed_past : (ty : Ty) (y : TExprT) (span : Span) (base : Cell) (r' r : Val) → r' ≡ pv r → second_indexed s n ty y span base r' ≡ pv (second_indexed s n ty y span base r)
    second_indexed_past ty y span base = with_value_past val y _ (λ e v. asked_past val span v (stepped (words s ty) base e) _ _ (λ z. refl))

    pub index_past : (ty : Ty) (x y : TExprT) (span : Span) (second : World → Val) → ((w : World) → second (p w) ≡ pv (second w)) → (r' r : Val) → r' ≡ pv r → index s n ty x y span r' second ≡ pv (index s n ty x y span r second)
    index_past ty x y span second h = with_value_past val x _ (λ c w. second_indexed_past ty y span c _ _ (h w))

    member_value_past : (ty : Ty) (span : Span) (c : Cell) (w : World) → member_of_value ty span c (p w) ≡ pv (member_of_value ty span c w)
    member_value_past ty span c w = if_past val (is_structure ty) _ _ _ _ refl (asked_past val span w (read_as ty w.store.objects c) _ _ (λ z. refl))

    member_each : (ty : Ty) (x : TExprT) (span : Span) (offset : ℕ) (r : Val) → member_at ty x span offset (pv r) ≡ pv (member_at ty x span offset r)
    member_each ty x span offset (Value c w) = member_value_past ty span (further c offset) w
    member_each ty x span offset (Place c w) = asked_past val span w (step c offset) _ _ (λ z. refl)
    member_each ty x span offset (NoValue w) = refl
    member_each ty x span offset (Stops e w) = refl

    pub member_past : (ty : Ty) (x : TExprT) (span : Span) (offset : ℕ) (r' r : Val) → r' ≡ pv r → member_at ty x span offset r' ≡ pv (member_at ty x span offset r)
    member_past ty x span offset r' r e = ap (member_at ty x span offset) e ∙ member_each ty x span offset r

    pub arrow_past : (x : TExprT) (span : Span) (offset : ℕ) (r' r : Val) → r' ≡ pv r → arrow s n x span offset r' ≡ pv (arrow s n x span offset r)
    arrow_past x span offset = with_value_past val x _ (λ c w. asked_past val span w (step c offset) _ _ (λ z. refl))

    -- ---- calls

    pub call_each : (params : List Ty) (vs : List Cell) (r : Cell) (span : Span) (u : Store) (x : Done) → call_done params vs r span u (pd x) ≡ pv (call_done params vs r span u x)
    call_each params vs r span u (Goes w) = refl
    call_each params vs r span u (Breaks w) = refl
    call_each params vs r span u (Continues w) = refl
    call_each params vs r span u (Returns None w) = refl
    call_each params vs r span u (Returns (Some c) w) = refl
    call_each params vs r span u (Ended e w) = refl

    pub enter_past : (f : ℕ) (g : TFunctionT) (vs : List Cell) (r : Cell) (span : Span) (w : World) → enter s n prev f g vs r span (p w) ≡ pv (enter s n prev f g vs r span w)
    enter_past f g vs r span w = bound_past n w _ (room_past (has_room s.sizes f w.store) span w _ (ap (call_done g.params vs r span w.store) (q (Body f vs r) (on_store (entered s.sizes f) w)) ∙ call_each g.params vs r span w.store _))

    call_of_past : (f : ℕ) (g : Option TFunctionT) (vs : List Cell) (span : Span) (w : World) → call_of s n prev f g vs span (p w) ≡ pv (call_of s n prev f g vs span w)
    call_of_past f None vs span w = refl
    call_of_past f (Some g) vs span w = enter_past f g vs (result_place g.gives w.store) span (on_store (with_result s g.gives) w)

    pub call_past : (f : ℕ) (vs : List Cell) (span : Span) (w : World) → call s n prev f vs span (p w) ≡ pv (call s n prev f vs span w)
    call_past f vs span w = call_of_past f (slice_get s.functions f) vs span w

    pub argument_past : (tys : List Ty) (x : TExprT) (go : List Ty → World → Vals) → ((rest : List Ty) (w : World) → go rest (p w) ≡ pvs (go rest w)) → (r' r : Val) → r' ≡ pv r → next_argument s n tys x r' go ≡ pvs (next_argument s n tys x r go)
    argument_past [] x go h = with_value_past vals x _ (λ c w. refl)
    argument_past (ty ∷ tys) x go h = with_value_past vals x _ (λ c w. asked_past vals (span_of x) w (converted ty c) _ _ (λ z. in_front_past z _ _ (h tys w)))

    -- ---- ports

    pub input_past : (port : ℕ) (xs : List ℕ) (w : World) → input port xs (p w) ≡ pv (input port xs w)
    input_past port [] w = refl
    input_past port (x ∷ rest) w = ap (Value (Num x)) (answered_past d es port x rest w)

    pub output_past : (port : ℕ) (x : TExprT) (r' r : Val) → r' ≡ pv r → output s n port x r' ≡ pv (output s n port x r)
    output_past port x = with_value_past val x _ (λ c w. asked_past val (span_of x) w (word_of c) _ _ (λ z. ap NoValue (happened_past d es (event.Out port z) w)))

    -- ---- expressions

    mutual
      pub evaluated_past : (x : TExprT) (w : World) → evaluated s n prev x (p w) ≡ pv (evaluated s n prev x w)
      evaluated_past (Typed kind ty span) w = ap (evaluated_kind s n prev kind ty span) (spend_past d es 1 w) ∙ kind_past kind ty span (spend 1 w)

      pub kind_past : (k : TKindT) (ty : Ty) (span : Span) (w : World) → evaluated_kind s n prev k ty span (p w) ≡ pv (evaluated_kind s n prev k ty span w)
      kind_past (NumberK x) ty span w = refl
      kind_past NullK ty span w = refl
      kind_past (LiteralK k) ty span w = refl
      kind_past (GlobalK k) ty span w = refl
      kind_past (LocalK k) ty span w = asked_past val span w (first_cell (local_object w.store.locals k)) _ _ (λ c. refl)
      kind_past (UnaryK op x) ty span w = unary_past op x span _ _ (evaluated_past x w)
      kind_past (BinaryK op x y) ty span w = binary_past op x y span _ (evaluated_past y) _ _ (evaluated_past x w)
      kind_past (AssignK op x y) ty span w = assign_past op x y span _ (evaluated_past y) _ _ (evaluated_past x w)
      kind_past (StepK op x) ty span w = step_past op x span _ _ (evaluated_past x w)
      kind_past (IndexK x y) ty span w = index_past ty x y span _ (evaluated_past y) _ _ (evaluated_past x w)
      kind_past (MemberK x offset) ty span w = member_past ty x span offset _ _ (evaluated_past x w)
      kind_past (ArrowK x offset) ty span w = arrow_past x span offset _ _ (evaluated_past x w)
      kind_past (CastK x) ty span w = with_value_past val x _ (λ c v. given span v _) _ _ (evaluated_past x w)
      kind_past (CallK f xs) ty span w = then_values_past _ (λ vs v. call_past f vs span v) _ _ (evaluated_all_past (params_of (slice_get s.functions f)) xs w)
      kind_past (InK port) ty span w = input_past port w.store.answers w
      kind_past (OutK port x) ty span w = output_past port x _ _ (evaluated_past x w)
      kind_past WaitK ty span w = ap NoValue (happened_past d es event.Wait w)
      kind_past HaltK ty span w = refl
      kind_past CardK ty span w = refl

      pub evaluated_all_past : (tys : List Ty) (xs : TExprTs) (w : World) → evaluated_all s n prev tys xs (p w) ≡ pvs (evaluated_all s n prev tys xs w)
      evaluated_all_past tys NoX w = refl
      evaluated_all_past tys (MoreX x xs) w = argument_past tys x _ (λ rest v. evaluated_all_past rest xs v) _ _ (evaluated_past x w)

    -- ---- initialisers

    pub one_past : (ty : Ty) (x : TExprT) (at : Cell) (r' r : Val) → r' ≡ pv r → one_filled s n ty x at r' ≡ pw (one_filled s n ty x at r)
    one_past ty x at = with_value_past went x _ (λ c w. asked_past went nowhere w (converted ty c) _ _ (λ z. then_went_past went _ (λ v. refl) _ _ (stored_past 1 ty _ at z w)))

    pub text_past : (number size : ℕ) (at : Cell) (w : World) → text_filled s n number size at (p w) ≡ pw (text_filled s n number size at w)
    text_past number size at w = then_went_past went _ (λ v. cells_past _ 1 n (size - literal_words s number) None (further at (literal_words s number)) v) _ _ (cells_past _ 1 n (literal_words s number) (Some (literal_at s number)) at w)

    pub rest_past : (ty : Ty) (k : ℕ) (at : Cell) (w : World) → rest_filled s n ty k at (p w) ≡ pw (rest_filled s n ty k at w)
    rest_past (ArrayY of len) k at w = cells_past _ 1 n (words s of * (len - k)) None at w
    rest_past VoidY k at w = refl
    rest_past IntY k at w = refl
    rest_past BoolY k at w = refl
    rest_past (EnumY number) k at w = refl
    rest_past (StructY number) k at w = refl
    rest_past (UnionY number) k at w = refl
    rest_past (PointerY to) k at w = refl

    mutual
      pub filled_past : (i : TInitT) (ty : Ty) (at : Cell) (w : World) → filled s n prev i ty at (p w) ≡ pw (filled s n prev i ty at w)
      filled_past (OneI x) ty at w = ap (λ t. one_filled s n ty x at (evaluated s n prev x t)) (spend_past d es 1 w) ∙ one_past ty x at _ _ (evaluated_past x (spend 1 w))
      filled_past (TextI number) ty at w = ap (text_filled s n number (words s ty) at) (spend_past d es 1 w) ∙ text_past number (words s ty) at (spend 1 w)
      filled_past (ListI items) ty at w = ap (all_filled s n prev items ty 0 at) (spend_past d es 1 w) ∙ all_filled_past items ty 0 at (spend 1 w)

      pub all_filled_past : (is : TInitTs) (ty : Ty) (k : ℕ) (at : Cell) (w : World) → all_filled s n prev is ty k at (p w) ≡ pw (all_filled s n prev is ty k at w)
      all_filled_past NoI ty k at w = rest_past ty k at w
      all_filled_past (MoreI i rest) ty k at w = then_went_past went _ (λ v. all_filled_past rest ty (k + 1) (further at (words s (part_type s.layouts ty k))) v) _ _ (filled_past i (part_type s.layouts ty k) at w)

    variable_past : (v : TVarT) (w : World) → variable_filled s n prev v (p w) ≡ pw (variable_filled s n prev v w)
    variable_past v w = asked_past went _ w (object_of v.global v.object w.store) _ _ (λ at. ap (filled s n prev v.init v.ty at) (spend_past d es 1 w) ∙ filled_past v.init v.ty at (spend 1 w))

    pub variables_past : (vs : List TVarT) (w : World) → variables_filled s n prev vs (p w) ≡ pw (variables_filled s n prev vs w)
    variables_past [] w = refl
    variables_past (v ∷ vs) w = then_went_past went _ (variables_past vs) _ _ (variable_past v w)

    -- ---- statements

    left_each : (ks : List ℕ) (r : Done) → left ks (pd r) ≡ pd (left ks r)
    left_each ks (Goes w) = refl
    left_each ks (Breaks w) = refl
    left_each ks (Continues w) = refl
    left_each ks (Returns c w) = refl
    left_each ks (Ended e w) = refl

    pub left_past : (ks : List ℕ) (r' r : Done) → r' ≡ pd r → left ks r' ≡ pd (left ks r)
    left_past ks r' r e = ap (left ks) e ∙ left_each ks r

    body_each : (go : World → Done) → ((w : World) → go (p w) ≡ pd (go w)) → (r : Done) → body_done (pd r) go ≡ pd (body_done r go)
    body_each go h (Goes w) = h w
    body_each go h (Breaks w) = refl
    body_each go h (Continues w) = h w
    body_each go h (Returns c w) = refl
    body_each go h (Ended e w) = refl

    pub body_past : (go : World → Done) → ((w : World) → go (p w) ≡ pd (go w)) → (r' r : Done) → r' ≡ pd r → body_done r' go ≡ pd (body_done r go)
    body_past go h r' r e = ap (λ x. body_done x go) e ∙ body_each go h r

    pub test_past : (test : Option TExprT) (w : World) (go other : World → Done) → ((v : World) → go (p v) ≡ pd (go v)) → ((v : World) → other (p v) ≡ pd (other v)) → test_done s n prev test (p w) go other ≡ pd (test_done s n prev test w go other)
    test_past None w go other g h = g w
    test_past (Some x) w go other g h = tested_past done x go other g h _ _ (evaluated_past x w)

    pub step_done_past : (step : Option TExprT) (w : World) (go : World → Done) → ((v : World) → go (p v) ≡ pd (go v)) → step_done s n prev step (p w) go ≡ pd (step_done s n prev step w go)
    step_done_past None w go h = h w
    step_done_past (Some x) w go h = dropped_past done x go h _ _ (evaluated_past x w)

    pub turn_past : (test step : Option TExprT) (body again : World → Done) → ((v : World) → body (p v) ≡ pd (body v)) → ((v : World) → again (p v) ≡ pd (again v)) → (w : World) → turn s n prev test step body again (p w) ≡ pd (turn s n prev test step body again w)
    turn_past test step body again b a w = test_past test w _ _ (λ v. body_past _ (λ u. step_done_past step u again a) _ _ (b v)) (λ v. refl)

    pub do_turn_past : (x : TExprT) (body again : World → Done) → ((v : World) → body (p v) ≡ pd (body v)) → ((v : World) → again (p v) ≡ pd (again v)) → (w : World) → do_turn s n prev x body again (p w) ≡ pd (do_turn s n prev x body again w)
    do_turn_past x body again b a w = body_past _ (λ v. tested_past done x again _ a (λ u. refl) _ _ (evaluated_past x v)) _ _ (b w)

    switch_each : (r : Done) → switch_done (pd r) ≡ pd (switch_done r)
    switch_each (Goes w) = refl
    switch_each (Breaks w) = refl
    switch_each (Continues w) = refl
    switch_each (Returns c w) = refl
    switch_each (Ended e w) = refl

    pub switch_past : (r' r : Done) → r' ≡ pd r → switch_done r' ≡ pd (switch_done r)
    switch_past r' r e = ap switch_done e ∙ switch_each r

    pub switched_past : (x : TExprT) (go : ℕ → World → Done) → ((z : ℕ) (w : World) → go z (p w) ≡ pd (go z w)) → (r' r : Val) → r' ≡ pv r → switched s n x r' go ≡ pd (switched s n x r go)
    switched_past x go h = with_value_past done x _ (λ c w. asked_past done (span_of x) w (word_of c) _ _ (λ z. h z w))

    returned_as_past : (ty : Ty) (r c : Cell) (w : World) → returned_as s n ty r c (p w) ≡ pd (returned_as s n ty r c w)
    returned_as_past ty r c w = if_past done (is_structure ty) _ _ _ _ (then_went_past done _ (λ v. refl) _ _ (cells_past _ 1 n (words s ty) (Some c) r w)) refl

    pub returned_past : (r : Cell) (x : TExprT) (v' v : Val) → v' ≡ pv v → returned s n r x v' ≡ pd (returned s n r x v)
    returned_past r x = with_value_past done x _ (λ c w. asked_past done (span_of x) w (converted (result_of s w.store.function) c) _ _ (λ z. returned_as_past (result_of s w.store.function) r z w))

    -- what is done once the statement is counted
    counted : (go : World → Done) (w : World) → go (p (spend 1 w)) ≡ pd (go (spend 1 w)) → go (spend 1 (p w)) ≡ pd (go (spend 1 w))
    counted go w h = ap go (spend_past d es 1 w) ∙ h

    mutual
      pub does_past : (r : Cell) (a : TStmtT) (w : World) → does s n prev r a (p w) ≡ pd (does s n prev r a w)
      does_past r (BlockZ made body) w = counted (λ t. left made (does_all s n prev r body (on_store (fresh_all s.sizes made) t))) w (left_past made _ _ (does_all_past r body (on_store (fresh_all s.sizes made) (spend 1 w))))
      does_past r EmptyZ w = counted Goes w refl
      does_past r (VarsZ vars) w = counted (λ t. then_went Ended (variables_filled s n prev vars t) (λ v. Goes v)) w (then_went_past done _ (λ v. refl) _ _ (variables_past vars (spend 1 w)))
      does_past r (DoZ x) w = counted (λ t. dropped Ended s n x (evaluated s n prev x t) (λ v. Goes v)) w (dropped_past done x _ (λ v. refl) _ _ (evaluated_past x (spend 1 w)))
      does_past r (IfZ x a b) w = counted (λ t. tested Ended s n x (evaluated s n prev x t) (does s n prev r a) (does_maybe s n prev r b)) w (tested_past done x _ _ (does_past r a) (does_maybe_past r b) _ _ (evaluated_past x (spend 1 w)))
      does_past r (WhileZ x a) w = counted (turn s n prev (Some x) None (does s n prev r a) (prev (Turn r (Some x) None a))) w (turn_past (Some x) None _ _ (does_past r a) (q (Turn r (Some x) None a)) (spend 1 w))
      does_past r (DoWhileZ a x) w = counted (do_turn s n prev x (does s n prev r a) (prev (DoTurn r a x))) w (do_turn_past x _ _ (does_past r a) (q (DoTurn r a x)) (spend 1 w))
      does_past r (ForZ made first test step a) w =
          counted (λ t. left made (then_done (does_maybe s n prev r first (on_store (fresh_all s.sizes made) t)) (turn s n prev test step (does s n prev r a) (prev (Turn r test step a))))) w
          (left_past made _ _ (then_done_past _ (turn_past test step _ _ (does_past r a) (q (Turn r test step a))) _ _ (does_maybe_past r first (on_store (fresh_all s.sizes made) (spend 1 w)))))
      does_past r (SwitchZ x made arms) w =
          let after : ℕ → World → Done = λ z t. left made (switch_done (does_arms s n prev r (arms_before z arms) arms (on_store (fresh_all s.sizes made) t))) in
          counted (λ t. switched s n x (evaluated s n prev x t) (λ z v. after z (spend (labels arms) v))) w
          (switched_past x _ (λ z v. ap (after z) (spend_past d es (labels arms) v) ∙ left_past made _ _ (switch_past _ _ (does_arms_past r (arms_before z arms) arms (on_store (fresh_all s.sizes made) (spend (labels arms) v))))) _ _ (evaluated_past x (spend 1 w)))
      does_past r (ReturnZ None) w = counted (Returns None) w refl
      does_past r (ReturnZ (Some x)) w = counted (λ t. returned s n r x (evaluated s n prev x t)) w (returned_past r x _ _ (evaluated_past x (spend 1 w)))
      does_past r BreakZ w = counted Breaks w refl
      does_past r ContinueZ w = counted Continues w refl

      pub does_maybe_past : (r : Cell) (a : MaybeZ) (w : World) → does_maybe s n prev r a (p w) ≡ pd (does_maybe s n prev r a w)
      does_maybe_past r NoneZ w = refl
      does_maybe_past r (SomeZ a) w = does_past r a w

      pub does_all_past : (r : Cell) (a : TStmtTs) (w : World) → does_all s n prev r a (p w) ≡ pd (does_all s n prev r a w)
      does_all_past r NoZ w = refl
      does_all_past r (MoreZ a rest) w = then_done_past _ (does_all_past r rest) _ _ (does_past r a w)

      pub does_arm_past : (r : Cell) (a : TArmT) (w : World) → does_arm s n prev r a (p w) ≡ pd (does_arm s n prev r a w)
      does_arm_past r (CaseB label) w = refl
      does_arm_past r DefaultB w = refl
      does_arm_past r (StmtB a) w = does_past r a w

      pub does_arms_past : (r : Cell) (k : ℕ) (a : TArmTs) (w : World) → does_arms s n prev r k a (p w) ≡ pd (does_arms s n prev r k a w)
      does_arms_past r k NoB w = refl
      does_arms_past r zero (MoreB a rest) w = then_done_past _ (does_arms_past r zero rest) _ _ (does_arm_past r a w)
      does_arms_past r (suc k) (MoreB a rest) w = does_arms_past r k rest w

    -- ---- functions

    pub params_past : (k : ℕ) (tys : List Ty) (cs : List Cell) (w : World) → params_stored s n k tys cs (p w) ≡ pw (params_stored s n k tys cs w)
    params_past k [] [] w = refl
    params_past k [] (c ∷ cs) w = refl
    params_past k (ty ∷ tys) [] w = refl
    params_past k (ty ∷ tys) (c ∷ cs) w = asked_past went nowhere w (first_cell (local_object w.store.locals k)) _ _ (λ at. then_went_past went _ (params_past (k + 1) tys cs) _ _ (stored_past 0 ty _ at c w))

    pub body_of_past : (g : Option TFunctionT) (vs : List Cell) (r : Cell) (w : World) → body_of s n prev g vs r (p w) ≡ pd (body_of s n prev g vs r w)
    body_of_past None vs r w = refl
    body_of_past (Some g) vs r w = then_went_past done _ (does_all_past r g.body) _ _ (params_past 0 g.params vs (on_store (fresh_all s.sizes (g.made)) w))

    pub task_past : (t : Task) (w : World) → task_done s n prev t (p w) ≡ pd (task_done s n prev t w)
    task_past (Turn r test step a) w = turn_past test step _ _ (does_past r a) (q (Turn r test step a)) w
    task_past (DoTurn r a x) w = do_turn_past x _ _ (does_past r a) (q (DoTurn r a x)) w
    task_past (Body f vs r) w = body_of_past (slice_get s.functions f) vs r w

  -- ---- the bound

  pub below_past : (s : Setting) (n : ℕ) (t : Task) (w : World) → below s n t (p w) ≡ pd (below s n t w)
  below_past s zero t w = refl
  below_past s (suc n) t w = task_past s n (below s n) (below_past s n) t w

  -- ---- runs

  main_each : (r : Val) → main_done (pv r) ≡ final_past d es (main_done r)
  main_each (Value c w) = refl
  main_each (Place c w) = refl
  main_each (NoValue w) = refl
  main_each (Stops e w) = refl

  pub main_past : (x : ProgramT) (frames : List ℕ) (n : ℕ) (w : World) → main_called x frames n (p w) ≡ final_past d es (main_called x frames n w)
  main_past x frames n w =
      let called : World → Val = call (setting x frames) n (below (setting x frames) n) x.main [] nowhere in
      ap (λ t. main_done (called t)) (spend_past d es 1 w) ∙ ap main_done (call_past (setting x frames) n (below (setting x frames) n) (below_past (setting x frames) n) x.main [] nowhere (spend 1 w)) ∙ main_each (called (spend 1 w))

  inits_each : (go : World → Final) → ((w : World) → go (p w) ≡ final_past d es (go w)) → (r : Done) → inits_done (pd r) go ≡ final_past d es (inits_done r go)
  inits_each go h (Goes w) = h w
  inits_each go h (Breaks w) = refl
  inits_each go h (Continues w) = refl
  inits_each go h (Returns c w) = refl
  inits_each go h (Ended e w) = refl

  pub inits_past : (go : World → Final) → ((w : World) → go (p w) ≡ final_past d es (go w)) → (r' r : Done) → r' ≡ pd r → inits_done r' go ≡ final_past d es (inits_done r go)
  inits_past go h r' r e = ap (λ x. inits_done x go) e ∙ inits_each go h r
