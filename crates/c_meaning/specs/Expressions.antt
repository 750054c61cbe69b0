-- What expressions come to (the C language guide, section on expressions). Operands, arguments, and a base before its index, are evaluated
-- from left to right.
use Rattle.std.specs.Prelude.{ℕ, zero, suc, Bool, true, false, List, [], ◌∷◌, slice_get, Option, Some, None, if◌then◌else◌}
use Rattle.kit_base.specs.declared.event.Event.TheVariants as event
use Rattle.c_tree.specs.declared.span.Span.{Span}
use Rattle.c_tree.specs.declared.operator.UnOp.{UnOp}
use Rattle.c_tree.specs.declared.operator.UnOp.TheVariants as un
use Rattle.c_tree.specs.declared.operator.StepOp.{StepOp}
use Rattle.c_tree.specs.declared.operator.StepOp.TheVariants.{PreUp, PreDown, PostUp, PostDown}
use Rattle.c_tree.specs.declared.operator.BinOp.{BinOp}
use Rattle.c_tree.specs.declared.operator.BinOp.TheVariants.{Add, Sub, AndAlso, OrElse}
use Rattle.c_types.specs.Types.{Ty, IntY}
use Rattle.c_types.specs.Typed.{TExprT, Typed, TKindT, NumberK, NullK, LiteralK, GlobalK, LocalK, UnaryK, BinaryK, AssignK, StepK, IndexK, MemberK}
use Rattle.c_types.specs.Typed.{ArrowK, CastK, CallK, InK, OutK, WaitK, HaltK, CardK, TExprTs, NoX, MoreX}
use Rattle.c_types.specs.Programs.{TFunctionT}
use Rattle.obj_mem.specs.declared.cell.Cell.{Cell}
use Rattle.obj_mem.specs.declared.cell.Cell.TheVariants.{Unwritten, Num, Null}
use Rattle.obj_mem.specs.Stores.{Store, local_object, with_temporary, next_object, has_room, entered, returned_to}
use Rattle.obj_mem.specs.Worlds.{World, on_store, spend, happened, answered}
use Rattle.obj_mem.specs.Queries.{word_of, truth, step, further, first_cell}
use Rattle.c_meaning.specs.declared.end.End.{End}
use Rattle.c_meaning.specs.declared.end.End.TheVariants.{Halted, Starved, Stray, Deep, OutOfBound}
use Rattle.c_meaning.specs.Outcomes.{Val, Value, Place, NoValue, Stops, Vals, Values, Short, Done, Goes, Breaks, Continues, Returns, Ended, Before}
use Rattle.c_meaning.specs.Outcomes.{Body, asked, then_value, then_place, then_went, then_values, in_front, either_way}
use Rattle.c_meaning.specs.Kinds.{type_of, span_of}
use Rattle.c_types.specs.Kinds.{is_structure, decayed}
use Rattle.c_meaning.specs.Setting.{Setting, words, global_at, literal_at, card_at}
use Rattle.c_meaning.specs.Operators.{read_as, converted, is_true, cell_unary, stepped, operated}
use Rattle.c_meaning.specs.Cells.{end_temporary, released, fetched, stored, member_of_value}

-- ---- using what an expression came to

-- The value of what an expression came to: of a place, what is read there.
abbrev pub value_of : Setting → (bound : ℕ) → TExprT → Val → Val
value_of s n x (Value c w) = Value c w
value_of s n x (Place p w) = fetched s n (type_of x) (span_of x) p w
value_of s n x (NoValue w) = NoValue w
value_of s n x (Stops end w) = Stops end w

abbrev pub with_value : {R : Type 0} → (End → World → R) → Setting → (bound : ℕ) → TExprT → Val → (Cell → World → R) → R
with_value stop s n x v go = then_value stop (span_of x) (value_of s n x v) go

-- a condition
abbrev pub tested : {R : Type 0} → (End → World → R) → Setting → (bound : ℕ) → TExprT → Val → (go other : World → R) → R
tested stop s n x v go other =
    with_value stop s n x v (λ c w.
    asked stop (span_of x) w (is_true w.store.objects (decayed (type_of x)) c) (λ b. either_way b w go other))

-- the value is dropped; a call may have returned none
abbrev pub dropped_value : {R : Type 0} → (End → World → R) → TExprT → Val → (World → R) → R
dropped_value stop x (Value c w) go = go (on_store (released (type_of x) c) w)
dropped_value stop x (Place p w) go = stop (Stray (span_of x)) w
dropped_value stop x (NoValue w) go = go w
dropped_value stop x (Stops end w) go = stop end w

abbrev pub dropped : {R : Type 0} → (End → World → R) → Setting → (bound : ℕ) → TExprT → Val → (World → R) → R
dropped stop s n x v go = dropped_value stop x (value_of s n x v) go

-- ---- operators

abbrev pub truth_of : Setting → (bound : ℕ) → TExprT → Val → Val
truth_of s n x v = tested Stops s n x v (λ w. Value (truth true) w) (λ w. Value (truth false) w)

abbrev pub unary : Setting → (bound : ℕ) → UnOp → TExprT → Span → Val → Val
unary s n un.Deref x span v = with_value Stops s n x v (λ p w. Place p w)
unary s n un.Address x span v = then_place span v (λ p w. Value p w)
unary s n un.Not x span v = tested Stops s n x v (λ w. Value (truth false) w) (λ w. Value (truth true) w)
unary s n un.Minus x span v = with_value Stops s n x v (λ c w. asked Stops span w (cell_unary un.Minus c) (λ z. Value z w))
unary s n un.Plus x span v = with_value Stops s n x v (λ c w. asked Stops span w (cell_unary un.Plus c) (λ z. Value z w))
unary s n un.Flip x span v = with_value Stops s n x v (λ c w. asked Stops span w (cell_unary un.Flip c) (λ z. Value z w))

-- the second operand of an operator on values, behind the value of the first
abbrev pub second_operated : Setting → (bound : ℕ) → BinOp → (x y : TExprT) → Span → (first : Cell) → Val → Val
second_operated s n op x y span c v =
    with_value Stops s n y v (λ d w.
    asked Stops span w (operated s op (type_of x) (type_of y) w.store.objects c d) (λ z. Value z w))

abbrev pub both_operated : Setting → (bound : ℕ) → BinOp → (x y : TExprT) → Span → Val → (World → Val) → Val
both_operated s n op x y span v second = with_value Stops s n x v (λ c w. second_operated s n op x y span c (second w))

-- `&&` and `||` skip the second operand where the first decides.
abbrev pub binary : Setting → (bound : ℕ) → BinOp → (x y : TExprT) → Span → Val → (World → Val) → Val
binary s n AndAlso x y span v second = tested Stops s n x v (λ w. truth_of s n y (second w)) (λ w. Value (truth false) w)
binary s n OrElse x y span v second = tested Stops s n x v (λ w. Value (truth true) w) (λ w. truth_of s n y (second w))
binary s n op x y span v second = both_operated s n op x y span v second

-- ---- assignments and steps

-- The value is converted to the type of the place and stored there; it is the expression's value.
abbrev pub assigned : Setting → (bound : ℕ) → TExprT → Span → (place value : Cell) → World → Val
assigned s n x span p c w =
    asked Stops span w (converted (type_of x) c) (λ z.
    then_went Stops (stored s n 0 (type_of x) (span_of x) p z w) (λ u. Value z u))

-- the value of an assignment, behind the place; a compound one reads the old cell after the value
abbrev pub second_assigned : Setting → (bound : ℕ) → Option BinOp → (x y : TExprT) → Span → (place : Cell) → Val → Val
second_assigned s n None x y span p v = with_value Stops s n y v (λ c w. assigned s n x span p c w)
second_assigned s n (Some op) x y span p v =
    with_value Stops s n y v (λ c w.
    asked Stops (span_of x) w (read_as (type_of x) w.store.objects p) (λ old.
    asked Stops span w (operated s op (type_of x) (type_of y) w.store.objects old c) (λ z. assigned s n x span p z w)))

-- The place comes before the value.
abbrev pub assign : Setting → (bound : ℕ) → Option BinOp → (x y : TExprT) → Span → Val → (World → Val) → Val
assign s n op x y span v second = then_place span v (λ p w. second_assigned s n op x y span p (second w))

abbrev pub step_operator : StepOp → BinOp
step_operator PreUp = Add
step_operator PostUp = Add
step_operator PreDown = Sub
step_operator PostDown = Sub

abbrev pub gives_old : StepOp → Bool
gives_old PreUp = false
gives_old PreDown = false
gives_old PostUp = true
gives_old PostDown = true

-- a prefix step gives the new cell, a postfix step the old one
abbrev pub old_or_new : Bool → (old : Cell) → Val → Val
old_or_new true old (Value c w) = Value old w
old_or_new _ old v = v

abbrev pub step_taken : Setting → (bound : ℕ) → StepOp → TExprT → Span → Val → Val
step_taken s n op x span v =
    then_place span v (λ p w.
    asked Stops (span_of x) w (read_as (type_of x) w.store.objects p) (λ old.
    asked Stops span w (operated s (step_operator op) (type_of x) IntY w.store.objects old (Num 1)) (λ z.
    old_or_new (gives_old op) old (assigned s n x span p z w))))

-- ---- elements and members

-- the index, behind the value of the base; the element has that type
abbrev pub second_indexed : Setting → (bound : ℕ) → Ty → (y : TExprT) → Span → (base : Cell) → Val → Val
second_indexed s n ty y span p v = with_value Stops s n y v (λ c w. asked Stops span w (stepped (words s ty) p c) (λ q. Place q w))

abbrev pub index : Setting → (bound : ℕ) → Ty → (x y : TExprT) → Span → Val → (World → Val) → Val
index s n ty x y span v second = with_value Stops s n x v (λ p w. second_indexed s n ty y span p (second w))

abbrev pub member_at : Ty → TExprT → Span → (offset : ℕ) → Val → Val
member_at ty x span offset (Place p w) = asked Stops span w (step p offset) (λ q. Place q w)
member_at ty x span offset (Value p w) = member_of_value ty span (further p offset) w
member_at ty x span offset (NoValue w) = Stops (Stray (span_of x)) w
member_at ty x span offset (Stops end w) = Stops end w

abbrev pub arrow : Setting → (bound : ℕ) → TExprT → Span → (offset : ℕ) → Val → Val
arrow s n x span offset v = with_value Stops s n x v (λ p w. asked Stops span w (step p offset) (λ q. Place q w))

-- ---- calls

-- one less of the bound is asked for
abbrev pub if_bound : (bound : ℕ) → World → (World → Val) → Val
if_bound zero w go = Stops OutOfBound w
if_bound (suc n) w go = go w

abbrev pub if_room : Bool → Span → World → (World → Val) → Val
if_room true span w go = go w
if_room false span w go = Stops (Deep span) w

-- The structure that a call returns stands in an object of the caller, made before the call.
abbrev pub result_place : Ty → Store → Cell
result_place ty u = if is_structure ty then next_object u else Unwritten

abbrev pub with_result : Setting → Ty → Store → Store
with_result s ty u = if is_structure ty then with_temporary (words s ty) u else u

-- the structures that were passed
abbrev pub all_released : List Ty → List Cell → Store → Store
all_released (ty ∷ tys) (c ∷ cs) u = all_released tys cs (released ty c u)
all_released _ _ u = u

-- back in the caller with a value; and with none, where a structure that was to be returned ends
abbrev pub back_with : (params : List Ty) → (args : List Cell) → (caller callee : Store) → Store
back_with params vs u v = all_released params vs (returned_to u v)

abbrev pub back_without : (params : List Ty) → (args : List Cell) → (result : Cell) → (caller callee : Store) → Store
back_without params vs r u v = all_released params vs (end_temporary r (returned_to u v))

-- A function that leaves by its end or by `return;` has returned no value.
abbrev pub call_done : (params : List Ty) → (args : List Cell) → (result : Cell) → Span → (caller : Store) → Done → Val
call_done params vs r span u (Goes w) = NoValue (on_store (back_without params vs r u) w)
call_done params vs r span u (Breaks w) = Stops (Stray span) w
call_done params vs r span u (Continues w) = Stops (Stray span) w
call_done params vs r span u (Returns None w) = NoValue (on_store (back_without params vs r u) w)
call_done params vs r span u (Returns (Some c) w) = Value c (on_store (back_with params vs u) w)
call_done params vs r span u (Ended end w) = Stops end w

-- The bound is asked after the arguments, and then whether there is room for the frame.
abbrev pub enter : Setting → (bound : ℕ) → Before → (function : ℕ) → TFunctionT → (args : List Cell) → (result : Cell) → Span → World → Val
enter s n prev f g vs r span w =
    if_bound n w (λ u.
    if_room (has_room s.sizes f u.store) span u (λ v.
    call_done g.params vs r span v.store (prev (Body f vs r) (on_store (entered s.sizes f) v))))

abbrev pub call_of : Setting → (bound : ℕ) → Before → (function : ℕ) → Option TFunctionT → (args : List Cell) → Span → World → Val
call_of s n prev f None vs span w = Stops (Stray span) w
call_of s n prev f (Some g) vs span w = enter s n prev f g vs (result_place g.gives w.store) span (on_store (with_result s g.gives) w)

abbrev pub call : Setting → (bound : ℕ) → Before → (function : ℕ) → (args : List Cell) → Span → World → Val
call s n prev f vs span w = call_of s n prev f (slice_get s.functions f) vs span w

abbrev pub params_of : Option TFunctionT → List Ty
params_of None = []
params_of (Some g) = g.params

-- an argument is converted to the type of its parameter
abbrev pub next_argument : Setting → (bound : ℕ) → List Ty → TExprT → Val → (List Ty → World → Vals) → Vals
next_argument s n [] x v go = with_value Short s n x v (λ c w. Short (Stray (span_of x)) w)
next_argument s n (ty ∷ tys) x v go =
    with_value Short s n x v (λ c w. asked Short (span_of x) w (converted ty c) (λ z. in_front z (go tys w)))

-- ---- ports

-- the first answer left is taken
abbrev pub input : (port : ℕ) → List ℕ → World → Val
input port [] w = Stops Starved w
input port (x ∷ rest) w = Value (Num x) (answered port x rest w)

abbrev pub output : Setting → (bound : ℕ) → (port : ℕ) → TExprT → Val → Val
output s n port x v =
    with_value Stops s n x v (λ c w.
    asked Stops (span_of x) w (word_of c) (λ z. NoValue (happened (event.Out port z) w)))

-- ---- expressions

abbrev mutual
  pub evaluated : Setting → (bound : ℕ) → Before → TExprT → World → Val
  evaluated s n prev (Typed kind ty span) w = evaluated_kind s n prev kind ty span (spend 1 w)

  pub evaluated_kind : Setting → (bound : ℕ) → Before → TKindT → Ty → Span → World → Val
  evaluated_kind s n prev (NumberK x) ty span w = Value (Num x) w
  evaluated_kind s n prev NullK ty span w = Value Null w
  evaluated_kind s n prev (LiteralK number) ty span w = Place (literal_at s number) w
  evaluated_kind s n prev (GlobalK number) ty span w = Place (global_at number) w
  evaluated_kind s n prev (LocalK number) ty span w = asked Stops span w (first_cell (local_object w.store.locals number)) (λ p. Place p w)
  evaluated_kind s n prev (UnaryK op x) ty span w = unary s n op x span (evaluated s n prev x w)
  evaluated_kind s n prev (BinaryK op x y) ty span w = binary s n op x y span (evaluated s n prev x w) (evaluated s n prev y)
  evaluated_kind s n prev (AssignK op x y) ty span w = assign s n op x y span (evaluated s n prev x w) (evaluated s n prev y)
  evaluated_kind s n prev (StepK op x) ty span w = step_taken s n op x span (evaluated s n prev x w)
  evaluated_kind s n prev (IndexK x y) ty span w = index s n ty x y span (evaluated s n prev x w) (evaluated s n prev y)
  evaluated_kind s n prev (MemberK x offset) ty span w = member_at ty x span offset (evaluated s n prev x w)
  evaluated_kind s n prev (ArrowK x offset) ty span w = arrow s n x span offset (evaluated s n prev x w)
  evaluated_kind s n prev (CastK x) ty span w = with_value Stops s n x (evaluated s n prev x w) (λ c v. asked Stops span v (converted ty c) (λ z. Value z v))
  evaluated_kind s n prev (CallK f xs) ty span w =
      then_values (evaluated_all s n prev (params_of (slice_get s.functions f)) xs w) (λ vs v. call s n prev f vs span v)
  evaluated_kind s n prev (InK port) ty span w = input port w.store.answers w
  evaluated_kind s n prev (OutK port x) ty span w = output s n port x (evaluated s n prev x w)
  evaluated_kind s n prev WaitK ty span w = NoValue (happened event.Wait w)
  evaluated_kind s n prev HaltK ty span w = Stops Halted w
  evaluated_kind s n prev CardK ty span w = Value (card_at s) w

  -- arguments, for parameters of these types
  pub evaluated_all : Setting → (bound : ℕ) → Before → List Ty → TExprTs → World → Vals
  evaluated_all s n prev tys NoX w = Values [] w
  evaluated_all s n prev tys (MoreX x xs) w = next_argument s n tys x (evaluated s n prev x w) (λ rest v. evaluated_all s n prev rest xs v)
