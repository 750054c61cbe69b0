-- Several steps at once: an operand comes without waiting in a frame where it is a number, NULL, a text, a global, a local that was made, or made of
-- such by operators, accesses and casts to a small depth, and nothing refuses.
use Rattle.std.specs.Prelude.{ℕ, zero, suc, ◌+◌, Bool, true, false, not, ◌&&◌, ◌==◌, eqb, ltb, List, [], ◌∷◌, ◌++◌, length, slice_get, Option, Some}
use Rattle.std.specs.Prelude.{None, Result, Ok, Err}
use Rattle.c_tree.specs.declared.span.Span.{Span}
use Rattle.c_tree.specs.declared.operator.UnOp.{UnOp}
use Rattle.c_tree.specs.declared.operator.UnOp.TheVariants as un
use Rattle.c_tree.specs.declared.operator.StepOp.{StepOp}
use Rattle.c_tree.specs.declared.operator.BinOp.{BinOp}
use Rattle.c_tree.specs.declared.operator.BinOp.TheVariants.{AndAlso, OrElse}
use Rattle.c_types.specs.Types.{Ty, VoidY, IntY, BoolY, EnumY, StructY, UnionY, PointerY, ArrayY}
use Rattle.c_types.specs.Typed.{TExprT, Typed, TKindT, NumberK, NullK, LiteralK, GlobalK, LocalK, UnaryK, BinaryK, AssignK, StepK, IndexK, MemberK}
use Rattle.c_types.specs.Typed.{ArrowK, CastK, CallK, OutK, TExprTs, NoX, MoreX, TStmtT, DoZ, IfZ, WhileZ, SwitchZ, ReturnZ, TStmtTs, NoZ, MoreZ}
use Rattle.c_types.specs.Programs.{TFunctionT}
use Rattle.obj_mem.specs.declared.cell.Cell.{Cell}
use Rattle.obj_mem.specs.declared.cell.Cell.TheVariants.{Unwritten, Num, Null, Ptr}
use Rattle.obj_mem.specs.declared.cell.ObjectKind.TheVariants.{Local}
use Rattle.obj_mem.specs.Objects.{made, end_object}
use Rattle.obj_mem.specs.Stores.{Store, local_object, with_objects, has_room}
use Rattle.kit_base.specs.Word.{bool_word}
use Rattle.obj_mem.specs.Queries.{Answer, truth, step as pointer_step}
use Rattle.c_meaning.specs.declared.end.End.{End}
use Rattle.c_meaning.specs.declared.end.End.TheVariants.{OutOfBound}
use Rattle.c_meaning.specs.Kinds.{type_of, span_of}
use Rattle.c_types.specs.Kinds.{decayed}
use Rattle.c_meaning.specs.Operators.{read_as, converted, is_true, word_unary, word_binary, cell_unary, stepped, operated}
use Rattle.c_meaning.specs.Setting.{Setting, words, global_at, literal_at}
use Rattle.c_meaning.specs.Cells.{released}
use Rattle.c_meaning.specs.Expressions.{params_of}
use Rattle.c_evaluate.specs.declared.frame.Outcome.{Outcome}
use Rattle.c_evaluate.specs.declared.frame.Outcome.TheVariants.{Value, Place, Nothing}
use Rattle.c_evaluate.specs.declared.frame.How.{How}
use Rattle.c_evaluate.specs.declared.frame.How.TheVariants.{On}
use Rattle.c_evaluate.specs.inner.Storing.{then_ok, taken, tested_in, placed_in, stepped_in, second_assigned_in}
use Rattle.c_evaluate.specs.inner.Machine.{FocusT, EvalF, DoF, OutcomeF, ExitF, FrameT, FirstW, SecondW, ArgumentW, ValueW, BodyW, Config, Going, Over}
use Rattle.c_evaluate.specs.inner.Steps.{on, outcome, left, either_of, call, argument_in, eval, first_step, second_of, exec, value_step, after_body}
use Rattle.c_evaluate.specs.inner.Steps.{body_step, take_outcome, take_exit, step}

-- ---- what comes at once

abbrev pub local_at_once : Option ℕ → Option Outcome
local_at_once None = None
local_at_once (Some object) = Some (Place (Ptr object 0))

-- on with what is there
abbrev pub with_some : {A B : Type 0} → Option A → (A → Option B) → Option B
with_some None go = None
with_some (Some x) go = go x

abbrev pub answered : {A : Type 0} → Answer A → Option A
answered (Ok x) = Some x
answered (Err why) = None

-- the value at a place; a structure takes an object of its own, so it does not come at once
abbrev pub seen_at : Ty → Cell → Store → Option Cell
seen_at VoidY p u = None
seen_at IntY p u = answered (read_as IntY u.objects p)
seen_at BoolY p u = answered (read_as BoolY u.objects p)
seen_at (EnumY number) p u = answered (read_as (EnumY number) u.objects p)
seen_at (StructY number) p u = None
seen_at (UnionY number) p u = None
seen_at (PointerY to) p u = answered (read_as (PointerY to) u.objects p)
seen_at (ArrayY of len) p u = Some p

unfoldable pub seen : Ty → Outcome → Store → Option Cell
seen ty (Value c) u = Some c
seen ty (Place p) u = seen_at ty p u
seen ty Nothing u = None

abbrev pub place_of : Outcome → Option Cell
place_of (Value c) = None
place_of (Place p) = Some p
place_of Nothing = None

abbrev pub value_at_once : Answer Cell → Option Outcome
value_at_once (Ok z) = Some (Value z)
value_at_once (Err why) = None

abbrev pub place_at_once : Answer Cell → Option Outcome
place_at_once (Ok z) = Some (Place z)
place_at_once (Err why) = None

-- what comes of an operator, where its operands came
unfoldable pub unary_at_once : UnOp → Ty → Outcome → Store → Option Outcome
unary_at_once un.Deref ty v u = with_some (seen ty v u) (λ c. Some (Place c))
unary_at_once un.Address ty v u = with_some (place_of v) (λ p. Some (Value p))
unary_at_once un.Not ty v u = with_some (seen ty v u) (λ c. with_some (answered (is_true u.objects (decayed ty) c)) (λ b. Some (Value (truth (not b)))))
unary_at_once un.Minus ty v u = with_some (seen ty v u) (λ c. value_at_once (cell_unary un.Minus c))
unary_at_once un.Plus ty v u = with_some (seen ty v u) (λ c. value_at_once (cell_unary un.Plus c))
unary_at_once un.Flip ty v u = with_some (seen ty v u) (λ c. value_at_once (cell_unary un.Flip c))

-- `&&` and `||` may leave out their second operand: they take steps
abbrev pub is_strict : BinOp → Bool
is_strict AndAlso = false
is_strict OrElse = false
is_strict op = true

abbrev pub strict_at_once : Bool → Option Outcome → Option Outcome
strict_at_once true o = o
strict_at_once false o = None

unfoldable pub binary_at_once : Setting → BinOp → (left right : Ty) → (c d : Outcome) → Store → Option Outcome
binary_at_once s op ta tb v w u = with_some (seen ta v u) (λ c. with_some (seen tb w u) (λ d. value_at_once (operated s op ta tb u.objects c d)))

unfoldable pub index_at_once : Setting → Ty → (left right : Ty) → (c d : Outcome) → Store → Option Outcome
index_at_once s ty ta tb v w u = with_some (seen ta v u) (λ c. with_some (seen tb w u) (λ d. place_at_once (stepped (words s ty) c d)))

unfoldable pub member_at_once : (offset : ℕ) → Outcome → Option Outcome
member_at_once offset v = with_some (place_of v) (λ p. place_at_once (pointer_step p offset))

unfoldable pub arrow_at_once : Ty → (offset : ℕ) → Outcome → Store → Option Outcome
arrow_at_once ty offset v u = with_some (seen ty v u) (λ c. place_at_once (pointer_step c offset))

unfoldable pub cast_at_once : Ty → Ty → Outcome → Store → Option Outcome
cast_at_once to ty v u = with_some (seen ty v u) (λ c. value_at_once (converted to c))

-- one deeper, where the depth allows it
abbrev pub deeper : ℕ → (ℕ → Option Outcome) → Option Outcome
deeper zero go = None
deeper (suc d) go = go d

unfoldable pub comes : Setting → (depth : ℕ) → TExprT → Store → Option Outcome
comes s n (Typed (NumberK x) ty span) u = Some (Value (Num x))
comes s n (Typed NullK ty span) u = Some (Value Null)
comes s n (Typed (LiteralK number) ty span) u = Some (Place (literal_at s number))
comes s n (Typed (GlobalK number) ty span) u = Some (Place (global_at number))
comes s n (Typed (LocalK number) ty span) u = local_at_once (local_object u.locals number)
comes s n (Typed (UnaryK op x) ty span) u = deeper n (λ d. with_some (comes s d x u) (λ v. unary_at_once op (type_of x) v u))
comes s n (Typed (BinaryK op x y) ty span) u =
    deeper n (λ d. strict_at_once (is_strict op)
    (with_some (comes s d x u) (λ v. with_some (comes s d y u) (λ w. binary_at_once s op (type_of x) (type_of y) v w u))))
comes s n (Typed (IndexK x y) ty span) u =
    deeper n (λ d. with_some (comes s d x u) (λ v. with_some (comes s d y u) (λ w. index_at_once s ty (type_of x) (type_of y) v w u)))
comes s n (Typed (MemberK x offset) ty span) u = deeper n (λ d. with_some (comes s d x u) (λ v. member_at_once offset v))
comes s n (Typed (ArrowK x offset) ty span) u = deeper n (λ d. with_some (comes s d x u) (λ v. arrow_at_once (type_of x) offset v u))
comes s n (Typed (CastK x) ty span) u = deeper n (λ d. with_some (comes s d x u) (λ v. cast_at_once ty (type_of x) v u))
comes s n (Typed kind ty span) u = None

-- how deep operators may nest in what comes at once
abbrev pub depth_at_once : ℕ
depth_at_once = 6

unfoldable pub at_once : Setting → TExprT → Store → Option Outcome
at_once s x u = comes s depth_at_once x u

abbrev pub handed : Option Outcome → (waits : Config) → (go : Outcome → Config) → Config
handed None waits go = waits
handed (Some v) waits go = go v

-- ---- calls of functions of words that return an expression of their parameters

-- whether the values of a type are words
abbrev pub is_word : Ty → Bool
is_word VoidY = false
is_word IntY = true
is_word BoolY = true
is_word (EnumY number) = true
is_word (StructY number) = false
is_word (UnionY number) = false
is_word (PointerY to) = false
is_word (ArrayY of len) = false

abbrev pub when : {A : Type 0} → Bool → Option A → Option A
when true o = o
when false o = None

abbrev pub word_held : Option Cell → Option ℕ
word_held None = None
word_held (Some Unwritten) = None
word_held (Some (Num x)) = Some x
word_held (Some (Ptr o i)) = None
word_held (Some Null) = None

-- a word as it is stored at a type of words
abbrev pub word_at : Ty → ℕ → ℕ
word_at BoolY x = bool_word (not (x == 0))
word_at ty x = x

-- one deeper, as above
abbrev pub lower : ℕ → (ℕ → Option ℕ) → Option ℕ
lower zero go = None
lower (suc d) go = go d

unfoldable pub unary_worth : UnOp → ℕ → Option ℕ
unary_worth op a = answered (word_unary op a)

unfoldable pub binary_worth : BinOp → (a b : ℕ) → Option ℕ
binary_worth op a b = answered (word_binary op a b)

-- the value of an expression of words, where the parameters have these arguments; no object is looked at
unfoldable pub worth : (depth : ℕ) → (args : List Cell) → TExprT → Option ℕ
worth n vs (Typed (NumberK x) ty span) = Some x
worth n vs (Typed (LocalK number) ty span) = when (is_word ty) (word_held (slice_get vs number))
worth n vs (Typed (UnaryK op x) ty span) = lower n (λ d. with_some (worth d vs x) (λ a. unary_worth op a))
worth n vs (Typed (BinaryK op x y) ty span) =
    lower n (λ d. when (is_strict op) (when (is_word (type_of x)) (with_some (worth d vs x) (λ a. with_some (worth d vs y) (λ b. binary_worth op a b)))))
worth n vs (Typed (CastK x) ty span) = lower n (λ d. with_some (worth d vs x) (λ a. Some (word_at ty a)))
worth n vs (Typed kind ty span) = None

-- The parameters are words, as many as the arguments. Each is an object of one word, numbered from a number on, and no other is made.
abbrev pub are_words : (first : ℕ) → (params : List Ty) → (made sizes : List ℕ) → (args : List Cell) → Bool
are_words k [] [] sizes [] = true
are_words k (ty ∷ tys) (j ∷ js) (w ∷ ws) (c ∷ cs) = is_word ty && (eqb k j && (eqb w 1 && are_words (k + 1) tys js ws cs))
are_words k tys js ws cs = false

-- what a function returns first of all
abbrev pub returned_of : TStmtT → Option TExprT
returned_of (ReturnZ (Some x)) = Some x
returned_of a = None

abbrev pub returned_by : TStmtTs → Option TExprT
returned_by NoZ = None
returned_by (MoreZ a rest) = returned_of a

unfoldable pub quick_of : (sizes : List ℕ) → TFunctionT → (args : List Cell) → Option ℕ
quick_of sizes g vs =
    with_some (returned_by g.body) (λ x. when (is_word g.gives)
    (when (are_words 0 g.params g.made sizes vs) (with_some (worth 6 vs x) (λ a. Some (word_at g.gives a)))))

-- the value of a call, where there is bound and room for it
unfoldable pub quick : Setting → (bound function : ℕ) → (args : List Cell) → Store → Option ℕ
quick s n f vs u = when (ltb 0 n) (when (has_room s.sizes f u) (with_some (slice_get s.functions f) (λ g. quick_of (s.sizes.locals f) g vs)))

-- an object for each argument is made and ends
abbrev pub passed : (args : List Cell) → Store → Store
passed [] u = u
passed (c ∷ cs) u = passed cs (with_objects (end_object (made u.objects Local []) (length u.objects)) u)

abbrev pub word_or : Option ℕ → Config → (ℕ → Config) → Config
word_or None c go = c
word_or (Some z) c go = go z

abbrev pub call_on : Setting → (bound function : ℕ) → (args : List Cell) → Span → List FrameT → Store → Config
call_on s n f vs span k u = word_or (quick s n f vs u) (call s n f vs span k u) (λ z. outcome (Value (Num z)) k (passed vs u))

-- ---- arguments

-- one more argument is there
abbrev pub took : Setting → (bound function : ℕ) → TExprT → Outcome → (args : List Cell) → Store → Result (List Cell × Store) End
took s n f x v vs u = then_ok (taken s n x v u) (λ t. then_ok (argument_in (slice_get (params_of (slice_get s.functions f)) (length vs)) x t.0)
    (λ z. Ok (vs ++ z ∷ [], t.1)))

-- those that come at once are taken one after another
abbrev pub args_on : Setting → (bound function : ℕ) → Span → (args : List Cell) → TExprTs → List FrameT → Store → Config
args_on s n f span vs NoX k u = call_on s n f vs span k u
args_on s n f span vs (MoreX x xs) k u =
    handed (at_once s x u) (Going (EvalF n x) (ArgumentW n f span vs (MoreX x xs) ∷ k) u)
    (λ v. on (took s n f x v vs u) (λ t. args_on s n f span t.0 xs k t.1))

abbrev pub argument_on : Setting → (bound function : ℕ) → Span → (args : List Cell) → TExprTs → Outcome → List FrameT → Store → Config
argument_on s n f span vs NoX v k u = outcome v k u
argument_on s n f span vs (MoreX x xs) v k u = on (took s n f x v vs u) (λ t. args_on s n f span t.0 xs k t.1)

-- ---- operands

-- the second operand of a node, whose first came to a cell
abbrev pub second_on : Setting → (bound : ℕ) → (node y : TExprT) → (first : Cell) → List FrameT → Store → Config
second_on s n e y c k u = handed (at_once s y u) (Going (EvalF n y) (SecondW n e c ∷ k) u) (λ v. second_of s n e c v k u)

abbrev pub binary_on : Setting → (bound : ℕ) → BinOp → (node x y : TExprT) → Outcome → List FrameT → Store → Config
binary_on s n AndAlso e x y v k u = on (tested_in s n x v u) (λ t. either_of t.0 (second_on s n e y Unwritten k t.1) (outcome (Value (truth false)) k t.1))
binary_on s n OrElse e x y v k u = on (tested_in s n x v u) (λ t. either_of t.0 (outcome (Value (truth true)) k t.1) (second_on s n e y Unwritten k t.1))
binary_on s n op e x y v k u = on (taken s n x v u) (λ t. second_on s n e y t.0 k t.1)

-- what came of a first operand
unfoldable pub first_on : Setting → (bound : ℕ) → TKindT → Ty → Span → Outcome → List FrameT → Store → Config
first_on s n (BinaryK op x y) ty span v k u = binary_on s n op (Typed (BinaryK op x y) ty span) x y v k u
first_on s n (AssignK op x y) ty span v k u = on (placed_in span v) (λ p. second_on s n (Typed (AssignK op x y) ty span) y p k u)
first_on s n (IndexK x y) ty span v k u = on (taken s n x v u) (λ t. second_on s n (Typed (IndexK x y) ty span) y t.0 k t.1)
first_on s n kind ty span v k u = first_step s n kind ty span v k u

abbrev pub first_of_on : Setting → (bound : ℕ) → TExprT → Outcome → List FrameT → Store → Config
first_of_on s n (Typed kind ty span) v k u = first_on s n kind ty span v k u

-- the first operand of a node
abbrev pub operand_on : Setting → (bound : ℕ) → (node x : TExprT) → List FrameT → Store → Config
operand_on s n e x k u = handed (at_once s x u) (Going (EvalF n x) (FirstW n e ∷ k) u) (λ v. first_of_on s n e v k u)

-- an expression begun
unfoldable pub eval_on : Setting → (bound : ℕ) → TKindT → Ty → Span → List FrameT → Store → Config
eval_on s n (UnaryK op x) ty span k u = operand_on s n (Typed (UnaryK op x) ty span) x k u
eval_on s n (BinaryK op x y) ty span k u = operand_on s n (Typed (BinaryK op x y) ty span) x k u
eval_on s n (AssignK op x y) ty span k u = operand_on s n (Typed (AssignK op x y) ty span) x k u
eval_on s n (StepK op x) ty span k u = operand_on s n (Typed (StepK op x) ty span) x k u
eval_on s n (IndexK x y) ty span k u = operand_on s n (Typed (IndexK x y) ty span) x k u
eval_on s n (MemberK x offset) ty span k u = operand_on s n (Typed (MemberK x offset) ty span) x k u
eval_on s n (ArrowK x offset) ty span k u = operand_on s n (Typed (ArrowK x offset) ty span) x k u
eval_on s n (CastK x) ty span k u = operand_on s n (Typed (CastK x) ty span) x k u
eval_on s n (OutK port x) ty span k u = operand_on s n (Typed (OutK port x) ty span) x k u
eval_on s n (CallK f xs) ty span k u = args_on s n f span [] xs k u
eval_on s n kind ty span k u = eval s n kind ty span k u

abbrev pub eval_of_on : Setting → (bound : ℕ) → TExprT → List FrameT → Store → Config
eval_of_on s n (Typed kind ty span) k u = eval_on s n kind ty span k u

-- ---- statements

-- the value that a statement asks for
abbrev pub asks_on : Setting → (bound : ℕ) → (result : Cell) → TStmtT → TExprT → List FrameT → Store → Config
asks_on s n r a x k u = handed (at_once s x u) (Going (EvalF n x) (ValueW n r a ∷ k) u) (λ v. value_step s n r a v k u)

-- an assignment whose place and value came at once is done, and its value dropped
abbrev pub assigned_on : Setting → (bound : ℕ) → (node : TExprT) → Option BinOp → (x y : TExprT) → (place value : Outcome) → List FrameT → Store → Config
assigned_on s n e op x y v w k u =
    on (placed_in (span_of e) v) (λ p. on (taken s n y w u)
    (λ t. on (second_assigned_in s n op x y (span_of e) p t.0 t.1) (λ z. left On k (released (type_of e) z.0 z.1))))

-- an assignment whose place and value may come at once
abbrev pub assigns_on : Setting → (bound : ℕ) → (result : Cell) → TStmtT → (node : TExprT) → Option BinOp → (x y : TExprT) → List FrameT → Store → Config
assigns_on s n r a e op x y k u =
    handed (at_once s x u) (Going (EvalF n e) (ValueW n r a ∷ k) u) (λ v.
    handed (at_once s y u) (on (placed_in (span_of e) v) (λ p. Going (EvalF n y) (SecondW n e p ∷ (ValueW n r a ∷ k)) u))
    (λ w. assigned_on s n e op x y v w k u))

abbrev pub steps_on : Setting → (bound : ℕ) → (result : Cell) → TStmtT → (node : TExprT) → StepOp → (x : TExprT) → List FrameT → Store → Config
steps_on s n r a e op x k u =
    handed (at_once s x u) (Going (EvalF n e) (ValueW n r a ∷ k) u) (λ v.
    on (placed_in (span_of e) v) (λ p. on (stepped_in s n op x (span_of e) p u) (λ z. left On k (released (type_of e) z.0 z.1))))

unfoldable pub does_on : Setting → (bound : ℕ) → (result : Cell) → TStmtT → TExprT → List FrameT → Store → Config
does_on s n r a (Typed (AssignK op x y) ty span) k u = assigns_on s n r a (Typed (AssignK op x y) ty span) op x y k u
does_on s n r a (Typed (StepK op x) ty span) k u = steps_on s n r a (Typed (StepK op x) ty span) op x k u
does_on s n r a e k u = Going (EvalF n e) (ValueW n r a ∷ k) u

unfoldable pub exec_on : Setting → (bound : ℕ) → (result : Cell) → TStmtT → List FrameT → Store → Config
exec_on s n r (DoZ e) k u = does_on s n r (DoZ e) e k u
exec_on s n r (IfZ x a b) k u = asks_on s n r (IfZ x a b) x k u
exec_on s n r (WhileZ x a) k u = asks_on s n r (WhileZ x a) x k u
exec_on s n r (SwitchZ x made arms) k u = asks_on s n r (SwitchZ x made arms) x k u
exec_on s n r (ReturnZ (Some x)) k u = asks_on s n r (ReturnZ (Some x)) x k u
exec_on s n r a k u = exec s n r a k u

-- ---- a step, and what comes at once behind it

unfoldable pub take_outcome_on : Setting → FrameT → Outcome → List FrameT → Store → Config
take_outcome_on s (FirstW n e) v k u = first_of_on s n e v k u
take_outcome_on s (ArgumentW n f span vs xs) v k u = argument_on s n f span vs xs v k u
take_outcome_on s f v k u = take_outcome s f v k u

-- a further turn of a `while`
abbrev pub again_on : Setting → (bound : ℕ) → (result : Cell) → (loop : TStmtT) → TExprT → List FrameT → Store → Config
again_on s zero r a x k u = Over OutOfBound
again_on s (suc m) r a x k u = asks_on s m r a x k u

-- the body of a loop was left
unfoldable pub body_on : Setting → (bound : ℕ) → (result : Cell) → TStmtT → How → List FrameT → Store → Config
body_on s n r (WhileZ x a) h k u = after_body h k u (again_on s n r (WhileZ x a) x k u)
body_on s n r a h k u = body_step n r a h k u

unfoldable pub take_exit_on : Setting → FrameT → How → List FrameT → Store → Config
take_exit_on s (BodyW n r a) h k u = body_on s n r a h k u
take_exit_on s f h k u = take_exit s f h k u

unfoldable pub step_on : Setting → FocusT → List FrameT → Store → Config
step_on s (EvalF n e) k u = eval_of_on s n e k u
step_on s (DoF n r a) k u = exec_on s n r a k u
step_on s (OutcomeF v) (f ∷ k) u = take_outcome_on s f v k u
step_on s (ExitF h) (f ∷ k) u = take_exit_on s f h k u
step_on s f k u = step s f k u

abbrev pub stepped_on : Setting → Config → Config
stepped_on s (Going f k u) = step_on s f k u
stepped_on s (Over end) = Over end
