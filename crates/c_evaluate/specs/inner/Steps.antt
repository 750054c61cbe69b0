-- The steps of the machine.
use Rattle.std.specs.Prelude.{ℕ, zero, suc, ◌+◌, Bool, true, false, not, List, [], ◌∷◌, ◌++◌, length, slice_get, Option, Some, None, Result, Ok, Err}
use Rattle.kit_base.specs.declared.event.Event.TheVariants as event
use Rattle.c_tree.specs.declared.span.Span.{Span}
use Rattle.c_tree.specs.declared.operator.UnOp.{UnOp}
use Rattle.c_tree.specs.declared.operator.UnOp.TheVariants as un
use Rattle.c_tree.specs.declared.operator.BinOp.{BinOp}
use Rattle.c_tree.specs.declared.operator.BinOp.TheVariants.{AndAlso, OrElse}
use Rattle.c_types.specs.Types.{Ty}
use Rattle.c_types.specs.Typed.{TExprT, Typed, TKindT, NumberK, NullK, LiteralK, GlobalK, LocalK, UnaryK, BinaryK, AssignK, StepK, IndexK, MemberK}
use Rattle.c_types.specs.Typed.{ArrowK, CastK, CallK, InK, OutK, WaitK, HaltK, CardK, TExprTs, NoX, MoreX, TInitT, OneI, TextI, ListI, TInitTs, NoI}
use Rattle.c_types.specs.Typed.{MoreI, TVarT, TStmtT, BlockZ, EmptyZ, VarsZ, DoZ, IfZ, WhileZ, DoWhileZ, ForZ, SwitchZ, ReturnZ, BreakZ, ContinueZ}
use Rattle.c_types.specs.Typed.{MaybeZ, NoneZ, SomeZ, TStmtTs, NoZ, MoreZ, TArmTs, NoB, MoreB, CaseB, DefaultB, StmtB}
use Rattle.c_types.specs.Programs.{TFunctionT}
use Rattle.obj_mem.specs.declared.cell.Cell.{Cell}
use Rattle.obj_mem.specs.declared.cell.Cell.TheVariants.{Unwritten, Num, Null}
use Rattle.obj_mem.specs.Stores.{Store, local_object, with_answers, fresh_all, end_all, has_room, entered}
use Rattle.obj_mem.specs.Queries.{word_of, truth, step as pointer_step, further, first_cell}
use Rattle.c_meaning.specs.declared.end.End.{End}
use Rattle.c_meaning.specs.declared.end.End.TheVariants.{Halted, Starved, Stray, Deep, OutOfBound}
use Rattle.c_meaning.specs.Outcomes.{nowhere}
use Rattle.c_meaning.specs.Kinds.{span_of}
use Rattle.c_types.specs.Parts.{part_type}
use Rattle.c_meaning.specs.Setting.{Setting, words, global_at, literal_at, card_at, result_of}
use Rattle.c_meaning.specs.Operators.{converted, cell_unary, stepped}
use Rattle.c_meaning.specs.Cells.{end_temporary}
use Rattle.c_meaning.specs.Expressions.{result_place, with_result, params_of, all_released}
use Rattle.c_meaning.specs.Initialisers.{object_of}
use Rattle.c_meaning.specs.Statements.{arms_before}
use Rattle.c_evaluate.specs.declared.frame.Outcome.{Outcome}
use Rattle.c_evaluate.specs.declared.frame.Outcome.TheVariants.{Value, Place, Nothing}
use Rattle.c_evaluate.specs.declared.frame.How.{How}
use Rattle.c_evaluate.specs.declared.frame.How.TheVariants.{On, Break, Continue, Return}
use Rattle.c_evaluate.specs.inner.Storing.{Kept, With, at_span, taken, tested_in, dropped_in, placed_in, operated_in, stepped_in, second_assigned_in}
use Rattle.c_evaluate.specs.inner.Storing.{member_in, one_in, text_in, rest_in, params_in, returned_in}
use Rattle.c_evaluate.specs.inner.Machine.{FocusT, EvalF, FillF, DoF, OutcomeF, MadeF, ExitF, FullF, CallerT, FrameT, FirstW, SecondW, ArgumentW, BackW}
use Rattle.c_evaluate.specs.inner.Machine.{ValueW, StepW, BodyW, BeginW, RestW, ArmsW, EndW, SwitchW, OneW, ItemsW, VarsW, FilledW, MainW, Config}
use Rattle.c_evaluate.specs.inner.Machine.{Going, Over, caller_of, back_in}

-- ---- on from a result; where there is none the run is over

abbrev pub on : {A : Type 0} → Result A End → (A → Config) → Config
on (Ok x) go = go x
on (Err end) go = Over end

-- a value, or a place, came of an expression
abbrev pub outcome : Outcome → List FrameT → Store → Config
outcome v k u = Going (OutcomeF v) k u

abbrev pub value : With Cell → List FrameT → Config
value t k = on t (λ x. outcome (Value x.0) k x.1)

abbrev pub value_here : Result Cell End → List FrameT → Store → Config
value_here c k u = on c (λ z. outcome (Value z) k u)

abbrev pub place_here : Result Cell End → List FrameT → Store → Config
place_here p k u = on p (λ z. outcome (Place z) k u)

abbrev pub left : How → List FrameT → Store → Config
left h k u = Going (ExitF h) k u

abbrev pub full : Kept → List FrameT → Config
full t k = on t (λ u. Going FullF k u)

-- ---- lists of statements

abbrev pub rest_of : (bound : ℕ) → (result : Cell) → TStmtTs → List FrameT → Store → Config
rest_of n r NoZ k u = left On k u
rest_of n r (MoreZ a rest) k u = Going (DoF n r a) (RestW n r rest ∷ k) u

abbrev pub arms_of : (bound : ℕ) → (result : Cell) → (before : ℕ) → TArmTs → List FrameT → Store → Config
arms_of n r j NoB k u = left On k u
arms_of n r (suc j) (MoreB a rest) k u = arms_of n r j rest k u
arms_of n r zero (MoreB (CaseB label) rest) k u = arms_of n r zero rest k u
arms_of n r zero (MoreB DefaultB rest) k u = arms_of n r zero rest k u
arms_of n r zero (MoreB (StmtB a) rest) k u = Going (DoF n r a) (ArmsW n r rest ∷ k) u

abbrev pub vars_of : (bound : ℕ) → List TVarT → List FrameT → Store → Config
vars_of n [] k u = Going FullF k u
vars_of n (v ∷ vs) k u = on (at_span nowhere (object_of v.global v.object u)) (λ p. Going (FillF n v.init v.ty p) (VarsW n vs ∷ k) u)

abbrev pub items_of : Setting → (bound : ℕ) → TInitTs → Ty → (part : ℕ) → (place : Cell) → List FrameT → Store → Config
items_of s n NoI ty j p k u = full (rest_in s n ty j p u) k
items_of s n (MoreI i rest) ty j p k u =
    Going (FillF n i (part_type s.layouts ty j) p) (ItemsW n rest ty (j + 1) (further p (words s (part_type s.layouts ty j))) ∷ k) u

-- ---- calls

abbrev pub in_room : Bool → Span → Config → Config
in_room true span c = c
in_room false span c = Over (Deep span)

abbrev pub body_of : Setting → (bound function : ℕ) → TFunctionT → (args : List Cell) → (result : Cell) → Span → List FrameT → Store → Config
body_of s m f g vs r span k u =
    on (params_in s m 0 g.params vs (fresh_all s.sizes g.made (entered s.sizes f u))) (λ t. rest_of m r g.body (BackW f vs r span (caller_of u) ∷ k) t)

abbrev pub enter : Setting → (bound function : ℕ) → TFunctionT → (args : List Cell) → (result : Cell) → Span → List FrameT → Store → Config
enter s zero f g vs r span k u = Over OutOfBound
enter s (suc m) f g vs r span k u = in_room (has_room s.sizes f u) span (body_of s m f g vs r span k u)

abbrev pub call_of : Setting → (bound function : ℕ) → Option TFunctionT → (args : List Cell) → Span → List FrameT → Store → Config
call_of s n f None vs span k u = Over (Stray span)
call_of s n f (Some g) vs span k u = enter s n f g vs (result_place g.gives u) span k (with_result s g.gives u)

abbrev pub call : Setting → (bound function : ℕ) → (args : List Cell) → Span → List FrameT → Store → Config
call s n f vs span k u = call_of s n f (slice_get s.functions f) vs span k u

-- the next argument, or the call
abbrev pub args_of : Setting → (bound function : ℕ) → Span → (args : List Cell) → TExprTs → List FrameT → Store → Config
args_of s n f span vs NoX k u = call s n f vs span k u
args_of s n f span vs (MoreX x xs) k u = Going (EvalF n x) (ArgumentW n f span vs (MoreX x xs) ∷ k) u

-- ---- expressions begun

abbrev pub input : (port : ℕ) → List ℕ → List FrameT → Store → Config
input port [] k u = Over Starved
input port (x ∷ rest) k u = Going (MadeF (event.In port x) (Value (Num x))) k (with_answers rest u)

-- the first operand
abbrev pub operand : (bound : ℕ) → TKindT → Ty → Span → TExprT → List FrameT → Store → Config
operand n kind ty span x k u = Going (EvalF n x) (FirstW n (Typed kind ty span) ∷ k) u

unfoldable pub eval : Setting → (bound : ℕ) → TKindT → Ty → Span → List FrameT → Store → Config
eval s n (NumberK x) ty span k u = outcome (Value (Num x)) k u
eval s n NullK ty span k u = outcome (Value Null) k u
eval s n (LiteralK number) ty span k u = outcome (Place (literal_at s number)) k u
eval s n (GlobalK number) ty span k u = outcome (Place (global_at number)) k u
eval s n (LocalK number) ty span k u = place_here (at_span span (first_cell (local_object u.locals number))) k u
eval s n (UnaryK op x) ty span k u = operand n (UnaryK op x) ty span x k u
eval s n (BinaryK op x y) ty span k u = operand n (BinaryK op x y) ty span x k u
eval s n (AssignK op x y) ty span k u = operand n (AssignK op x y) ty span x k u
eval s n (StepK op x) ty span k u = operand n (StepK op x) ty span x k u
eval s n (IndexK x y) ty span k u = operand n (IndexK x y) ty span x k u
eval s n (MemberK x offset) ty span k u = operand n (MemberK x offset) ty span x k u
eval s n (ArrowK x offset) ty span k u = operand n (ArrowK x offset) ty span x k u
eval s n (CastK x) ty span k u = operand n (CastK x) ty span x k u
eval s n (CallK f xs) ty span k u = args_of s n f span [] xs k u
eval s n (InK port) ty span k u = input port u.answers k u
eval s n (OutK port x) ty span k u = operand n (OutK port x) ty span x k u
eval s n WaitK ty span k u = Going (MadeF event.Wait Nothing) k u
eval s n HaltK ty span k u = Over Halted
eval s n CardK ty span k u = outcome (Value (card_at s)) k u

abbrev pub eval_of : Setting → (bound : ℕ) → TExprT → List FrameT → Store → Config
eval_of s n (Typed kind ty span) k u = eval s n kind ty span k u

-- ---- what came of a first operand

abbrev pub unary_first : Setting → (bound : ℕ) → UnOp → TExprT → Span → Outcome → List FrameT → Store → Config
unary_first s n un.Deref x span v k u = on (taken s n x v u) (λ t. outcome (Place t.0) k t.1)
unary_first s n un.Address x span v k u = value_here (placed_in span v) k u
unary_first s n un.Not x span v k u = on (tested_in s n x v u) (λ t. outcome (Value (truth (not t.0))) k t.1)
unary_first s n un.Minus x span v k u = on (taken s n x v u) (λ t. value_here (at_span span (cell_unary un.Minus t.0)) k t.1)
unary_first s n un.Plus x span v k u = on (taken s n x v u) (λ t. value_here (at_span span (cell_unary un.Plus t.0)) k t.1)
unary_first s n un.Flip x span v k u = on (taken s n x v u) (λ t. value_here (at_span span (cell_unary un.Flip t.0)) k t.1)

-- the second operand of the node, where the first came to a cell
abbrev pub second : (bound : ℕ) → TKindT → Ty → Span → TExprT → (first : Cell) → List FrameT → Store → Config
second n kind ty span y c k u = Going (EvalF n y) (SecondW n (Typed kind ty span) c ∷ k) u

abbrev pub either_of : Bool → Config → Config → Config
either_of true x y = x
either_of false x y = y

-- the node is given as it is
abbrev pub second_of_node : (bound : ℕ) → (node y : TExprT) → (first : Cell) → List FrameT → Store → Config
second_of_node n e y c k u = Going (EvalF n y) (SecondW n e c ∷ k) u

abbrev pub binary_of : Setting → (bound : ℕ) → BinOp → (node x y : TExprT) → Outcome → List FrameT → Store → Config
binary_of s n AndAlso e x y v k u = on (tested_in s n x v u) (λ t. either_of t.0 (second_of_node n e y Unwritten k t.1) (outcome (Value (truth false)) k t.1))
binary_of s n OrElse e x y v k u = on (tested_in s n x v u) (λ t. either_of t.0 (outcome (Value (truth true)) k t.1) (second_of_node n e y Unwritten k t.1))
binary_of s n op e x y v k u = on (taken s n x v u) (λ t. second_of_node n e y t.0 k t.1)

abbrev pub member_first : Ty → TExprT → Span → (offset : ℕ) → Outcome → List FrameT → Store → Config
member_first ty x span offset (Place p) k u = place_here (at_span span (pointer_step p offset)) k u
member_first ty x span offset (Value p) k u = value (member_in ty span (further p offset) u) k
member_first ty x span offset Nothing k u = Over (Stray (span_of x))

unfoldable pub first_step : Setting → (bound : ℕ) → TKindT → Ty → Span → Outcome → List FrameT → Store → Config
first_step s n (UnaryK op x) ty span v k u = unary_first s n op x span v k u
first_step s n (BinaryK op x y) ty span v k u = binary_of s n op (Typed (BinaryK op x y) ty span) x y v k u
first_step s n (AssignK op x y) ty span v k u = on (placed_in span v) (λ p. second n (AssignK op x y) ty span y p k u)
first_step s n (StepK op x) ty span v k u = on (placed_in span v) (λ p. value (stepped_in s n op x span p u) k)
first_step s n (IndexK x y) ty span v k u = on (taken s n x v u) (λ t. second n (IndexK x y) ty span y t.0 k t.1)
first_step s n (MemberK x offset) ty span v k u = member_first ty x span offset v k u
first_step s n (ArrowK x offset) ty span v k u = on (taken s n x v u) (λ t. place_here (at_span span (pointer_step t.0 offset)) k t.1)
first_step s n (CastK x) ty span v k u = on (taken s n x v u) (λ t. value_here (at_span span (converted ty t.0)) k t.1)
first_step s n (OutK port x) ty span v k u =
    on (taken s n x v u) (λ t. on (at_span (span_of x) (word_of t.0)) (λ z. Going (MadeF (event.Out port z) Nothing) k t.1))
first_step s n kind ty span v k u = outcome v k u

abbrev pub first_of : Setting → (bound : ℕ) → TExprT → Outcome → List FrameT → Store → Config
first_of s n (Typed kind ty span) v k u = first_step s n kind ty span v k u

-- ---- what came of a second operand

abbrev pub combined : Setting → (bound : ℕ) → BinOp → (x y : TExprT) → Span → (first : Cell) → Outcome → List FrameT → Store → Config
combined s n op x y span c v k u = on (taken s n y v u) (λ t. value_here (operated_in s op x y span c t.0 t.1) k t.1)

abbrev pub binary_second : Setting → (bound : ℕ) → BinOp → (x y : TExprT) → Span → (first : Cell) → Outcome → List FrameT → Store → Config
binary_second s n AndAlso x y span c v k u = on (tested_in s n y v u) (λ t. outcome (Value (truth t.0)) k t.1)
binary_second s n OrElse x y span c v k u = on (tested_in s n y v u) (λ t. outcome (Value (truth t.0)) k t.1)
binary_second s n op x y span c v k u = combined s n op x y span c v k u

unfoldable pub second_step : Setting → (bound : ℕ) → TKindT → Ty → Span → (first : Cell) → Outcome → List FrameT → Store → Config
second_step s n (BinaryK op x y) ty span c v k u = binary_second s n op x y span c v k u
second_step s n (AssignK op x y) ty span c v k u = on (taken s n y v u) (λ t. value (second_assigned_in s n op x y span c t.0 t.1) k)
second_step s n (IndexK x y) ty span c v k u = on (taken s n y v u) (λ t. place_here (at_span span (stepped (words s ty) c t.0)) k t.1)
second_step s n kind ty span c v k u = outcome v k u

abbrev pub second_of : Setting → (bound : ℕ) → TExprT → (first : Cell) → Outcome → List FrameT → Store → Config
second_of s n (Typed kind ty span) c v k u = second_step s n kind ty span c v k u

-- ---- what came of an argument

abbrev pub argument_in : Option Ty → TExprT → Cell → Result Cell End
argument_in None x c = Err (Stray (span_of x))
argument_in (Some ty) x c = at_span (span_of x) (converted ty c)

abbrev pub argument_step : Setting → (bound function : ℕ) → Span → (args : List Cell) → TExprTs → Outcome → List FrameT → Store → Config
argument_step s n f span vs NoX v k u = outcome v k u
argument_step s n f span vs (MoreX x xs) v k u =
    on (taken s n x v u) (λ t.
    on (argument_in (slice_get (params_of (slice_get s.functions f)) (length vs)) x t.0) (λ z.
    args_of s n f span (vs ++ z ∷ []) xs k t.1))

-- ---- loops

-- a turn of a `while` or a `for`
abbrev pub turn_of : (bound : ℕ) → (result : Cell) → (loop : TStmtT) → Option TExprT → (body : TStmtT) → List FrameT → Store → Config
turn_of n r a None body k u = Going (DoF n r body) (BodyW n r a ∷ k) u
turn_of n r a (Some x) body k u = Going (EvalF n x) (ValueW n r a ∷ k) u

-- a further turn has one less of the bound
abbrev pub again : (bound : ℕ) → (result : Cell) → (loop : TStmtT) → Option TExprT → (body : TStmtT) → List FrameT → Store → Config
again zero r a test body k u = Over OutOfBound
again (suc m) r a test body k u = turn_of m r a test body k u

abbrev pub do_again : (bound : ℕ) → (result : Cell) → (loop body : TStmtT) → List FrameT → Store → Config
do_again zero r a body k u = Over OutOfBound
do_again (suc m) r a body k u = Going (DoF m r body) (BodyW m r a ∷ k) u

-- the step of a `for`, and the next turn
abbrev pub step_of : (bound : ℕ) → (result : Cell) → (loop : TStmtT) → (test step : Option TExprT) → (body : TStmtT) → List FrameT → Store → Config
step_of n r a test None body k u = again n r a test body k u
step_of n r a test (Some y) body k u = Going (EvalF n y) (StepW n r a ∷ k) u

-- ---- statements begun

-- the value that a statement asks for
abbrev pub asks : (bound : ℕ) → (result : Cell) → TStmtT → TExprT → List FrameT → Store → Config
asks n r a x k u = Going (EvalF n x) (ValueW n r a ∷ k) u

abbrev pub begin_of : (bound : ℕ) → (result : Cell) → (loop : TStmtT) → MaybeZ → Option TExprT → (body : TStmtT) → List FrameT → Store → Config
begin_of n r a NoneZ test body k u = turn_of n r a test body k u
begin_of n r a (SomeZ b) test body k u = Going (DoF n r b) (BeginW n r a ∷ k) u

unfoldable pub exec : Setting → (bound : ℕ) → (result : Cell) → TStmtT → List FrameT → Store → Config
exec s n r (BlockZ made body) k u = rest_of n r body (EndW made ∷ k) (fresh_all s.sizes made u)
exec s n r EmptyZ k u = left On k u
exec s n r (VarsZ vars) k u = vars_of n vars (FilledW ∷ k) u
exec s n r (DoZ x) k u = asks n r (DoZ x) x k u
exec s n r (IfZ x a b) k u = asks n r (IfZ x a b) x k u
exec s n r (WhileZ x a) k u = asks n r (WhileZ x a) x k u
exec s n r (DoWhileZ a x) k u = Going (DoF n r a) (BodyW n r (DoWhileZ a x) ∷ k) u
exec s n r (ForZ made first test step a) k u = begin_of n r (ForZ made first test step a) first test a (EndW made ∷ k) (fresh_all s.sizes made u)
exec s n r (SwitchZ x made arms) k u = asks n r (SwitchZ x made arms) x k u
exec s n r (ReturnZ None) k u = left (Return None) k u
exec s n r (ReturnZ (Some x)) k u = asks n r (ReturnZ (Some x)) x k u
exec s n r BreakZ k u = left Break k u
exec s n r ContinueZ k u = left Continue k u

-- ---- the value of a statement came

abbrev pub other_of : (bound : ℕ) → (result : Cell) → MaybeZ → List FrameT → Store → Config
other_of n r NoneZ k u = left On k u
other_of n r (SomeZ a) k u = Going (DoF n r a) k u

abbrev pub return_of : With Cell → List FrameT → Config
return_of t k = on t (λ x. left (Return (Some x.0)) k x.1)

-- the condition of a loop came
abbrev pub value_looped : Setting → (bound : ℕ) → (result : Cell) → (loop : TStmtT) → TExprT → (body : TStmtT) → Outcome → List FrameT → Store → Config
value_looped s n r a x body v k u = on (tested_in s n x v u) (λ t. either_of t.0 (Going (DoF n r body) (BodyW n r a ∷ k) t.1) (left On k t.1))

abbrev pub value_switched : Setting → (bound : ℕ) → (result : Cell) → TExprT → (made : List ℕ) → TArmTs → Outcome → List FrameT → Store → Config
value_switched s n r x made arms v k u =
    on (taken s n x v u) (λ t.
    on (at_span (span_of x) (word_of t.0)) (λ z. arms_of n r (arms_before z arms) arms (SwitchW ∷ EndW made ∷ k) (fresh_all s.sizes made t.1)))

abbrev pub value_returned : Setting → (bound : ℕ) → (result : Cell) → TExprT → Outcome → List FrameT → Store → Config
value_returned s n r x v k u =
    on (taken s n x v u) (λ t.
    on (at_span (span_of x) (converted (result_of s t.1.function) t.0)) (λ z. return_of (returned_in s n (result_of s t.1.function) r z t.1) k))

unfoldable pub value_step : Setting → (bound : ℕ) → (result : Cell) → TStmtT → Outcome → List FrameT → Store → Config
value_step s n r (DoZ x) v k u = on (dropped_in s n x v u) (λ t. left On k t)
value_step s n r (IfZ x a b) v k u = on (tested_in s n x v u) (λ t. either_of t.0 (Going (DoF n r a) k t.1) (other_of n r b k t.1))
value_step s n r (WhileZ x a) v k u = value_looped s n r (WhileZ x a) x a v k u
value_step s n r (DoWhileZ a x) v k u = on (tested_in s n x v u) (λ t. either_of t.0 (do_again n r (DoWhileZ a x) a k t.1) (left On k t.1))
value_step s n r (ForZ made first (Some x) step a) v k u = value_looped s n r (ForZ made first (Some x) step a) x a v k u
value_step s n r (SwitchZ x made arms) v k u = value_switched s n r x made arms v k u
value_step s n r (ReturnZ (Some x)) v k u = value_returned s n r x v k u
value_step s n r a v k u = Over (Stray nowhere)

abbrev pub step_dropped : Setting → (bound : ℕ) → (result : Cell) → (loop : TStmtT) → (test : Option TExprT) → (step : TExprT) → (body : TStmtT)
    → Outcome → List FrameT → Store → Config
step_dropped s n r a test y body v k u = on (dropped_in s n y v u) (λ t. again n r a test body k t)

unfoldable pub step_step : Setting → (bound : ℕ) → (result : Cell) → TStmtT → Outcome → List FrameT → Store → Config
step_step s n r (ForZ made first test (Some y) a) v k u = step_dropped s n r (ForZ made first test (Some y) a) test y a v k u
step_step s n r a v k u = Over (Stray nowhere)

-- ---- a statement was left

-- after the body of a turn
abbrev pub after_body : How → List FrameT → Store → Config → Config
after_body On k u c = c
after_body Break k u c = left On k u
after_body Continue k u c = c
after_body (Return z) k u c = left (Return z) k u

-- where it went on
abbrev pub after_on : How → List FrameT → Store → Config → Config
after_on On k u c = c
after_on Break k u c = left Break k u
after_on Continue k u c = left Continue k u
after_on (Return z) k u c = left (Return z) k u

unfoldable pub body_step : (bound : ℕ) → (result : Cell) → TStmtT → How → List FrameT → Store → Config
body_step n r (WhileZ x a) h k u = after_body h k u (again n r (WhileZ x a) (Some x) a k u)
body_step n r (DoWhileZ a x) h k u = after_body h k u (Going (EvalF n x) (ValueW n r (DoWhileZ a x) ∷ k) u)
body_step n r (ForZ made first test step a) h k u = after_body h k u (step_of n r (ForZ made first test step a) test step a k u)
body_step n r a h k u = left h k u

unfoldable pub begin_step : (bound : ℕ) → (result : Cell) → TStmtT → How → List FrameT → Store → Config
begin_step n r (ForZ made first test step a) h k u = after_on h k u (turn_of n r (ForZ made first test step a) test a k u)
begin_step n r a h k u = left h k u

-- a `break` has come to its switch
abbrev pub switched : How → How
switched On = On
switched Break = On
switched Continue = Continue
switched (Return z) = Return z

abbrev pub back_step : (params : List Ty) → (args : List Cell) → (result : Cell) → Span → CallerT → How → List FrameT → Store → Config
back_step params vs r span c On k u = outcome Nothing k (all_released params vs (end_temporary r (back_in c u)))
back_step params vs r span c Break k u = Over (Stray span)
back_step params vs r span c Continue k u = Over (Stray span)
back_step params vs r span c (Return None) k u = outcome Nothing k (all_released params vs (end_temporary r (back_in c u)))
back_step params vs r span c (Return (Some z)) k u = outcome (Value z) k (all_released params vs (back_in c u))

-- behind the initialisers main is called
abbrev pub main_step : Setting → (bound main : ℕ) → How → List FrameT → Store → Config
main_step s n main On k u = call s n main [] nowhere k u
main_step s n main Break k u = Over (Stray nowhere)
main_step s n main Continue k u = Over (Stray nowhere)
main_step s n main (Return z) k u = Over (Stray nowhere)

-- ---- initialisers

unfoldable pub fill : Setting → (bound : ℕ) → TInitT → Ty → (place : Cell) → List FrameT → Store → Config
fill s n (OneI x) ty p k u = Going (EvalF n x) (OneW n ty x p ∷ k) u
fill s n (TextI number) ty p k u = full (text_in s n number (words s ty) p u) k
fill s n (ListI items) ty p k u = items_of s n items ty 0 p k u

-- ---- what comes is handed to the frame that waits for it; what another one would wait for strays

unfoldable pub take_outcome : Setting → FrameT → Outcome → List FrameT → Store → Config
take_outcome s (FirstW n e) v k u = first_of s n e v k u
take_outcome s (SecondW n e c) v k u = second_of s n e c v k u
take_outcome s (ArgumentW n f span vs xs) v k u = argument_step s n f span vs xs v k u
take_outcome s (ValueW n r a) v k u = value_step s n r a v k u
take_outcome s (StepW n r a) v k u = step_step s n r a v k u
take_outcome s (OneW n ty x p) v k u = on (taken s n x v u) (λ t. full (one_in s n ty p t.0 t.1) k)
take_outcome s f v k u = Over (Stray nowhere)

unfoldable pub take_exit : Setting → FrameT → How → List FrameT → Store → Config
take_exit s (BackW f vs r span c) h k u = back_step (params_of (slice_get s.functions f)) vs r span c h k u
take_exit s (BodyW n r a) h k u = body_step n r a h k u
take_exit s (BeginW n r a) h k u = begin_step n r a h k u
take_exit s (RestW n r rest) h k u = after_on h k u (rest_of n r rest k u)
take_exit s (ArmsW n r rest) h k u = after_on h k u (arms_of n r 0 rest k u)
take_exit s (EndW made) h k u = left h k (end_all made u)
take_exit s SwitchW h k u = left (switched h) k u
take_exit s (MainW n main) h k u = main_step s n main h k u
take_exit s f h k u = Over (Stray nowhere)

unfoldable pub fill_up : Setting → FrameT → List FrameT → Store → Config
fill_up s (ItemsW n rest ty j p) k u = items_of s n rest ty j p k u
fill_up s (VarsW n vars) k u = vars_of n vars k u
fill_up s FilledW k u = left On k u
fill_up s f k u = Over (Stray nowhere)

-- when main has returned, the program has halted
unfoldable pub step : Setting → FocusT → List FrameT → Store → Config
step s (EvalF n e) k u = eval_of s n e k u
step s (FillF n i ty p) k u = fill s n i ty p k u
step s (DoF n r a) k u = exec s n r a k u
step s (OutcomeF v) [] u = Over Halted
step s (OutcomeF v) (f ∷ k) u = take_outcome s f v k u
step s (MadeF e v) k u = Going (MadeF e v) k u
step s (ExitF h) [] u = Over (Stray nowhere)
step s (ExitF h) (f ∷ k) u = take_exit s f h k u
step s FullF [] u = Over (Stray nowhere)
step s FullF (f ∷ k) u = fill_up s f k u
