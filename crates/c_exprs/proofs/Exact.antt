-- The rules and the function agree: an expression has exactly the typed tree that `typed` gives, or breaks first what it gives.
use Rattle.std.proofs.Common.{◌≡◌, ℕ, ◌+◌, Bool, true, false, List, length, Some, None, Result, Ok, Err, refl, sym, subst, ap, ◌∙◌}
use Rattle.c_tree.specs.declared.span.Span.{Span}
use Rattle.c_tree.specs.declared.operator.UnOp.{UnOp}
use Rattle.c_tree.specs.declared.operator.StepOp.{StepOp}
use Rattle.c_tree.specs.declared.operator.BinOp.{BinOp}
use Rattle.c_tree.specs.Tree.{ExprT, NameE, NumberE, TextE, NullE, ParenE, UnaryE, BinaryE, AssignE, StepE, IndexE, MemberE, ArrowE, CallE, CastE, SizeOfE, ExprTs, NoE, MoreE, TypeT}
use Rattle.c_tree.specs.Tree as tree
use Rattle.c_types.specs.Types.{Ty, IntY, PointerY, ArrayY}
use Rattle.c_types.specs.Typed.{TExprT, Typed, TKindT, NumberK, LiteralK, UnaryK, BinaryK, AssignK, StepK, IndexK, CastK, TExprTs, MoreX}
use Rattle.c_rules.specs.declared.code.Code.TheVariants.{NotConstant}
use Rattle.c_rules.specs.Nodes.{needs_place, unary_rule, binary_rule, assign_rule, compound_rule, step_rule, index_rule, cast_rule, size_rule, array_rule}
use Rattle.c_exprs.specs.Env.{Text, Ctx}
use Rattle.c_exprs.specs.declared.error.Fault.{Fault}
use Rattle.c_exprs.specs.Faults.{◌>>=◌, placed, at_node, known, with_text}
use Rattle.c_exprs.specs.Nodes.{type_of_typed, span_of, is_place, value_rule, name_tree, named_type, member_tree, arrow_tree, constant}
use Rattle.c_exprs.specs.Calls.{names_port, call_node}
use Rattle.c_exprs.specs.Typing.{Typer, as_value, as_used, typed, all_valued, type_of}
use Rattle.c_exprs.specs.Types as good
use Rattle.c_exprs.specs.Types.{Types, Values, Used, AllValues, Names}
use Rattle.c_exprs.specs.Breaks as bad
use Rattle.c_exprs.specs.Breaks.{Breaks, NoValue, NotUsed, NotAll, NoName}

-- ---- what the function gives is by the rules

abbrev pub Out : Ctx → List Text → ExprT → Typer TExprT → Type 0
Out c ts e (Ok x) = Types c ts e x.0 x.1
Out c ts e (Err f) = Breaks c ts e f

abbrev pub AllOut : Ctx → List Text → Bool → ExprTs → Typer TExprTs → Type 0
AllOut c ts named es (Ok x) = AllValues c ts named es x.0 x.1
AllOut c ts named es (Err f) = NotAll c ts named es f

abbrev pub TypeOut : Ctx → List Text → Span → TypeT → Typer Ty → Type 0
TypeOut c ts s of (Ok x) = Names c ts s of x.0 x.1
TypeOut c ts s of (Err f) = NoName c ts s of f

abbrev pub ValueOut : Ctx → List Text → ExprT → Typer TExprT → Type 0
ValueOut c ts e (Ok x) = Values c ts e x.0 x.1
ValueOut c ts e (Err f) = NoValue c ts e f

value_rest : (c : Ctx) (ts : List Text) (e : ExprT) (x : TExprT × List Text) → Types c ts e x.0 x.1 → (r : Result (Unit {0}) Fault) → at_node (span_of e) (value_rule c.layouts c.whole (type_of_typed x.0)) ≡ r
    → ValueOut c ts e (r >>= λ _. Ok x)
value_rest c ts e x g (Ok tt) h = good.value g h
value_rest c ts e x g (Err f) h = bad.value g h

pub value_out : (c : Ctx) (ts : List Text) (e : ExprT) (r : Typer TExprT) → Out c ts e r → ValueOut c ts e (as_value c (span_of e) r)
unfolding as_value
value_out c ts e (Ok x) g = value_rest c ts e x g (at_node (span_of e) (value_rule c.layouts c.whole (type_of_typed x.0))) refl
value_out c ts e (Err f) g = bad.value_part g

abbrev pub UsedOut : Ctx → List Text → Bool → ExprT → Typer TExprT → Type 0
UsedOut c ts kept e (Ok x) = Used c ts kept e x.0 x.1
UsedOut c ts kept e (Err f) = NotUsed c ts kept e f

place_used : (c : Ctx) (ts : List Text) (e : ExprT) (r : Typer TExprT) → Out c ts e r → UsedOut c ts true e r
place_used c ts e (Ok x) g = good.as_place g
place_used c ts e (Err f) g = bad.as_place g

value_used : (c : Ctx) (ts : List Text) (e : ExprT) (r : Typer TExprT) → ValueOut c ts e r → UsedOut c ts false e r
value_used c ts e (Ok x) g = good.by_value g
value_used c ts e (Err f) g = bad.by_value g

pub used_out : (c : Ctx) (ts : List Text) (kept : Bool) (e : ExprT) (r : Typer TExprT) → Out c ts e r → UsedOut c ts kept e (as_used c (span_of e) kept r)
unfolding as_used
used_out c ts true e r g = place_used c ts e r g
used_out c ts false e r g = value_used c ts e (as_value c (span_of e) r) (value_out c ts e r g)

name_1 : (c : Ctx) (ts : List Text) (n : Text) (s : Span) → (r : Result TExprT Fault) → placed s (name_tree c n s) ≡ r → Out c ts (NameE n s) (r >>= λ x. Ok (x, ts))
name_1 c ts n s (Ok x) g0 = good.name g0
name_1 c ts n s (Err f) g0 = bad.name g0

text_1 : (c : Ctx) (ts : List Text) (t : Text) (s : Span) → (r : Result (ℕ × List Text) Fault) → with_text s ts t ≡ r → Out c ts (TextE t s) (r >>= λ k. Ok (Typed (LiteralK k.0) (ArrayY IntY (length t + 1)) s, k.1))
text_1 c ts t s (Ok k) g0 = good.text g0
text_1 c ts t s (Err f) g0 = bad.text g0

paren_1 : (c : Ctx) (ts : List Text) (a : ExprT) (s : Span) → (r : Result (TExprT × List Text) Fault) → Out c ts a r → Out c ts (ParenE a s) (r >>= λ x. Ok (x.0, x.1))
paren_1 c ts a s (Ok x) g0 = good.paren g0
paren_1 c ts a s (Err f) g0 = bad.paren g0

unary_2 : (c : Ctx) (ts : List Text) (op : UnOp) (a : ExprT) (s : Span) (x : TExprT × List Text) → Used c ts (needs_place op) a x.0 x.1 → (r : Result Ty Fault) → at_node s (unary_rule op (type_of_typed x.0) (is_place x.0)) ≡ r → Out c ts (UnaryE op a s) (r >>= λ u. Ok (Typed (UnaryK op x.0) u s, x.1))
unary_2 c ts op a s x g0 (Ok u) g1 = good.unary g0 g1
unary_2 c ts op a s x g0 (Err f) g1 = bad.unary g0 g1

unary_1 : (c : Ctx) (ts : List Text) (op : UnOp) (a : ExprT) (s : Span) → (r : Result (TExprT × List Text) Fault) → UsedOut c ts (needs_place op) a r → Out c ts (UnaryE op a s) (r >>= λ x. at_node s (unary_rule op (type_of_typed x.0) (is_place x.0)) >>= λ u. Ok (Typed (UnaryK op x.0) u s, x.1))
unary_1 c ts op a s (Ok x) g0 = unary_2 c ts op a s x g0 (at_node s (unary_rule op (type_of_typed x.0) (is_place x.0))) refl
unary_1 c ts op a s (Err f) g0 = bad.unary_part g0

binary_3 : (c : Ctx) (ts : List Text) (op : BinOp) (a b : ExprT) (s : Span) (x : TExprT × List Text) → Values c ts a x.0 x.1 → (y : TExprT × List Text) → Values c x.1 b y.0 y.1 → (r : Result Ty Fault) → at_node s (binary_rule c.whole op (type_of_typed x.0) (type_of_typed y.0)) ≡ r → Out c ts (BinaryE op a b s) (r >>= λ u. Ok (Typed (BinaryK op x.0 y.0) u s, y.1))
binary_3 c ts op a b s x g0 y g1 (Ok u) g2 = good.binary g0 g1 g2
binary_3 c ts op a b s x g0 y g1 (Err f) g2 = bad.binary g0 g1 g2

binary_2 : (c : Ctx) (ts : List Text) (op : BinOp) (a b : ExprT) (s : Span) (x : TExprT × List Text) → Values c ts a x.0 x.1 → (r : Result (TExprT × List Text) Fault) → ValueOut c x.1 b r → Out c ts (BinaryE op a b s) (r >>= λ y. at_node s (binary_rule c.whole op (type_of_typed x.0) (type_of_typed y.0)) >>= λ u. Ok (Typed (BinaryK op x.0 y.0) u s, y.1))
binary_2 c ts op a b s x g0 (Ok y) g1 = binary_3 c ts op a b s x g0 y g1 (at_node s (binary_rule c.whole op (type_of_typed x.0) (type_of_typed y.0))) refl
binary_2 c ts op a b s x g0 (Err f) g1 = bad.binary_right g0 g1

binary_1 : (c : Ctx) (ts : List Text) (op : BinOp) (a b : ExprT) (s : Span) → (r : Result (TExprT × List Text) Fault) → ValueOut c ts a r → ((us : List Text) → ValueOut c us b (as_value c (span_of b) (typed c us b))) → Out c ts (BinaryE op a b s) (r >>= λ x. as_value c (span_of b) (typed c x.1 b) >>= λ y. at_node s (binary_rule c.whole op (type_of_typed x.0) (type_of_typed y.0)) >>= λ u. Ok (Typed (BinaryK op x.0 y.0) u s, y.1))
binary_1 c ts op a b s (Ok x) g0 h1 = binary_2 c ts op a b s x g0 (as_value c (span_of b) (typed c x.1 b)) (h1 x.1)
binary_1 c ts op a b s (Err f) g0 h1 = bad.binary_left g0

assign_3 : (c : Ctx) (ts : List Text) (a b : ExprT) (s : Span) (x : TExprT × List Text) → Types c ts a x.0 x.1 → (y : TExprT × List Text) → Values c x.1 b y.0 y.1 → (r : Result Ty Fault) → at_node s (assign_rule c.layouts c.whole (type_of_typed x.0) (is_place x.0) (type_of_typed y.0)) ≡ r → Out c ts (AssignE None a b s) (r >>= λ u. Ok (Typed (AssignK None x.0 y.0) u s, y.1))
assign_3 c ts a b s x g0 y g1 (Ok u) g2 = good.assign g0 g1 g2
assign_3 c ts a b s x g0 y g1 (Err f) g2 = bad.assign g0 g1 g2

assign_2 : (c : Ctx) (ts : List Text) (a b : ExprT) (s : Span) (x : TExprT × List Text) → Types c ts a x.0 x.1 → (r : Result (TExprT × List Text) Fault) → ValueOut c x.1 b r → Out c ts (AssignE None a b s) (r >>= λ y. at_node s (assign_rule c.layouts c.whole (type_of_typed x.0) (is_place x.0) (type_of_typed y.0)) >>= λ u. Ok (Typed (AssignK None x.0 y.0) u s, y.1))
assign_2 c ts a b s x g0 (Ok y) g1 = assign_3 c ts a b s x g0 y g1 (at_node s (assign_rule c.layouts c.whole (type_of_typed x.0) (is_place x.0) (type_of_typed y.0))) refl
assign_2 c ts a b s x g0 (Err f) g1 = bad.assign_right g0 g1

assign_1 : (c : Ctx) (ts : List Text) (a b : ExprT) (s : Span) → (r : Result (TExprT × List Text) Fault) → Out c ts a r → ((us : List Text) → ValueOut c us b (as_value c (span_of b) (typed c us b))) → Out c ts (AssignE None a b s) (r >>= λ x. as_value c (span_of b) (typed c x.1 b) >>= λ y. at_node s (assign_rule c.layouts c.whole (type_of_typed x.0) (is_place x.0) (type_of_typed y.0)) >>= λ u. Ok (Typed (AssignK None x.0 y.0) u s, y.1))
assign_1 c ts a b s (Ok x) g0 h1 = assign_2 c ts a b s x g0 (as_value c (span_of b) (typed c x.1 b)) (h1 x.1)
assign_1 c ts a b s (Err f) g0 h1 = bad.assign_left g0

compound_3 : (c : Ctx) (ts : List Text) (op : BinOp) (a b : ExprT) (s : Span) (x : TExprT × List Text) → Types c ts a x.0 x.1 → (y : TExprT × List Text) → Values c x.1 b y.0 y.1 → (r : Result Ty Fault) → at_node s (compound_rule c.whole op (type_of_typed x.0) (is_place x.0) (type_of_typed y.0)) ≡ r → Out c ts (AssignE (Some op) a b s) (r >>= λ u. Ok (Typed (AssignK (Some op) x.0 y.0) u s, y.1))
compound_3 c ts op a b s x g0 y g1 (Ok u) g2 = good.compound g0 g1 g2
compound_3 c ts op a b s x g0 y g1 (Err f) g2 = bad.compound g0 g1 g2

compound_2 : (c : Ctx) (ts : List Text) (op : BinOp) (a b : ExprT) (s : Span) (x : TExprT × List Text) → Types c ts a x.0 x.1 → (r : Result (TExprT × List Text) Fault) → ValueOut c x.1 b r → Out c ts (AssignE (Some op) a b s) (r >>= λ y. at_node s (compound_rule c.whole op (type_of_typed x.0) (is_place x.0) (type_of_typed y.0)) >>= λ u. Ok (Typed (AssignK (Some op) x.0 y.0) u s, y.1))
compound_2 c ts op a b s x g0 (Ok y) g1 = compound_3 c ts op a b s x g0 y g1 (at_node s (compound_rule c.whole op (type_of_typed x.0) (is_place x.0) (type_of_typed y.0))) refl
compound_2 c ts op a b s x g0 (Err f) g1 = bad.compound_right g0 g1

compound_1 : (c : Ctx) (ts : List Text) (op : BinOp) (a b : ExprT) (s : Span) → (r : Result (TExprT × List Text) Fault) → Out c ts a r → ((us : List Text) → ValueOut c us b (as_value c (span_of b) (typed c us b))) → Out c ts (AssignE (Some op) a b s) (r >>= λ x. as_value c (span_of b) (typed c x.1 b) >>= λ y. at_node s (compound_rule c.whole op (type_of_typed x.0) (is_place x.0) (type_of_typed y.0)) >>= λ u. Ok (Typed (AssignK (Some op) x.0 y.0) u s, y.1))
compound_1 c ts op a b s (Ok x) g0 h1 = compound_2 c ts op a b s x g0 (as_value c (span_of b) (typed c x.1 b)) (h1 x.1)
compound_1 c ts op a b s (Err f) g0 h1 = bad.compound_left g0

step_2 : (c : Ctx) (ts : List Text) (op : StepOp) (a : ExprT) (s : Span) (x : TExprT × List Text) → Types c ts a x.0 x.1 → (r : Result Ty Fault) → at_node s (step_rule c.whole op (type_of_typed x.0) (is_place x.0)) ≡ r → Out c ts (StepE op a s) (r >>= λ u. Ok (Typed (StepK op x.0) u s, x.1))
step_2 c ts op a s x g0 (Ok u) g1 = good.step g0 g1
step_2 c ts op a s x g0 (Err f) g1 = bad.step g0 g1

step_1 : (c : Ctx) (ts : List Text) (op : StepOp) (a : ExprT) (s : Span) → (r : Result (TExprT × List Text) Fault) → Out c ts a r → Out c ts (StepE op a s) (r >>= λ x. at_node s (step_rule c.whole op (type_of_typed x.0) (is_place x.0)) >>= λ u. Ok (Typed (StepK op x.0) u s, x.1))
step_1 c ts op a s (Ok x) g0 = step_2 c ts op a s x g0 (at_node s (step_rule c.whole op (type_of_typed x.0) (is_place x.0))) refl
step_1 c ts op a s (Err f) g0 = bad.step_part g0

index_3 : (c : Ctx) (ts : List Text) (a b : ExprT) (s : Span) (x : TExprT × List Text) → Values c ts a x.0 x.1 → (y : TExprT × List Text) → Values c x.1 b y.0 y.1 → (r : Result Ty Fault) → at_node s (index_rule c.whole (type_of_typed x.0) (type_of_typed y.0)) ≡ r → Out c ts (IndexE a b s) (r >>= λ u. Ok (Typed (IndexK x.0 y.0) u s, y.1))
index_3 c ts a b s x g0 y g1 (Ok u) g2 = good.index g0 g1 g2
index_3 c ts a b s x g0 y g1 (Err f) g2 = bad.index g0 g1 g2

index_2 : (c : Ctx) (ts : List Text) (a b : ExprT) (s : Span) (x : TExprT × List Text) → Values c ts a x.0 x.1 → (r : Result (TExprT × List Text) Fault) → ValueOut c x.1 b r → Out c ts (IndexE a b s) (r >>= λ y. at_node s (index_rule c.whole (type_of_typed x.0) (type_of_typed y.0)) >>= λ u. Ok (Typed (IndexK x.0 y.0) u s, y.1))
index_2 c ts a b s x g0 (Ok y) g1 = index_3 c ts a b s x g0 y g1 (at_node s (index_rule c.whole (type_of_typed x.0) (type_of_typed y.0))) refl
index_2 c ts a b s x g0 (Err f) g1 = bad.index_right g0 g1

index_1 : (c : Ctx) (ts : List Text) (a b : ExprT) (s : Span) → (r : Result (TExprT × List Text) Fault) → ValueOut c ts a r → ((us : List Text) → ValueOut c us b (as_value c (span_of b) (typed c us b))) → Out c ts (IndexE a b s) (r >>= λ x. as_value c (span_of b) (typed c x.1 b) >>= λ y. at_node s (index_rule c.whole (type_of_typed x.0) (type_of_typed y.0)) >>= λ u. Ok (Typed (IndexK x.0 y.0) u s, y.1))
index_1 c ts a b s (Ok x) g0 h1 = index_2 c ts a b s x g0 (as_value c (span_of b) (typed c x.1 b)) (h1 x.1)
index_1 c ts a b s (Err f) g0 h1 = bad.index_left g0

member_2 : (c : Ctx) (ts : List Text) (a : ExprT) (n : Text) (s : Span) (x : TExprT × List Text) → Types c ts a x.0 x.1 → (r : Result TExprT Fault) → placed s (member_tree c s x.0 n) ≡ r → Out c ts (MemberE a n s) (r >>= λ y. Ok (y, x.1))
member_2 c ts a n s x g0 (Ok y) g1 = good.member g0 g1
member_2 c ts a n s x g0 (Err f) g1 = bad.member g0 g1

member_1 : (c : Ctx) (ts : List Text) (a : ExprT) (n : Text) (s : Span) → (r : Result (TExprT × List Text) Fault) → Out c ts a r → Out c ts (MemberE a n s) (r >>= λ x. placed s (member_tree c s x.0 n) >>= λ y. Ok (y, x.1))
member_1 c ts a n s (Ok x) g0 = member_2 c ts a n s x g0 (placed s (member_tree c s x.0 n)) refl
member_1 c ts a n s (Err f) g0 = bad.member_part g0

arrow_2 : (c : Ctx) (ts : List Text) (a : ExprT) (n : Text) (s : Span) (x : TExprT × List Text) → Values c ts a x.0 x.1 → (r : Result TExprT Fault) → placed s (arrow_tree c s x.0 n) ≡ r → Out c ts (ArrowE a n s) (r >>= λ y. Ok (y, x.1))
arrow_2 c ts a n s x g0 (Ok y) g1 = good.arrow g0 g1
arrow_2 c ts a n s x g0 (Err f) g1 = bad.arrow g0 g1

arrow_1 : (c : Ctx) (ts : List Text) (a : ExprT) (n : Text) (s : Span) → (r : Result (TExprT × List Text) Fault) → ValueOut c ts a r → Out c ts (ArrowE a n s) (r >>= λ x. placed s (arrow_tree c s x.0 n) >>= λ y. Ok (y, x.1))
arrow_1 c ts a n s (Ok x) g0 = arrow_2 c ts a n s x g0 (placed s (arrow_tree c s x.0 n)) refl
arrow_1 c ts a n s (Err f) g0 = bad.arrow_part g0

call_2 : (c : Ctx) (ts : List Text) (n : Text) (args : ExprTs) (s : Span) (xs : TExprTs × List Text) → AllValues c ts (names_port c n) args xs.0 xs.1 → (r : Result (TKindT × Ty) Fault) → placed s (call_node c n args xs.0) ≡ r → Out c ts (CallE n args s) (r >>= λ u. Ok (Typed u.0 u.1 s, xs.1))
call_2 c ts n args s xs g0 (Ok u) g1 = good.call g0 g1
call_2 c ts n args s xs g0 (Err f) g1 = bad.call g0 g1

call_1 : (c : Ctx) (ts : List Text) (n : Text) (args : ExprTs) (s : Span) → (r : Result (TExprTs × List Text) Fault) → AllOut c ts (names_port c n) args r → Out c ts (CallE n args s) (r >>= λ xs. placed s (call_node c n args xs.0) >>= λ u. Ok (Typed u.0 u.1 s, xs.1))
call_1 c ts n args s (Ok xs) g0 = call_2 c ts n args s xs g0 (placed s (call_node c n args xs.0)) refl
call_1 c ts n args s (Err f) g0 = bad.call_part g0

cast_3 : (c : Ctx) (ts : List Text) (to : TypeT) (a : ExprT) (s : Span) (t : Ty × List Text) → Names c ts s to t.0 t.1 → (x : TExprT × List Text) → Values c t.1 a x.0 x.1 → (r : Result Ty Fault) → at_node s (cast_rule (type_of_typed x.0) t.0) ≡ r → Out c ts (CastE to a s) (r >>= λ u. Ok (Typed (CastK x.0) u s, x.1))
cast_3 c ts to a s t g0 x g1 (Ok u) g2 = good.cast g0 g1 g2
cast_3 c ts to a s t g0 x g1 (Err f) g2 = bad.cast g0 g1 g2

cast_2 : (c : Ctx) (ts : List Text) (to : TypeT) (a : ExprT) (s : Span) (t : Ty × List Text) → Names c ts s to t.0 t.1 → (r : Result (TExprT × List Text) Fault) → ValueOut c t.1 a r → Out c ts (CastE to a s) (r >>= λ x. at_node s (cast_rule (type_of_typed x.0) t.0) >>= λ u. Ok (Typed (CastK x.0) u s, x.1))
cast_2 c ts to a s t g0 (Ok x) g1 = cast_3 c ts to a s t g0 x g1 (at_node s (cast_rule (type_of_typed x.0) t.0)) refl
cast_2 c ts to a s t g0 (Err f) g1 = bad.cast_part g0 g1

cast_1 : (c : Ctx) (ts : List Text) (to : TypeT) (a : ExprT) (s : Span) → (r : Result (Ty × List Text) Fault) → TypeOut c ts s to r → ((us : List Text) → ValueOut c us a (as_value c (span_of a) (typed c us a))) → Out c ts (CastE to a s) (r >>= λ t. as_value c (span_of a) (typed c t.1 a) >>= λ x. at_node s (cast_rule (type_of_typed x.0) t.0) >>= λ u. Ok (Typed (CastK x.0) u s, x.1))
cast_1 c ts to a s (Ok t) g0 h1 = cast_2 c ts to a s t g0 (as_value c (span_of a) (typed c t.1 a)) (h1 t.1)
cast_1 c ts to a s (Err f) g0 h1 = bad.cast_type g0

size_of_2 : (c : Ctx) (ts : List Text) (of : TypeT) (s : Span) (t : Ty × List Text) → Names c ts s of t.0 t.1 → (r : Result ℕ Fault) → at_node s (size_rule c.layouts c.whole t.0) ≡ r → Out c ts (SizeOfE of s) (r >>= λ n. Ok (Typed (NumberK n) IntY s, t.1))
size_of_2 c ts of s t g0 (Ok n) g1 = good.size_of g0 g1
size_of_2 c ts of s t g0 (Err f) g1 = bad.size_of g0 g1

size_of_1 : (c : Ctx) (ts : List Text) (of : TypeT) (s : Span) → (r : Result (Ty × List Text) Fault) → TypeOut c ts s of r → Out c ts (SizeOfE of s) (r >>= λ t. at_node s (size_rule c.layouts c.whole t.0) >>= λ n. Ok (Typed (NumberK n) IntY s, t.1))
size_of_1 c ts of s (Ok t) g0 = size_of_2 c ts of s t g0 (at_node s (size_rule c.layouts c.whole t.0)) refl
size_of_1 c ts of s (Err f) g0 = bad.size_of_type g0

port_1 : (c : Ctx) (ts : List Text) (e : ExprT) (rest : ExprTs) → (r : Result (TExprTs × List Text) Fault) → AllOut c ts false rest r → AllOut c ts true (MoreE e rest) (r >>= λ xs. Ok (xs.0, xs.1))
port_1 c ts e rest (Ok xs) g0 = good.port g0
port_1 c ts e rest (Err f) g0 = bad.behind_port g0

more_2 : (c : Ctx) (ts : List Text) (e : ExprT) (rest : ExprTs) (x : TExprT × List Text) → Values c ts e x.0 x.1 → (r : Result (TExprTs × List Text) Fault) → AllOut c x.1 false rest r → AllOut c ts false (MoreE e rest) (r >>= λ xs. Ok (MoreX x.0 xs.0, xs.1))
more_2 c ts e rest x g0 (Ok xs) g1 = good.more g0 g1
more_2 c ts e rest x g0 (Err f) g1 = bad.later g0 g1

more_1 : (c : Ctx) (ts : List Text) (e : ExprT) (rest : ExprTs) → (r : Result (TExprT × List Text) Fault) → ValueOut c ts e r → ((us : List Text) → AllOut c us false rest (all_valued c us false rest)) → AllOut c ts false (MoreE e rest) (r >>= λ x. all_valued c x.1 false rest >>= λ xs. Ok (MoreX x.0 xs.0, xs.1))
more_1 c ts e rest (Ok x) g0 h1 = more_2 c ts e rest x g0 (all_valued c x.1 false rest) (h1 x.1)
more_1 c ts e rest (Err f) g0 h1 = bad.here g0

named_1 : (c : Ctx) (ts : List Text) (s : Span) (n : Text) → (r : Result Ty Fault) → placed s (named_type c n) ≡ r → TypeOut c ts s (tree.NamedY n) (r >>= λ t. Ok (t, ts))
named_1 c ts s n (Ok t) g0 = good.named g0
named_1 c ts s n (Err f) g0 = bad.named g0

pointer_1 : (c : Ctx) (ts : List Text) (s : Span) (to : TypeT) → (r : Result (Ty × List Text) Fault) → TypeOut c ts s to r → TypeOut c ts s (tree.PointerY to) (r >>= λ t. Ok (PointerY t.0, t.1))
pointer_1 c ts s to (Ok t) g0 = good.pointer g0
pointer_1 c ts s to (Err f) g0 = bad.pointer g0

array_4 : (c : Ctx) (ts : List Text) (s : Span) (of : TypeT) (n : ExprT) (x : TExprT × List Text) → Values c ts n x.0 x.1 → (k : ℕ) → known (span_of n) NotConstant (constant x.0) ≡ Ok k → (t : Ty × List Text) → Names c x.1 s of t.0 t.1 → (r : Result Ty Fault) → at_node (span_of n) (array_rule c.layouts c.whole t.0 k) ≡ r → TypeOut c ts s (tree.ArrayY of n) (r >>= λ u. Ok (u, t.1))
array_4 c ts s of n x g0 k g1 t g2 (Ok u) g3 = good.array g0 g1 g2 g3
array_4 c ts s of n x g0 k g1 t g2 (Err f) g3 = bad.array g0 g1 g2 g3

array_3 : (c : Ctx) (ts : List Text) (s : Span) (of : TypeT) (n : ExprT) (x : TExprT × List Text) → Values c ts n x.0 x.1 → (k : ℕ) → known (span_of n) NotConstant (constant x.0) ≡ Ok k → (r : Result (Ty × List Text) Fault) → TypeOut c x.1 s of r → TypeOut c ts s (tree.ArrayY of n) (r >>= λ t. at_node (span_of n) (array_rule c.layouts c.whole t.0 k) >>= λ u. Ok (u, t.1))
array_3 c ts s of n x g0 k g1 (Ok t) g2 = array_4 c ts s of n x g0 k g1 t g2 (at_node (span_of n) (array_rule c.layouts c.whole t.0 k)) refl
array_3 c ts s of n x g0 k g1 (Err f) g2 = bad.array_of g0 g1 g2

array_2 : (c : Ctx) (ts : List Text) (s : Span) (of : TypeT) (n : ExprT) (x : TExprT × List Text) → Values c ts n x.0 x.1 → (r : Result ℕ Fault) → known (span_of n) NotConstant (constant x.0) ≡ r → ((us : List Text) → TypeOut c us s of (type_of c us s of)) → TypeOut c ts s (tree.ArrayY of n) (r >>= λ k. type_of c x.1 s of >>= λ t. at_node (span_of n) (array_rule c.layouts c.whole t.0 k) >>= λ u. Ok (u, t.1))
array_2 c ts s of n x g0 (Ok k) g1 h2 = array_3 c ts s of n x g0 k g1 (type_of c x.1 s of) (h2 x.1)
array_2 c ts s of n x g0 (Err f) g1 h2 = bad.array_count g0 g1

array_1 : (c : Ctx) (ts : List Text) (s : Span) (of : TypeT) (n : ExprT) → (r : Result (TExprT × List Text) Fault) → ValueOut c ts n r → ((us : List Text) → TypeOut c us s of (type_of c us s of)) → TypeOut c ts s (tree.ArrayY of n) (r >>= λ x. known (span_of n) NotConstant (constant x.0) >>= λ k. type_of c x.1 s of >>= λ t. at_node (span_of n) (array_rule c.layouts c.whole t.0 k) >>= λ u. Ok (u, t.1))
array_1 c ts s of n (Ok x) g0 h2 = array_2 c ts s of n x g0 (known (span_of n) NotConstant (constant x.0)) refl h2
array_1 c ts s of n (Err f) g0 h2 = bad.array_size g0

mutual
  pub outcome : (c : Ctx) (ts : List Text) (e : ExprT) → Out c ts e (typed c ts e)
  outcome c ts (NameE n s) = name_1 c ts n s (placed s (name_tree c n s)) refl
  outcome c ts (NumberE n s) = good.number
  outcome c ts (TextE t s) = text_1 c ts t s (with_text s ts t) refl
  outcome c ts (NullE s) = good.null
  outcome c ts (ParenE a s) = paren_1 c ts a s (typed c ts a) (outcome c ts a)
  outcome c ts (UnaryE op a s) = unary_1 c ts op a s (as_used c (span_of a) (needs_place op) (typed c ts a)) (used_out c ts (needs_place op) a (typed c ts a) (outcome c ts a))
  outcome c ts (BinaryE op a b s) = binary_1 c ts op a b s (as_value c (span_of a) (typed c ts a)) (value_out c ts a (typed c ts a) (outcome c ts a)) (λ us. value_out c us b (typed c us b) (outcome c us b))
  outcome c ts (AssignE None a b s) = assign_1 c ts a b s (typed c ts a) (outcome c ts a) (λ us. value_out c us b (typed c us b) (outcome c us b))
  outcome c ts (AssignE (Some op) a b s) = compound_1 c ts op a b s (typed c ts a) (outcome c ts a) (λ us. value_out c us b (typed c us b) (outcome c us b))
  outcome c ts (StepE op a s) = step_1 c ts op a s (typed c ts a) (outcome c ts a)
  outcome c ts (IndexE a b s) = index_1 c ts a b s (as_value c (span_of a) (typed c ts a)) (value_out c ts a (typed c ts a) (outcome c ts a)) (λ us. value_out c us b (typed c us b) (outcome c us b))
  outcome c ts (MemberE a n s) = member_1 c ts a n s (typed c ts a) (outcome c ts a)
  outcome c ts (ArrowE a n s) = arrow_1 c ts a n s (as_value c (span_of a) (typed c ts a)) (value_out c ts a (typed c ts a) (outcome c ts a))
  outcome c ts (CallE n args s) = call_1 c ts n args s (all_valued c ts (names_port c n) args) (all_outcome c ts (names_port c n) args)
  outcome c ts (CastE to a s) = cast_1 c ts to a s (type_of c ts s to) (type_outcome c ts s to) (λ us. value_out c us a (typed c us a) (outcome c us a))
  outcome c ts (SizeOfE of s) = size_of_1 c ts of s (type_of c ts s of) (type_outcome c ts s of)

  pub all_outcome : (c : Ctx) (ts : List Text) (named : Bool) (es : ExprTs) → AllOut c ts named es (all_valued c ts named es)
  all_outcome c ts named NoE = good.none
  all_outcome c ts true (MoreE e rest) = port_1 c ts e rest (all_valued c ts false rest) (all_outcome c ts false rest)
  all_outcome c ts false (MoreE e rest) = more_1 c ts e rest (as_value c (span_of e) (typed c ts e)) (value_out c ts e (typed c ts e) (outcome c ts e)) (λ us. all_outcome c us false rest)

  pub type_outcome : (c : Ctx) (ts : List Text) (s : Span) (of : TypeT) → TypeOut c ts s of (type_of c ts s of)
  type_outcome c ts s tree.IntY = good.int
  type_outcome c ts s tree.BoolY = good.bool
  type_outcome c ts s tree.VoidY = good.void
  type_outcome c ts s (tree.NamedY n) = named_1 c ts s n (placed s (named_type c n)) refl
  type_outcome c ts s (tree.PointerY to) = pointer_1 c ts s to (type_of c ts s to) (type_outcome c ts s to)
  type_outcome c ts s (tree.ArrayY of n) = array_1 c ts s of n (as_value c (span_of n) (typed c ts n)) (value_out c ts n (typed c ts n) (outcome c ts n)) (λ us. type_outcome c us s of)

-- ---- what is by the rules is given by the function

pub value_known : (c : Ctx) (ts us : List Text) (e : ExprT) (x : TExprT) → typed c ts e ≡ Ok (x, us) → at_node (span_of e) (value_rule c.layouts c.whole (type_of_typed x)) ≡ Ok tt
    → as_value c (span_of e) (typed c ts e) ≡ Ok (x, us)
unfolding as_value
value_known c ts us e x g h = rw (g, h) refl

value_at : (c : Ctx) (ts us : List Text) (e : ExprT) (x : TExprT) (f : Fault) → typed c ts e ≡ Ok (x, us) → at_node (span_of e) (value_rule c.layouts c.whole (type_of_typed x)) ≡ Err f
    → as_value c (span_of e) (typed c ts e) ≡ Err f
unfolding as_value
value_at c ts us e x f g h = rw (g, h) refl

value_part_at : (c : Ctx) (ts : List Text) (e : ExprT) (f : Fault) → typed c ts e ≡ Err f → as_value c (span_of e) (typed c ts e) ≡ Err f
unfolding as_value
value_part_at c ts e f g = rw g refl

kept_used : (c : Ctx) (s : Span) (r q : Typer TExprT) → r ≡ q → as_used c s true r ≡ q
unfolding as_used
kept_used c s r q g = g

taken_used : (c : Ctx) (s : Span) (r q : Typer TExprT) → as_value c s r ≡ q → as_used c s false r ≡ q
unfolding as_used
taken_used c s r q g = g

mutual
  pub typed_good : {c : Ctx} {ts us : List Text} {e : ExprT} {x : TExprT} → Types c ts e x us → typed c ts e ≡ Ok (x, us)
  typed_good (good.name g0) = rw (g0) refl
  typed_good good.number = refl
  typed_good (good.text g0) = rw (g0) refl
  typed_good good.null = refl
  typed_good (good.paren g0) = rw (typed_good g0) refl
  typed_good (good.unary g0 g1) = rw (used_good g0, g1) refl
  typed_good (good.binary g0 g1 g2) = rw (value_good g0, value_good g1, g2) refl
  typed_good (good.assign g0 g1 g2) = rw (typed_good g0, value_good g1, g2) refl
  typed_good (good.compound g0 g1 g2) = rw (typed_good g0, value_good g1, g2) refl
  typed_good (good.step g0 g1) = rw (typed_good g0, g1) refl
  typed_good (good.index g0 g1 g2) = rw (value_good g0, value_good g1, g2) refl
  typed_good (good.member g0 g1) = rw (typed_good g0, g1) refl
  typed_good (good.arrow g0 g1) = rw (value_good g0, g1) refl
  typed_good (good.call g0 g1) = rw (all_good g0, g1) refl
  typed_good (good.cast g0 g1 g2) = rw (type_good g0, value_good g1, g2) refl
  typed_good (good.size_of g0 g1) = rw (type_good g0, g1) refl

  pub value_good : {c : Ctx} {ts us : List Text} {e : ExprT} {x : TExprT} → Values c ts e x us → as_value c (span_of e) (typed c ts e) ≡ Ok (x, us)
  value_good {c = c} {ts = ts} {us = us} {e = e} {x = x} (good.value g0 g1) = value_known c ts us e x (typed_good g0) g1

  pub used_good : {c : Ctx} {ts us : List Text} {kept : Bool} {e : ExprT} {x : TExprT} → Used c ts kept e x us → as_used c (span_of e) kept (typed c ts e) ≡ Ok (x, us)
  used_good {c = c} {e = e} (good.as_place g0) = kept_used c (span_of e) _ _ (typed_good g0)
  used_good {c = c} {e = e} (good.by_value g0) = taken_used c (span_of e) _ _ (value_good g0)

  pub all_good : {c : Ctx} {ts us : List Text} {named : Bool} {es : ExprTs} {x : TExprTs} → AllValues c ts named es x us → all_valued c ts named es ≡ Ok (x, us)
  all_good good.none = refl
  all_good (good.port g0) = rw (all_good g0) refl
  all_good (good.more g0 g1) = rw (value_good g0, all_good g1) refl

  pub type_good : {c : Ctx} {ts us : List Text} {s : Span} {of : TypeT} {x : Ty} → Names c ts s of x us → type_of c ts s of ≡ Ok (x, us)
  type_good good.int = refl
  type_good good.bool = refl
  type_good good.void = refl
  type_good (good.named g0) = rw (g0) refl
  type_good (good.pointer g0) = rw (type_good g0) refl
  type_good (good.array g0 g1 g2 g3) = rw (value_good g0, g1, type_good g2, g3) refl

mutual
  pub typed_bad : {c : Ctx} {ts : List Text} {e : ExprT} {f : Fault} → Breaks c ts e f → typed c ts e ≡ Err f
  typed_bad (bad.name g0) = rw (g0) refl
  typed_bad (bad.text g0) = rw (g0) refl
  typed_bad (bad.paren g0) = rw (typed_bad g0) refl
  typed_bad (bad.unary_part g0) = rw (used_bad g0) refl
  typed_bad (bad.unary g0 g1) = rw (used_good g0, g1) refl
  typed_bad (bad.binary_left g0) = rw (value_bad g0) refl
  typed_bad (bad.binary_right g0 g1) = rw (value_good g0, value_bad g1) refl
  typed_bad (bad.binary g0 g1 g2) = rw (value_good g0, value_good g1, g2) refl
  typed_bad (bad.assign_left g0) = rw (typed_bad g0) refl
  typed_bad (bad.assign_right g0 g1) = rw (typed_good g0, value_bad g1) refl
  typed_bad (bad.assign g0 g1 g2) = rw (typed_good g0, value_good g1, g2) refl
  typed_bad (bad.compound_left g0) = rw (typed_bad g0) refl
  typed_bad (bad.compound_right g0 g1) = rw (typed_good g0, value_bad g1) refl
  typed_bad (bad.compound g0 g1 g2) = rw (typed_good g0, value_good g1, g2) refl
  typed_bad (bad.step_part g0) = rw (typed_bad g0) refl
  typed_bad (bad.step g0 g1) = rw (typed_good g0, g1) refl
  typed_bad (bad.index_left g0) = rw (value_bad g0) refl
  typed_bad (bad.index_right g0 g1) = rw (value_good g0, value_bad g1) refl
  typed_bad (bad.index g0 g1 g2) = rw (value_good g0, value_good g1, g2) refl
  typed_bad (bad.member_part g0) = rw (typed_bad g0) refl
  typed_bad (bad.member g0 g1) = rw (typed_good g0, g1) refl
  typed_bad (bad.arrow_part g0) = rw (value_bad g0) refl
  typed_bad (bad.arrow g0 g1) = rw (value_good g0, g1) refl
  typed_bad (bad.call_part g0) = rw (all_bad g0) refl
  typed_bad (bad.call g0 g1) = rw (all_good g0, g1) refl
  typed_bad (bad.cast_type g0) = rw (type_bad g0) refl
  typed_bad (bad.cast_part g0 g1) = rw (type_good g0, value_bad g1) refl
  typed_bad (bad.cast g0 g1 g2) = rw (type_good g0, value_good g1, g2) refl
  typed_bad (bad.size_of_type g0) = rw (type_bad g0) refl
  typed_bad (bad.size_of g0 g1) = rw (type_good g0, g1) refl

  pub value_bad : {c : Ctx} {ts : List Text} {e : ExprT} {f : Fault} → NoValue c ts e f → as_value c (span_of e) (typed c ts e) ≡ Err f
  value_bad {c = c} {ts = ts} {e = e} {f = f} (bad.value_part g0) = value_part_at c ts e f (typed_bad g0)
  value_bad {c = c} {ts = ts} {e = e} {f = f} (bad.value g0 g1) = value_at c ts _ e _ f (typed_good g0) g1

  pub used_bad : {c : Ctx} {ts : List Text} {kept : Bool} {e : ExprT} {f : Fault} → NotUsed c ts kept e f → as_used c (span_of e) kept (typed c ts e) ≡ Err f
  used_bad {c = c} {e = e} (bad.as_place g0) = kept_used c (span_of e) _ _ (typed_bad g0)
  used_bad {c = c} {e = e} (bad.by_value g0) = taken_used c (span_of e) _ _ (value_bad g0)

  pub all_bad : {c : Ctx} {ts : List Text} {named : Bool} {es : ExprTs} {f : Fault} → NotAll c ts named es f → all_valued c ts named es ≡ Err f
  all_bad (bad.behind_port g0) = rw (all_bad g0) refl
  all_bad (bad.here g0) = rw (value_bad g0) refl
  all_bad (bad.later g0 g1) = rw (value_good g0, all_bad g1) refl

  pub type_bad : {c : Ctx} {ts : List Text} {s : Span} {of : TypeT} {f : Fault} → NoName c ts s of f → type_of c ts s of ≡ Err f
  type_bad (bad.named g0) = rw (g0) refl
  type_bad (bad.pointer g0) = rw (type_bad g0) refl
  type_bad (bad.array_size g0) = rw (value_bad g0) refl
  type_bad (bad.array_count g0 g1) = rw (value_good g0, g1) refl
  type_bad (bad.array_of g0 g1 g2) = rw (value_good g0, g1, type_bad g2) refl
  type_bad (bad.array g0 g1 g2 g3) = rw (value_good g0, g1, type_good g2, g3) refl

-- ---- what the code answers

pub typed_so : (c : Ctx) (ts us : List Text) (e : ExprT) (x : TExprT) → typed c ts e ≡ Ok (x, us) → Types c ts e x us
typed_so c ts us e x is = let P : Typer TExprT → Type 0 = λ r. Out c ts e r in subst P is (outcome c ts e)

pub breaks_so : (c : Ctx) (ts : List Text) (e : ExprT) (f : Fault) → typed c ts e ≡ Err f → Breaks c ts e f
breaks_so c ts e f is = let P : Typer TExprT → Type 0 = λ r. Out c ts e r in subst P is (outcome c ts e)

pub values_so : (c : Ctx) (ts us : List Text) (e : ExprT) (x : TExprT) → as_value c (span_of e) (typed c ts e) ≡ Ok (x, us) → Values c ts e x us
values_so c ts us e x is = let P : Typer TExprT → Type 0 = λ r. ValueOut c ts e r in subst P is (value_out c ts e (typed c ts e) (outcome c ts e))

pub no_value_so : (c : Ctx) (ts : List Text) (e : ExprT) (f : Fault) → as_value c (span_of e) (typed c ts e) ≡ Err f → NoValue c ts e f
no_value_so c ts e f is = let P : Typer TExprT → Type 0 = λ r. ValueOut c ts e r in subst P is (value_out c ts e (typed c ts e) (outcome c ts e))

pub names_so : (c : Ctx) (ts us : List Text) (s : Span) (of : TypeT) (x : Ty) → type_of c ts s of ≡ Ok (x, us) → Names c ts s of x us
names_so c ts us s of x is = let P : Typer Ty → Type 0 = λ r. TypeOut c ts s of r in subst P is (type_outcome c ts s of)

pub no_name_so : (c : Ctx) (ts : List Text) (s : Span) (of : TypeT) (f : Fault) → type_of c ts s of ≡ Err f → NoName c ts s of f
no_name_so c ts s of f is = let P : Typer Ty → Type 0 = λ r. TypeOut c ts s of r in subst P is (type_outcome c ts s of)

-- one typed tree at most
pub one_tree : {c : Ctx} {ts us vs : List Text} {e : ExprT} {x y : TExprT} → Types c ts e x us → Types c ts e y vs → x ≡ y
one_tree {us = us} {vs = vs} {x = x} {y = y} g h =
    let p : TExprT × List Text = (x, us) in
    let q : TExprT × List Text = (y, vs) in
    let one : Typer TExprT = Ok p in
    let two : Typer TExprT = Ok q in
    let same : one ≡ two = sym (typed_good g) ∙ typed_good h in
    let e : p ≡ q = cc in
    ap (λ (z : TExprT × List Text). z.0) e
