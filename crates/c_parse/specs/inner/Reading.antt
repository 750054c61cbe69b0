-- Reading expressions and types, with room for so many trees on a path.
use Rattle.std.specs.Prelude.{ℕ, zero, suc, Bool, true, false, List, [], ◌∷◌, ◌++◌, Option, Some, None, Result, Ok, ◌==◌, if◌then◌else◌}
use Rattle.c_tree.specs.declared.operator.BinOp.{BinOp}
use Rattle.c_tree.specs.declared.span.Span.{Span}
use Rattle.c_tree.specs.Tree.{ExprT, NameE, NumberE, TextE, NullE, ParenE, UnaryE, BinaryE, AssignE, StepE, IndexE, MemberE, ArrowE, CallE, CastE}
use Rattle.c_tree.specs.Tree.{SizeOfE, TypeT, IntY, BoolY, VoidY, NamedY, PointerY, ArrayY}
use Rattle.c_tree.specs.View.{exprs}
use Rattle.c_tree.specs.Depth.{expr_depth, type_depth}
use Rattle.c_parse.specs.declared.fault.Fault.{Fault}
use Rattle.c_parse.specs.declared.lead.Start.{Start}
use Rattle.c_parse.specs.declared.lead.Start.TheVariants as start
use Rattle.c_parse.specs.declared.lead.Lead.{Lead}
use Rattle.c_parse.specs.declared.lead.Lead.TheVariants as lead
use Rattle.c_parse.specs.declared.lead.Suffix.{Suffix}
use Rattle.c_parse.specs.declared.lead.Suffix.TheVariants as suffix
use Rattle.c_parse.specs.declared.lead.TypeLead.{TypeLead}
use Rattle.c_parse.specs.declared.lead.TypeLead.TheVariants as type_
use Rattle.c_parse.specs.declared.lead.TypeMark.{TypeMark}
use Rattle.c_parse.specs.declared.lead.TypeMark.TheVariants as type_mark
use Rattle.c_parse.specs.Tok.{Tok}
use Rattle.c_parse.specs.Scope.{Context, span}
use Rattle.c_parse.specs.Marks.{binary, assigner}
use Rattle.c_parse.specs.inner.Reader.{◌>>=◌, Got, Reader, bad, deep, no_room, above, Turn, loop, behind, bytes_at, open_paren, at_open_paren}
use Rattle.c_parse.specs.inner.Reader.{close_paren, at_close_paren, at_open_bracket, close_bracket, at_comma, at_star, name}
use Rattle.c_parse.specs.inner.Leads.{type_at, begins_type, type_mark_at, start_at, lead_at, begins_expr, suffix_at}

-- the readers at one less room
pub record Readers : Type 0 where
  pub level : ℕ → Reader ExprT
  pub whole : Reader ExprT
  pub type : Reader TypeT
  pub run : TypeT → Reader TypeT

-- a run of brackets behind the type a
abbrev pub run_more : Readers → TypeT → ExprT → List Tok → Bool → Result (Got TypeT) Fault
run_more r a e ts false = Ok (ArrayY a e, ts)
run_more r a e ts true = do
  b ← r.run a ts
  Ok (ArrayY b.0 e, b.1)

abbrev pub run_with : Readers → ℕ → TypeT → Reader TypeT
run_with r room a ts = above (type_depth a) room ts (do
  e ← r.level 10 (behind ts)
  mid ← close_bracket e.1
  run_more r a e.0 mid (at_open_bracket mid))

abbrev pub type_mark_by : Readers → ℕ → TypeT → List Tok → TypeMark → Result (Option (Got TypeT)) Fault
type_mark_by r room a ts type_mark.Star = above (type_depth a) room ts (Ok (Some (PointerY a, behind ts)))
type_mark_by r room a ts type_mark.Bracket = do
  b ← run_with r room a ts
  Ok (Some b)
type_mark_by r room a ts type_mark.Nothing = Ok None

abbrev pub type_mark_turn : Readers → ℕ → Turn TypeT
type_mark_turn r room a ts = type_mark_by r room a ts (type_mark_at ts)

abbrev pub base_by : List Tok → TypeLead → Result (Got TypeT) Fault
base_by ts type_.Int = Ok (IntY, behind ts)
base_by ts type_.Bool = Ok (BoolY, behind ts)
base_by ts type_.Named = Ok (NamedY (bytes_at ts), behind ts)
base_by ts type_.Void = if at_star (behind ts) then Ok (VoidY, behind ts) else bad (behind ts)
base_by ts type_.Other = bad ts

abbrev pub base : Context → Reader TypeT
base c ts = base_by ts (type_at c ts)

abbrev pub type_with : Context → Readers → ℕ → Reader TypeT
type_with c r room ts = do
  a ← base c ts
  loop (type_mark_turn r room) a.0 a.1

-- expressions parted by commas
abbrev pub exprs_by : Readers → List ExprT → List Tok → Bool → Result (Option (Got (List ExprT))) Fault
exprs_by r es ts false = Ok None
exprs_by r es ts true = do
  e ← r.whole (behind ts)
  Ok (Some (es ++ e.0 ∷ [], e.1))

abbrev pub exprs_turn : Readers → Turn (List ExprT)
exprs_turn r es ts = exprs_by r es ts (at_comma ts)

abbrev pub exprs_with : Readers → Reader (List ExprT)
exprs_with r ts = do
  e ← r.whole ts
  loop (exprs_turn r) (e.0 ∷ []) e.1

-- a call's arguments, up to and with the parenthesis that closes them
abbrev pub arguments_by : Readers → List Tok → Bool → Result (Got (List ExprT)) Fault
arguments_by r ts true = Ok ([], behind ts)
arguments_by r ts false = do
  es ← exprs_with r ts
  rest ← close_paren es.1
  Ok (es.0, rest)

abbrev pub arguments_with : Readers → Reader (List ExprT)
arguments_with r ts = arguments_by r ts (at_close_paren ts)

-- a name or a call, from the name on
abbrev pub named_by : Context → Readers → List Tok → Bool → Result (Got ExprT) Fault
named_by c r ts false = Ok (NameE (bytes_at ts) (span c ts (behind ts)), behind ts)
named_by c r ts true = do
  es ← arguments_with r (behind (behind ts))
  Ok (CallE (bytes_at ts) (exprs es.0) (span c ts es.1), es.1)

abbrev pub primary_by : Context → Readers → List Tok → Lead → Result (Got ExprT) Fault
primary_by c r ts lead.Name = named_by c r ts (at_open_paren (behind ts))
primary_by c r ts (lead.Value n) = Ok (NumberE n (span c ts (behind ts)), behind ts)
primary_by c r ts lead.Text = Ok (TextE (bytes_at ts) (span c ts (behind ts)), behind ts)
primary_by c r ts lead.Null = Ok (NullE (span c ts (behind ts)), behind ts)
primary_by c r ts lead.Paren = do
  e ← r.whole (behind ts)
  rest ← close_paren e.1
  Ok (ParenE e.0 (span c ts rest), rest)
primary_by c r ts lead.Other = bad ts

abbrev pub primary_with : Context → Readers → Reader ExprT
primary_with c r ts = primary_by c r ts (lead_at c ts)

-- the member that stands behind an arrow or a dot
abbrev pub selection : Bool → ExprT → List ℕ → Span → ExprT
selection false a n sp = MemberE a n sp
selection true a n sp = ArrowE a n sp

-- the expression a, which begins at the tokens at, with an arrow or a dot and a member's name behind it
abbrev pub selected : Context → Bool → List Tok → ExprT → Reader ExprT
selected c is_arrow at a ts = do
  n ← name c (behind ts)
  Ok (selection is_arrow a n.0 (span c at n.1), n.1)

-- a suffix behind the expression a, which begins at the tokens at
abbrev pub suffix_by : Context → Readers → List Tok → ExprT → List Tok → Suffix → Result (Got ExprT) Fault
suffix_by c r at a ts suffix.Index = do
  i ← r.whole (behind ts)
  rest ← close_bracket i.1
  Ok (IndexE a i.0 (span c at rest), rest)
suffix_by c r at a ts suffix.Member = selected c false at a ts
suffix_by c r at a ts suffix.Arrow = selected c true at a ts
suffix_by c r at a ts (suffix.Step op) = Ok (StepE op a (span c at (behind ts)), behind ts)
suffix_by c r at a ts suffix.Nothing = bad ts

abbrev pub is_some_suffix : Suffix → Bool
is_some_suffix suffix.Nothing = false
is_some_suffix _ = true

abbrev pub suffix_turn_by : Context → Readers → ℕ → List Tok → ExprT → List Tok → Bool → Result (Option (Got ExprT)) Fault
suffix_turn_by c r room at a ts false = Ok None
suffix_turn_by c r room at a ts true = above (expr_depth a) room ts (suffix_by c r at a ts (suffix_at ts) >>= λ x. Ok (Some x))

abbrev pub suffix_turn : Context → Readers → ℕ → List Tok → Turn ExprT
suffix_turn c r room at a ts = suffix_turn_by c r room at a ts (is_some_suffix (suffix_at ts))

abbrev pub postfix_with : Context → Readers → ℕ → Reader ExprT
postfix_with c r room ts = do
  a ← primary_with c r ts
  loop (suffix_turn c r room ts) a.0 a.1

abbrev pub unary_by : Context → Readers → ℕ → List Tok → Start → Result (Got ExprT) Fault
unary_by c r room ts (start.Operator op) = do
  a ← r.level zero (behind ts)
  Ok (UnaryE op a.0 (span c ts a.1), a.1)
unary_by c r room ts (start.Step op) = do
  a ← r.level zero (behind ts)
  Ok (StepE op a.0 (span c ts a.1), a.1)
unary_by c r room ts start.Cast = do
  y ← r.type (behind ts)
  mid ← close_paren y.1
  a ← r.level zero mid
  Ok (CastE y.0 a.0 (span c ts a.1), a.1)
unary_by c r room ts start.Size = do
  mid ← open_paren (behind ts)
  y ← r.type mid
  rest ← close_paren y.1
  Ok (SizeOfE y.0 (span c ts rest), rest)
unary_by c r room ts start.Other = postfix_with c r room ts

abbrev pub unary_with : Context → Readers → ℕ → Reader ExprT
unary_with c r room ts = unary_by c r room ts (start_at c ts)

-- the operator of a level, where one comes next
abbrev pub of_level : ℕ → Option (ℕ × BinOp) → Option BinOp
of_level k None = None
of_level k (Some p) = if p.0 == k then Some p.1 else None

abbrev pub operator_at : ℕ → List Tok → Option BinOp
operator_at k [] = None
operator_at k (o ∷ ts) = of_level k (binary o)

abbrev pub operator_by : Context → Readers → ℕ → ℕ → List Tok → ExprT → List Tok → Option BinOp → Result (Option (Got ExprT)) Fault
operator_by c r room k at a ts None = Ok None
operator_by c r room k at a ts (Some op) = above (expr_depth a) room ts (do
  b ← r.level k (behind ts)
  Ok (Some (BinaryE op a b.0 (span c at b.1), b.1)))

-- an operator of level k + 1 behind the expression a, which begins at the tokens at, and its right operand
abbrev pub operator_turn : Context → Readers → ℕ → ℕ → List Tok → Turn ExprT
operator_turn c r room k at a ts = operator_by c r room k at a ts (operator_at (suc k) ts)

unfoldable pub level_with : Context → Readers → ℕ → ℕ → Reader ExprT
level_with c r room zero ts = unary_with c r room ts
level_with c r room (suc k) ts = level_with c r room k ts >>= λ a. loop (operator_turn c r room k ts) a.0 a.1

abbrev pub is_unary : ExprT → Bool
is_unary (BinaryE op a b sp) = false
is_unary (AssignE op a b sp) = false
is_unary _ = true

abbrev pub assigner_at : List Tok → Option (Option BinOp)
assigner_at [] = None
assigner_at (o ∷ ts) = assigner o

-- the assignment that goes on with an expression
abbrev pub assigner_behind : ExprT → List Tok → Option (Option BinOp)
assigner_behind a ts = if is_unary a then assigner_at ts else None

abbrev pub assign_by : Context → Readers → ℕ → List Tok → ExprT → List Tok → Option (Option BinOp) → Result (Got ExprT) Fault
assign_by c r room at a ts None = Ok (a, ts)
assign_by c r room at a ts (Some op) = above (expr_depth a) room ts (do
  b ← r.whole (behind ts)
  Ok (AssignE op a b.0 (span c at b.1), b.1))

abbrev pub whole_with : Context → Readers → ℕ → Reader ExprT
whole_with c r room ts = level_with c r room 10 ts >>= λ a. assign_by c r room ts a.0 a.1 (assigner_behind a.0 a.1)

unfoldable pub readers : Context → ℕ → Readers
readers c zero = record {
  level = λ k ts. no_room (begins_expr c ts) ts;
  whole = λ ts. no_room (begins_expr c ts) ts;
  type = λ ts. no_room (begins_type c ts) ts;
  run = λ a ts. deep ts;
}
readers c (suc n) = record {
  level = λ k ts. level_with c (readers c n) (suc n) k ts;
  whole = λ ts. whole_with c (readers c n) (suc n) ts;
  type = λ ts. type_with c (readers c n) (suc n) ts;
  run = λ a ts. run_with (readers c n) (suc n) a ts;
}

abbrev pub level_at : Context → ℕ → ℕ → Reader ExprT
level_at c room k ts = (readers c room).level k ts

abbrev pub expr_at : Context → ℕ → Reader ExprT
expr_at c room ts = (readers c room).whole ts

abbrev pub type_read : Context → ℕ → Reader TypeT
type_read c room ts = (readers c room).type ts

abbrev pub run_at : Context → ℕ → TypeT → Reader TypeT
run_at c room a ts = (readers c room).run a ts
