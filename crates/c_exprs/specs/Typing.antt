-- The typing of expressions: an equation for each form, the parts from left to right, then the rules of the node. The texts so far
-- come in, and go out with those of the part.
use Rattle.std.specs.Prelude.{◌+◌, Bool, true, false, List, length, Some, None, Result, Ok}
use Rattle.c_tree.specs.declared.span.Span.{Span}
use Rattle.c_tree.specs.Tree.{ExprT, NameE, NumberE, TextE, NullE, ParenE, UnaryE, BinaryE, AssignE, StepE, IndexE, MemberE, ArrowE, CallE, CastE}
use Rattle.c_tree.specs.Tree.{SizeOfE, ExprTs, NoE, MoreE, TypeT}
use Rattle.c_tree.specs.Tree as tree
use Rattle.c_types.specs.Types.{Ty, VoidY, IntY, BoolY, PointerY, ArrayY}
use Rattle.c_types.specs.Typed.{TExprT, Typed, NumberK, NullK, LiteralK, UnaryK, BinaryK, AssignK, StepK, IndexK, CastK, TExprTs, NoX, MoreX}
use Rattle.c_rules.specs.declared.code.Code.TheVariants.{NotConstant}
use Rattle.c_rules.specs.Nodes.{needs_place, unary_rule, binary_rule, assign_rule, compound_rule, step_rule, index_rule, cast_rule, size_rule, array_rule}
use Rattle.c_exprs.specs.Env.{Text, Ctx}
use Rattle.c_exprs.specs.declared.error.Fault.{Fault}
use Rattle.c_exprs.specs.Faults.{◌>>=◌, placed, at_node, known, with_text}
use Rattle.c_exprs.specs.Nodes.{type_of_typed, span_of, is_place, value_rule, name_tree, named_type, member_tree, arrow_tree, constant}
use Rattle.c_exprs.specs.Calls.{names_port, call_node}

abbrev pub Typer : Type 0 → Type 0
Typer A = Result (A × List Text) Fault

-- an expression whose value is asked for
unfoldable pub as_value : Ctx → Span → Typer TExprT → Typer TExprT
as_value c s r = do
  x ← r
  _ ← at_node s (value_rule c.layouts c.whole (type_of_typed x.0))
  Ok x

-- an expression that is kept as it is, or whose value is asked for
unfoldable pub as_used : Ctx → Span → Bool → Typer TExprT → Typer TExprT
as_used c s true r = r
as_used c s false r = as_value c s r

-- a text is an array of its words, the last one 0
abbrev pub text_tree : Span → List Text → Text → Typer TExprT
text_tree s ts t = do
  k ← with_text s ts t
  Ok (Typed (LiteralK k.0) (ArrayY IntY (length t + 1)) s, k.1)

abbrev mutual
  pub typed : Ctx → List Text → ExprT → Typer TExprT
  typed c ts (NameE n s) = do
    x ← placed s (name_tree c n s)
    Ok (x, ts)
  typed c ts (NumberE n s) = Ok (Typed (NumberK n) IntY s, ts)
  typed c ts (TextE t s) = text_tree s ts t
  typed c ts (NullE s) = Ok (Typed NullK (PointerY VoidY) s, ts)
  typed c ts (ParenE a s) = do
    x ← typed c ts a
    Ok (x.0, x.1)
  typed c ts (UnaryE op a s) = do
    x ← as_used c (span_of a) (needs_place op) (typed c ts a)
    u ← at_node s (unary_rule op (type_of_typed x.0) (is_place x.0))
    Ok (Typed (UnaryK op x.0) u s, x.1)
  typed c ts (BinaryE op a b s) = do
    x ← as_value c (span_of a) (typed c ts a)
    y ← as_value c (span_of b) (typed c x.1 b)
    u ← at_node s (binary_rule c.whole op (type_of_typed x.0) (type_of_typed y.0))
    Ok (Typed (BinaryK op x.0 y.0) u s, y.1)
  typed c ts (AssignE None a b s) = do
    x ← typed c ts a
    y ← as_value c (span_of b) (typed c x.1 b)
    u ← at_node s (assign_rule c.layouts c.whole (type_of_typed x.0) (is_place x.0) (type_of_typed y.0))
    Ok (Typed (AssignK None x.0 y.0) u s, y.1)
  typed c ts (AssignE (Some op) a b s) = do
    x ← typed c ts a
    y ← as_value c (span_of b) (typed c x.1 b)
    u ← at_node s (compound_rule c.whole op (type_of_typed x.0) (is_place x.0) (type_of_typed y.0))
    Ok (Typed (AssignK (Some op) x.0 y.0) u s, y.1)
  typed c ts (StepE op a s) = do
    x ← typed c ts a
    u ← at_node s (step_rule c.whole op (type_of_typed x.0) (is_place x.0))
    Ok (Typed (StepK op x.0) u s, x.1)
  typed c ts (IndexE a b s) = do
    x ← as_value c (span_of a) (typed c ts a)
    y ← as_value c (span_of b) (typed c x.1 b)
    u ← at_node s (index_rule c.whole (type_of_typed x.0) (type_of_typed y.0))
    Ok (Typed (IndexK x.0 y.0) u s, y.1)
  typed c ts (MemberE a n s) = do
    x ← typed c ts a
    y ← placed s (member_tree c s x.0 n)
    Ok (y, x.1)
  typed c ts (ArrowE a n s) = do
    x ← as_value c (span_of a) (typed c ts a)
    y ← placed s (arrow_tree c s x.0 n)
    Ok (y, x.1)
  typed c ts (CallE n args s) = do
    xs ← all_valued c ts (names_port c n) args
    u ← placed s (call_node c n args xs.0)
    Ok (Typed u.0 u.1 s, xs.1)
  typed c ts (CastE to a s) = do
    t ← type_of c ts s to
    x ← as_value c (span_of a) (typed c t.1 a)
    u ← at_node s (cast_rule (type_of_typed x.0) t.0)
    Ok (Typed (CastK x.0) u s, x.1)
  typed c ts (SizeOfE of s) = do
    t ← type_of c ts s of
    n ← at_node s (size_rule c.layouts c.whole t.0)
    Ok (Typed (NumberK n) IntY s, t.1)

  -- the arguments of a call; a first one that names a port has no type
  pub all_valued : Ctx → List Text → Bool → ExprTs → Typer TExprTs
  all_valued c ts named NoE = Ok (NoX, ts)
  all_valued c ts true (MoreE e rest) = do
    xs ← all_valued c ts false rest
    Ok (xs.0, xs.1)
  all_valued c ts false (MoreE e rest) = do
    x ← as_value c (span_of e) (typed c ts e)
    xs ← all_valued c x.1 false rest
    Ok (MoreX x.0 xs.0, xs.1)

  -- A type has no tokens of its own: s are those of the node that it stands in. The counts of arrays come from left to right, then the arrays from the inside.
  pub type_of : Ctx → List Text → Span → TypeT → Typer Ty
  type_of c ts s tree.IntY = Ok (IntY, ts)
  type_of c ts s tree.BoolY = Ok (BoolY, ts)
  type_of c ts s tree.VoidY = Ok (VoidY, ts)
  type_of c ts s (tree.NamedY n) = do
    t ← placed s (named_type c n)
    Ok (t, ts)
  type_of c ts s (tree.PointerY to) = do
    t ← type_of c ts s to
    Ok (PointerY t.0, t.1)
  type_of c ts s (tree.ArrayY of n) = do
    x ← as_value c (span_of n) (typed c ts n)
    k ← known (span_of n) NotConstant (constant x.0)
    t ← type_of c x.1 s of
    u ← at_node (span_of n) (array_rule c.layouts c.whole t.0 k)
    Ok (u, t.1)
