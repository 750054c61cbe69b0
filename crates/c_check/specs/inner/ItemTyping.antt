-- The typing of items: an equation for each form, the parts in the order of reading, then the rules of the item.
use Rattle.std.specs.Prelude.{ℕ, Bool, true, false, List, [], ◌∷◌, ◌++◌, length, Option, Some, None, Result, Ok}
use Rattle.kit_base.specs.Word.{add}
use Rattle.c_tree.specs.declared.span.Span.{Span}
use Rattle.c_tree.specs.Tree.{ExprT, TypeT, InitT, VarT, StmtTs, ItemT, RecordD, EnumD, TypedefD, VarsD, FunctionD}
use Rattle.c_types.specs.Types.{Ty, LayoutT}
use Rattle.c_types.specs.Typed.{TExprT, TInitT, TVarT, TStmtTs}
use Rattle.c_types.specs.Sizes.{no_layout, with_member}
use Rattle.c_rules.specs.declared.code.Code.TheVariants.{Twice, NotConstant}
use Rattle.c_exprs.specs.Env.{Text, TypeD, ConstantD, GlobalD}
use Rattle.c_exprs.specs.Env as env
use Rattle.c_exprs.specs.declared.error.Fault.{Fault}
use Rattle.c_exprs.specs.Faults.{◌>>=◌, placed, known, demanded}
use Rattle.c_exprs.specs.Nodes.{span_of, constant}
use Rattle.c_stmts.specs.State.{filled_var}
use Rattle.c_check.specs.Reading.{Un, under, function_under, state_in, with_state, with_texts, is_free, named, record_entered, record_number}
use Rattle.c_check.specs.Reading.{member_size, members_declared, with_layout, enum_entered, global_size, with_global, with_init, begun}
use Rattle.c_check.specs.Reading.{parameter_size, with_parameter, function_rules, with_function}
use Rattle.c_exprs.specs.Typing.{as_value, typed, type_of}
use Rattle.c_stmts.specs.InitTyping.{filled_by}
use Rattle.c_stmts.specs.StatementTyping.{statements}

abbrev pub Reads : Type 0 → Type 0
Reads A = Result (A × Un) Fault

-- the value of an expression outside functions
unfoldable pub value_at : Un → ExprT → Reads TExprT
value_at un e = do
  x ← as_value (under un) (span_of e) (typed (under un) un.texts e)
  Ok (x.0, with_texts un x.1)

-- the type that a type tree names, at a node of this span
unfoldable pub type_at : Un → Span → TypeT → Reads Ty
type_at un s of = do
  x ← type_of (under un) un.texts s of
  Ok (x.0, with_texts un x.1)

-- the initialiser of a global of this type
unfoldable pub fill_at : Un → Ty → InitT → Reads TInitT
fill_at un target i = do
  x ← filled_by (under un) un.texts true (Some target) i
  Ok (x.0, with_texts un x.1)

-- the body of a function with this result
unfoldable pub body_at : Un → Ty → StmtTs → Reads TStmtTs
body_at un gives body = do
  x ← statements (function_under un gives) (state_in un) false false body
  Ok (x.0, with_state un x.1)

-- a member, behind these
unfoldable pub member : Un → LayoutT → VarT → Reads LayoutT
member un seen v = do
  t ← type_at un v.span v.ty
  n ← placed v.span (member_size t.1 seen v.name t.0)
  Ok (with_member seen v.name t.0 n, t.1)

abbrev pub members : Un → LayoutT → List VarT → Reads LayoutT
members un seen [] = Ok (seen, un)
members un seen (v ∷ vs) = do
  x ← member un seen v
  xs ← members x.1 x.0 vs
  Ok (xs.0, xs.1)

-- the number of an enumerator; one without a value has the next number
unfoldable pub enumerator : Un → ℕ → Option ExprT → Reads ℕ
enumerator un next None = Ok (next, un)
enumerator un next (Some e) = do
  x ← value_at un e
  k ← known (span_of e) NotConstant (constant x.0)
  Ok (k, x.1)

-- an enumerator under its name, in an item of this span, and the number behind its own
unfoldable pub named_enumerator : Un → Span → ℕ → Text × Option ExprT → Reads ℕ
named_enumerator un s next v = do
  k ← enumerator un next v.1
  _ ← demanded s Twice (is_free v.0 k.1)
  Ok (add k.0 1, named v.0 (ConstantD k.0) k.1)

-- the enumerators of an enumeration, in items of this span
abbrev pub enumerators : Un → Span → ℕ → List (Text × Option ExprT) → Reads (Unit {0})
enumerators un s next [] = Ok (tt, un)
enumerators un s next (v ∷ vs) = do
  n ← named_enumerator un s next v
  x ← enumerators n.1 s n.0 vs
  Ok (tt, x.1)

unfoldable pub maybe_fill_at : Un → Ty → Option InitT → Reads (Option TInitT)
maybe_fill_at un target None = Ok (None, un)
maybe_fill_at un target (Some i) = do
  x ← fill_at un target i
  Ok (Some x.0, x.1)

-- A global: its type, its name, its initialiser, then the rules of the global. The name holds in the initialiser.
unfoldable pub global : Un → VarT → Reads (List TVarT)
global un v = do
  t ← type_at un v.span v.ty
  i ← maybe_fill_at (named v.name (GlobalD (length un.globals) t.0) t.1) t.0 v.init
  n ← placed v.span (global_size i.1 (is_free v.name un) t.0)
  Ok (filled_var true (length un.globals) t.0 i.0, with_global v.name n i.1)

abbrev pub globals : Un → List VarT → Reads (List TVarT)
globals un [] = Ok ([], un)
globals un (v ∷ vs) = do
  x ← global un v
  xs ← globals x.1 vs
  Ok (x.0 ++ xs.0, xs.1)

-- a parameter
unfoldable pub parameter : Un → VarT → Reads Ty
parameter un v = do
  t ← type_at un v.span v.ty
  n ← placed v.span (parameter_size t.1 v.name t.0)
  Ok (t.0, with_parameter v.name t.0 n t.1)

abbrev pub parameters : Un → List VarT → Reads (List Ty)
parameters un [] = Ok ([], un)
parameters un (v ∷ vs) = do
  x ← parameter un v
  xs ← parameters x.1 vs
  Ok (x.0 ∷ xs.0, xs.1)

-- a body that may be missing
unfoldable pub maybe_body : Un → Ty → Option StmtTs → Reads (Option TStmtTs)
maybe_body un gives None = Ok (None, un)
maybe_body un gives (Some body) = do
  x ← body_at un gives body
  Ok (Some x.0, x.1)

-- An item, in the order of reading. A function's own rules come behind its body.
unfoldable pub item : Un → ItemT → Reads (Unit {0})
item un (RecordD is_union name None s) = do
  n ← placed s (record_number is_union name (record_entered is_union name un))
  Ok (tt, record_entered is_union name un)
item un (RecordD is_union name (Some vs) s) = do
  l ← members (record_entered is_union name un) (no_layout is_union) vs
  n ← placed s (members_declared is_union name l.1 l.0)
  Ok (tt, with_layout n l.0 l.1)
item un (EnumD name vs s) = do
  x ← enumerators (enum_entered name un) s 0 vs
  _ ← demanded s Twice (is_free name un)
  Ok (tt, x.1)
item un (TypedefD of name s) = do
  t ← type_at un s of
  _ ← demanded s Twice (is_free name un)
  Ok (tt, named name (TypeD t.0) t.1)
item un (VarsD vs s) = do
  xs ← globals un vs
  Ok (tt, with_init xs.0 xs.1)
item un (FunctionD of name vs o s) = do
  t ← type_at un s of
  ps ← parameters (begun t.1) vs
  x ← maybe_body (named name (env.FunctionD ps.0 t.0) ps.1) t.0 o
  _ ← placed s (function_rules x.1 name ps.0 t.0 o)
  Ok (tt, with_function name ps.0 t.0 x.0 x.1)

abbrev pub items : Un → List ItemT → Reads (Unit {0})
items un [] = Ok (tt, un)
items un (i ∷ all) = do
  x ← item un i
  xs ← items x.1 all
  Ok (tt, xs.1)
