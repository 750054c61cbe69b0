-- Each part of an expression takes a token at least, and what goes on with a tree is no less deep than the tree.
use Rattle.std.proofs.Common.{ℕ, ◌<◌, ◌≤◌, List, length, arith}
use Rattle.c_tree.specs.Tree as t
use Rattle.c_tree.specs.Tree.{ExprT, TypeT}
use Rattle.c_tree.specs.Depth.{expr_depth, type_depth}
use Rattle.c_parse.specs.Tok.{Tok}
use Rattle.c_parse.specs.Scope.{Context}
use Rattle.c_parse.specs.Grammar as g
use Rattle.c_parse.specs.Grammar.{Base, Ty, Marks, Run, Expr, Level, Tail, Unary, Suffixes, Primary, Exprs}

base_shorter : {c : Context} {ts rest : List Tok} {y : TypeT} → Base c ts y rest → length rest < length ts
base_shorter g.int = omega arith
base_shorter g.bool = omega arith
base_shorter (g.named h) = omega arith
base_shorter g.void = omega arith

mutual
  pub ty_shorter : {c : Context} {ts rest : List Tok} {y : TypeT} → Ty c ts y rest → length rest < length ts
  ty_shorter (g.type b d) = omega (arith, base_shorter b, marks_up d)

  pub marks_up : {c : Context} {ts rest : List Tok} {a y : TypeT} → Marks c a ts y rest → length rest ≤ length ts
  marks_up g.unmarked = omega arith
  marks_up (g.pointer d) = omega (arith, marks_up d)
  marks_up (g.array r n d) = omega (arith, run_shorter r, marks_up d)

  pub run_shorter : {c : Context} {ts rest : List Tok} {a y : TypeT} → Run c a ts y rest → length rest < length ts
  run_shorter (g.bracket d) = omega (arith, level_shorter d)
  run_shorter (g.brackets d r) = omega (arith, level_shorter d, run_shorter r)

  pub expr_shorter : {c : Context} {ts rest : List Tok} {e : ExprT} → Expr c ts e rest → length rest < length ts
  expr_shorter (g.plain d) = level_shorter d
  expr_shorter (g.assign d h r) = omega (arith, unary_shorter d, expr_shorter r)

  pub level_shorter : {c : Context} {k : ℕ} {ts rest : List Tok} {e : ExprT} → Level c k ts e rest → length rest < length ts
  level_shorter (g.unary d) = unary_shorter d
  level_shorter (g.level d t) = omega (arith, level_shorter d, tail_up t)

  pub tail_up : {c : Context} {k : ℕ} {at ts rest : List Tok} {a e : ExprT} → Tail c k at a ts e rest → length rest ≤ length ts
  tail_up g.ended = omega arith
  tail_up (g.operated h d t) = omega (arith, level_shorter d, tail_up t)

  pub unary_shorter : {c : Context} {ts rest : List Tok} {e : ExprT} → Unary c ts e rest → length rest < length ts
  unary_shorter (g.operator h d) = omega (arith, unary_shorter d)
  unary_shorter (g.step h d) = omega (arith, unary_shorter d)
  unary_shorter (g.cast d u) = omega (arith, ty_shorter d, unary_shorter u)
  unary_shorter (g.size d) = omega (arith, ty_shorter d)
  unary_shorter (g.postfix p s) = omega (arith, primary_shorter p, suffixes_up s)

  pub suffixes_up : {c : Context} {at ts rest : List Tok} {a e : ExprT} → Suffixes c at a ts e rest → length rest ≤ length ts
  suffixes_up g.bare = omega arith
  suffixes_up (g.index d s) = omega (arith, expr_shorter d, suffixes_up s)
  suffixes_up (g.member h s) = omega (arith, suffixes_up s)
  suffixes_up (g.arrow h s) = omega (arith, suffixes_up s)
  suffixes_up (g.stepped h s) = omega (arith, suffixes_up s)

  pub primary_shorter : {c : Context} {ts rest : List Tok} {e : ExprT} → Primary c ts e rest → length rest < length ts
  primary_shorter (g.name h) = omega arith
  primary_shorter (g.call_bare h) = omega arith
  primary_shorter (g.call h d) = omega (arith, exprs_shorter d)
  primary_shorter (g.valued h) = omega arith
  primary_shorter g.text_ = omega arith
  primary_shorter g.null = omega arith
  primary_shorter (g.paren d) = omega (arith, expr_shorter d)

  pub exprs_shorter : {c : Context} {ts rest : List Tok} {es : List ExprT} → Exprs c ts es rest → length rest < length ts
  exprs_shorter (g.last d) = expr_shorter d
  exprs_shorter (g.more d r) = omega (arith, expr_shorter d, exprs_shorter r)

pub run_deeper : {c : Context} {ts rest : List Tok} {a y : TypeT} → Run c a ts y rest → type_depth a < type_depth y
run_deeper (g.bracket d) = omega arith
run_deeper (g.brackets d r) = omega (arith, run_deeper r)

pub marks_deeper : {c : Context} {ts rest : List Tok} {a y : TypeT} → Marks c a ts y rest → type_depth a ≤ type_depth y
marks_deeper g.unmarked = omega arith
marks_deeper (g.pointer d) = omega (arith, marks_deeper d)
marks_deeper (g.array r n d) = omega (arith, run_deeper r, marks_deeper d)

pub tail_deeper : {c : Context} {k : ℕ} {at ts rest : List Tok} {a e : ExprT} → Tail c k at a ts e rest → expr_depth a ≤ expr_depth e
tail_deeper g.ended = omega arith
tail_deeper (g.operated h d t) = omega (arith, tail_deeper t)

pub suffixes_deeper : {c : Context} {at ts rest : List Tok} {a e : ExprT} → Suffixes c at a ts e rest → expr_depth a ≤ expr_depth e
suffixes_deeper g.bare = omega arith
suffixes_deeper (g.index d s) = omega (arith, suffixes_deeper s)
suffixes_deeper (g.member h s) = omega (arith, suffixes_deeper s)
suffixes_deeper (g.arrow h s) = omega (arith, suffixes_deeper s)
suffixes_deeper (g.stepped h s) = omega (arith, suffixes_deeper s)

pub type_deep : (y : TypeT) → 0 < type_depth y
type_deep t.IntY = omega arith
type_deep t.BoolY = omega arith
type_deep t.VoidY = omega arith
type_deep (t.NamedY n) = omega arith
type_deep (t.PointerY y) = omega arith
type_deep (t.ArrayY y e) = omega arith

pub expr_deep : (e : ExprT) → 0 < expr_depth e
expr_deep (t.NameE n sp) = omega arith
expr_deep (t.NumberE n sp) = omega arith
expr_deep (t.TextE n sp) = omega arith
expr_deep (t.NullE sp) = omega arith
expr_deep (t.ParenE a sp) = omega arith
expr_deep (t.UnaryE op a sp) = omega arith
expr_deep (t.BinaryE op a b sp) = omega arith
expr_deep (t.AssignE op a b sp) = omega arith
expr_deep (t.StepE op a sp) = omega arith
expr_deep (t.IndexE a b sp) = omega arith
expr_deep (t.MemberE a n sp) = omega arith
expr_deep (t.ArrowE a n sp) = omega arith
expr_deep (t.CallE f es sp) = omega arith
expr_deep (t.CastE y a sp) = omega arith
expr_deep (t.SizeOfE y sp) = omega arith
