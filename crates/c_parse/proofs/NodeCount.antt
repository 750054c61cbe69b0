-- A unit has at most as many nodes as tokens: each node answers for a token of its own.
use Rattle.std.proofs.Common.{◌≡◌, ℕ, ◌+◌, ◌<◌, ◌≤◌, List, [], ◌∷◌, ◌++◌, length, Option, arith}
use Rattle.c_tree.specs.Tree.{ExprT, TypeT, InitT, VarT, StmtT, MaybeS, ArmT, ItemT}
use Rattle.c_tree.specs.View.{exprs, inits, stmts, arms}
use Rattle.c_tree.specs.Count.{expr_nodes, exprs_nodes, init_nodes, inits_nodes, maybe_expr_nodes, var_nodes, vars_nodes, stmt_nodes, maybe_nodes, stmts_nodes, arm_nodes, arms_nodes, values_nodes, item_nodes, unit_nodes}
use Rattle.c_parse.specs.Tok.{Tok}
use Rattle.c_parse.specs.Scope.{Context}
use Rattle.c_parse.specs.Grammar as g
use Rattle.c_parse.specs.Grammar.{Ty, Expr, Level, Tail, Unary, Suffixes, Primary, Exprs}
use Rattle.c_parse.specs.Lists as l
use Rattle.c_parse.specs.Lists.{Separated, ListEnd}
use Rattle.c_parse.specs.Declarations as d
use Rattle.c_parse.specs.Declarations.{Init, Inits, Field, Var, Vars, Member, Members, Param, Params, Value}
use Rattle.c_parse.specs.Statements as s
use Rattle.c_parse.specs.Statements.{Maybe, First, Stmt, Stmts, Arm, Arms}
use Rattle.c_parse.specs.Units as u
use Rattle.c_parse.specs.Units.{Gives, Item, Items, Unit_}
use Rattle.c_parse.proofs.Sizes.{ty_shorter}
use Rattle.c_parse.proofs.DeclReads.{list_end_shorter}
use Rattle.c_parse.proofs.UnitReads.{gives_shorter}

mutual
  expr_few : {c : Context} {ts rest : List Tok} {e : ExprT} → Expr c ts e rest → expr_nodes e + length rest ≤ length ts
  expr_few (g.plain h) = level_few h
  expr_few (g.assign h o k) = omega (arith, unary_few h, expr_few k)

  level_few : {c : Context} {k : ℕ} {ts rest : List Tok} {e : ExprT} → Level c k ts e rest → expr_nodes e + length rest ≤ length ts
  level_few (g.unary h) = unary_few h
  level_few (g.level h t) = omega (arith, level_few h, tail_few t)

  tail_few : {c : Context} {k : ℕ} {at ts rest : List Tok} {a e : ExprT} → Tail c k at a ts e rest → expr_nodes e + length rest ≤ expr_nodes a + length ts
  tail_few g.ended = omega arith
  tail_few (g.operated o h t) = omega (arith, level_few h, tail_few t)

  unary_few : {c : Context} {ts rest : List Tok} {e : ExprT} → Unary c ts e rest → expr_nodes e + length rest ≤ length ts
  unary_few (g.operator o h) = omega (arith, unary_few h)
  unary_few (g.step o h) = omega (arith, unary_few h)
  unary_few (g.cast y h) = omega (arith, ty_shorter y, unary_few h)
  unary_few (g.size y) = omega (arith, ty_shorter y)
  unary_few (g.postfix p k) = omega (arith, primary_few p, suffixes_few k)

  suffixes_few : {c : Context} {at ts rest : List Tok} {a e : ExprT} → Suffixes c at a ts e rest → expr_nodes e + length rest ≤ expr_nodes a + length ts
  suffixes_few g.bare = omega arith
  suffixes_few (g.index h k) = omega (arith, expr_few h, suffixes_few k)
  suffixes_few (g.member h k) = omega (arith, suffixes_few k)
  suffixes_few (g.arrow h k) = omega (arith, suffixes_few k)
  suffixes_few (g.stepped h k) = omega (arith, suffixes_few k)

  primary_few : {c : Context} {ts rest : List Tok} {e : ExprT} → Primary c ts e rest → expr_nodes e + length rest ≤ length ts
  primary_few (g.name h) = omega arith
  primary_few (g.call_bare h) = omega arith
  primary_few (g.call h k) = omega (arith, exprs_few k)
  primary_few (g.valued h) = omega arith
  primary_few g.text_ = omega arith
  primary_few g.null = omega arith
  primary_few (g.paren h) = omega (arith, expr_few h)

  exprs_few : {c : Context} {ts rest : List Tok} {es : List ExprT} → Exprs c ts es rest → exprs_nodes (exprs es) + length rest ≤ length ts
  exprs_few (g.last h) = omega (arith, expr_few h)
  exprs_few (g.more h k) = omega (arith, expr_few h, exprs_few k)

-- an initial value answers for the token before it too
mutual
  init_few : {c : Context} {ts rest : List Tok} {i : InitT} → Init c ts i rest → init_nodes i + length rest ≤ length ts + 1
  init_few (d.one h) = omega (arith, expr_few h)
  init_few (d.list h end) = omega (arith, inits_few h, list_end_shorter end)

  inits_few : {c : Context} {ts rest : List Tok} {is : List InitT} → Inits c ts is rest → inits_nodes (inits is) + length rest ≤ length ts + 1
  inits_few (d.last_init h) = omega (arith, init_few h)
  inits_few (d.more_inits h k) = omega (arith, init_few h, inits_few k)

field_few : {c : Context} {y : TypeT} {ts rest : List Tok} {v : VarT} → Field c y ts v rest → var_nodes v + length rest ≤ length ts
field_few (d.field h) = omega arith

var_few : {c : Context} {y : TypeT} {ts rest : List Tok} {v : VarT} → Var c y ts v rest → var_nodes v + length rest ≤ length ts
var_few (d.plain_var h) = field_few h
var_few (d.set_var h k) = omega (arith, init_few k)

fields_few : {c : Context} {y : TypeT} {ts rest : List Tok} {vs : List VarT} → Separated (Field c y) ts vs rest → vars_nodes vs + length rest ≤ length ts
fields_few (l.last h) = omega (arith, field_few h)
fields_few (l.more h k) = omega (arith, field_few h, fields_few k)

listed_few : {c : Context} {y : TypeT} {ts rest : List Tok} {vs : List VarT} → Separated (Var c y) ts vs rest → vars_nodes vs + length rest ≤ length ts
listed_few (l.last h) = omega (arith, var_few h)
listed_few (l.more h k) = omega (arith, var_few h, listed_few k)

-- the type's token is left over
vars_few : {c : Context} {ts rest : List Tok} {vs : List VarT} → Vars c ts vs rest → vars_nodes vs + length rest < length ts
vars_few (d.vars y h) = omega (arith, ty_shorter y, listed_few h)

member_few : {c : Context} {ts rest : List Tok} {vs : List VarT} → Member c ts vs rest → vars_nodes vs + length rest ≤ length ts
member_few (d.member y h) = omega (arith, ty_shorter y, fields_few h)

vars_nodes-append : (vs us : List VarT) → vars_nodes (vs ++ us) ≡ vars_nodes vs + vars_nodes us
vars_nodes-append [] us = omega arith
vars_nodes-append (v ∷ vs) us = omega (arith, vars_nodes-append vs us)

members_few : {c : Context} {ts rest : List Tok} {vs : List VarT} → Members c ts vs rest → vars_nodes vs + length rest ≤ length ts
members_few (d.last_member h) = member_few h
members_few (d.more_members {vs = vs} {us = us} h k) = omega (arith, member_few h, members_few k, vars_nodes-append vs us)

param_few : {c : Context} {ts rest : List Tok} {v : VarT} → Param c ts v rest → var_nodes v + length rest ≤ length ts
param_few (d.param y h) = omega (arith, ty_shorter y, field_few h)

separated_few : {c : Context} {ts rest : List Tok} {vs : List VarT} → Separated (Param c) ts vs rest → vars_nodes vs + length rest ≤ length ts
separated_few (l.last h) = omega (arith, param_few h)
separated_few (l.more h k) = omega (arith, param_few h, separated_few k)

params_few : {c : Context} {ts rest : List Tok} {vs : List VarT} → Params c ts vs rest → vars_nodes vs + length rest ≤ length ts
params_few d.no_params = omega arith
params_few d.void_params = omega arith
params_few (d.some_params h) = separated_few h

value_few : {c : Context} {ts rest : List Tok} {v : List ℕ × Option ExprT} → Value c ts v rest → maybe_expr_nodes v.1 + length rest ≤ length ts
value_few (d.plain_value h) = omega arith
value_few (d.set_value h k) = omega (arith, level_few k)

values_few : {c : Context} {ts rest : List Tok} {vs : List (List ℕ × Option ExprT)} → Separated (Value c) ts vs rest → values_nodes vs + length rest ≤ length ts
values_few (l.last h) = omega (arith, value_few h)
values_few (l.more h k) = omega (arith, value_few h, values_few k)

maybe_few : {c : Context} {ts rest : List Tok} {e : Option ExprT} → Maybe c ts e rest → maybe_expr_nodes e + length rest ≤ length ts
maybe_few s.maybe_none = omega arith
maybe_few (s.maybe_some h) = expr_few h

-- an expression statement in a `for` answers for the parenthesis before it
first_few : {c : Context} {ts rest : List Tok} {f : MaybeS} → First c ts f rest → maybe_nodes f + length rest ≤ length ts + 1
first_few s.first_none = omega arith
first_few (s.first_vars h) = omega (arith, vars_few h)
first_few (s.first_expr h) = omega (arith, expr_few h)

mutual
  stmt_few : {c : Context} {ts rest : List Tok} {x : StmtT} → Stmt c ts x rest → stmt_nodes x + length rest ≤ length ts
  stmt_few (s.block h) = omega (arith, stmts_few h)
  stmt_few s.empty = omega arith
  stmt_few (s.vars h) = omega (arith, vars_few h)
  stmt_few (s.expr h) = omega (arith, expr_few h)
  stmt_few (s.if_only e h free) = omega (arith, expr_few e, stmt_few h)
  stmt_few (s.if_else e h k) = omega (arith, expr_few e, stmt_few h, stmt_few k)
  stmt_few (s.while e h) = omega (arith, expr_few e, stmt_few h)
  stmt_few (s.do_while h e) = omega (arith, expr_few e, stmt_few h)
  stmt_few (s.for f x y h) = omega (arith, first_few f, maybe_few x, maybe_few y, stmt_few h)
  stmt_few (s.switch e h) = omega (arith, expr_few e, arms_few h)
  stmt_few (s.return e) = omega (arith, maybe_few e)
  stmt_few s.break = omega arith
  stmt_few s.continue = omega arith

  stmts_few : {c : Context} {ts rest : List Tok} {xs : List StmtT} → Stmts c ts xs rest → stmts_nodes (stmts xs) + length rest ≤ length ts
  stmts_few s.no_stmts = omega arith
  stmts_few (s.more_stmts h k) = omega (arith, stmt_few h, stmts_few k)

  arm_few : {c : Context} {ts rest : List Tok} {x : ArmT} → Arm c ts x rest → arm_nodes x + length rest ≤ length ts
  arm_few (s.case e) = omega (arith, level_few e)
  arm_few s.default = omega arith
  arm_few (s.arm_stmt h) = stmt_few h

  arms_few : {c : Context} {ts rest : List Tok} {xs : List ArmT} → Arms c ts xs rest → arms_nodes (arms xs) + length rest ≤ length ts
  arms_few s.no_arms = omega arith
  arms_few (s.more_arms h k) = omega (arith, arm_few h, arms_few k)

item_few : {c : Context} {ts rest : List Tok} {x : ItemT} → Item c ts x rest → item_nodes x + length rest ≤ length ts
item_few (u.record_ e h) = omega (arith, members_few h)
item_few (u.forward e) = omega arith
item_few (u.enum h end) = omega (arith, values_few h, list_end_shorter end)
item_few (u.typedef y) = omega (arith, ty_shorter y)
item_few (u.vars h) = omega (arith, vars_few h)
item_few (u.declared y h p) = omega (arith, gives_shorter y, params_few p)
item_few (u.defined y h p b) = omega (arith, gives_shorter y, params_few p, stmts_few b)

items_few : {c : Context} {ts : List Tok} {ds : List ItemT} → Items c ts ds → unit_nodes ds ≤ length ts
items_few u.end = omega arith
items_few (u.more h k) = omega (arith, item_few h, items_few k)

pub unit_few : (ts : List Tok) (ds : List ItemT) → Unit_ ts ds → unit_nodes ds ≤ length ts
unit_few ts ds h = items_few h
