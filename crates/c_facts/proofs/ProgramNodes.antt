-- A typed program has at most as many nodes as the tree of its unit.
use Rattle.std.proofs.Common.{◌≡◌, ℕ, ◌+◌, ◌≤◌, Bool, true, false, List, [], ◌∷◌, ◌++◌, length, sum_by, Option, Some, None, refl, arith}
use Rattle.std.specs.Prelude.{if◌then◌else◌}
use Rattle.std.proofs.lemmas.List.Sums.{sum_by-cons, sum_by-append}
use Rattle.c_tree.specs.declared.span.Span.{Span}
use Rattle.c_tree.specs.Tree.{ExprT, TypeT, InitT, VarT, StmtTs, ItemT}
use Rattle.c_tree.specs.Count.{init_nodes, maybe_init_nodes, var_nodes, vars_nodes, stmts_nodes, maybe_stmts_nodes, item_nodes, unit_nodes}
use Rattle.c_types.specs.Types.{Ty, LayoutT}
use Rattle.c_types.specs.Typed.{TExprT, TInitT, TVarT, VarsZ, TStmtTs}
use Rattle.c_exprs.specs.Env.{Text, Decl, GlobalD}
use Rattle.c_exprs.specs.Env as env
use Rattle.c_stmts.specs.State.{made}
use Rattle.c_check.specs.Reading.{Un, state_in, named, record_entered, enum_entered, with_parameter, with_function, with_init}
use Rattle.c_check.specs.ItemTypes as t
use Rattle.c_check.specs.ItemTypes.{ValueAt, TypeAt, FillsAt, BodyAt, Member, Members, Enumerator, NamedEnumerator, Enumerators, MaybeFillsAt, Global, Globals, Parameter, Parameters, MaybeBody, Item, Items}
use Rattle.c_check.specs.Whole.{WellTyped, unit}
use Rattle.c_types.specs.Programs.{ProgramT}
use Rattle.c_types.specs.Nodes.{filled_nodes, variables_nodes, statement_nodes, statements_nodes, function_nodes, program_nodes}
use Rattle.c_facts.proofs.ExpressionNodes.{fill_few}
use Rattle.c_facts.proofs.StatementNodes.{variables_append, maybe_filled_nodes, filled_var_few, statements_few}

-- the nodes of the initialisers and the functions that are read
abbrev pub read_nodes : Un → ℕ
read_nodes un = sum_by statement_nodes un.inits + sum_by function_nodes un.functions

-- ---- what adds none

chosen_nodes : (n : ℕ) (test : Bool) (a b : Un) → read_nodes a ≡ n → read_nodes b ≡ n → read_nodes (if test then a else b) ≡ n
chosen_nodes n true a b g h = g
chosen_nodes n false a b g h = h

named_nodes : (n : Text) (d : Decl) (un : Un) → read_nodes (named n d un) ≡ read_nodes un
unfolding named
named_nodes n d un = search (arith, chosen_nodes)

record_nodes : (is_union : Bool) (n : Text) (un : Un) → read_nodes (record_entered is_union n un) ≡ read_nodes un
unfolding record_entered
record_nodes is_union n un = search (arith, chosen_nodes)

enum_nodes : (n : Text) (un : Un) → read_nodes (enum_entered n un) ≡ read_nodes un
unfolding enum_entered
enum_nodes n un = search (arith, chosen_nodes)

parameter_nodes : (n : Text) (ty : Ty) (words : ℕ) (un : Un) → read_nodes (with_parameter n ty words un) ≡ read_nodes un
unfolding with_parameter
parameter_nodes n ty words un = omega arith

value_at_adds : {un up : Un} {a : ExprT} {x : TExprT} → ValueAt un a x up → read_nodes up ≡ read_nodes un
value_at_adds (t.value_at g) = refl

type_at_adds : {un up : Un} {s : Span} {of : TypeT} {ty : Ty} → TypeAt un s of ty up → read_nodes up ≡ read_nodes un
type_at_adds (t.type_at g) = refl

member_adds : {un up : Un} {l m : LayoutT} {v : VarT} → Member un l v m up → read_nodes up ≡ read_nodes un
member_adds (t.member y h) = type_at_adds y

members_add : {un up : Un} {l m : LayoutT} {vs : List VarT} → Members un l vs m up → read_nodes up ≡ read_nodes un
members_add t.no_members = refl
members_add (t.more_members g k) = omega (arith, member_adds g, members_add k)

enumerator_adds : {un up : Un} {next k : ℕ} {e : Option ExprT} → Enumerator un next e k up → read_nodes up ≡ read_nodes un
enumerator_adds t.counted = refl
enumerator_adds (t.valued g h) = value_at_adds g

named_enumerator_adds : {un : Un} {s : Span} {next after : ℕ} {v : Text × Option ExprT} {up : Un} → NamedEnumerator un s next v after up → read_nodes up ≡ read_nodes un
named_enumerator_adds (t.named_enumerator {up = up} {v = v} {k = k} g h) = omega (arith, enumerator_adds g, named_nodes v.0 (env.ConstantD k) up)

enumerators_add : {un up : Un} {s : Span} {next : ℕ} {vs : List (Text × Option ExprT)} {x : Unit {0}} → Enumerators un s next vs x up → read_nodes up ≡ read_nodes un
enumerators_add t.no_enumerators = refl
enumerators_add (t.more_enumerators g k) = omega (arith, named_enumerator_adds g, enumerators_add k)

-- ---- globals

-- What is read adds nothing by itself, and has at most as many nodes as its tree.
record IsRead (un : Un) (n m : ℕ) (up : Un) : Type 0 where
  pub adds : read_nodes up ≡ read_nodes un
  pub few : n ≤ m

fill_at_few : {un up : Un} {ty : Ty} {a : InitT} {x : TInitT} → FillsAt un ty a x up → IsRead un (filled_nodes x) (init_nodes a) up
fill_at_few (t.fill_at g) = record { adds = refl; few = fill_few g }

maybe_fills_few : {un up : Un} {ty : Ty} {a : Option InitT} {x : Option TInitT} → MaybeFillsAt un ty a x up → IsRead un (maybe_filled_nodes x) (maybe_init_nodes a) up
maybe_fills_few t.not_filled = record { adds = refl; few = omega arith }
maybe_fills_few (t.is_filled g) = fill_at_few g

global_few : {un up : Un} {v : VarT} {xs : List TVarT} → Global un v xs up → IsRead un (variables_nodes xs) (var_nodes v) up
global_few {un = un} (t.global {up = up} {v = v} {t = ty} {i = i} y g h) =
    let f : IsRead (named v.name (GlobalD (length un.globals) ty) up) (maybe_filled_nodes i) (maybe_init_nodes v.init) _ = maybe_fills_few g in
    record {
      adds = omega (arith, f.adds, named_nodes v.name (GlobalD (length un.globals) ty) up, type_at_adds y);
      few = omega (arith, f.few, filled_var_few true (length un.globals) ty i);
    }

globals_few : {un up : Un} {vs : List VarT} {xs : List TVarT} → Globals un vs xs up → IsRead un (variables_nodes xs) (vars_nodes vs) up
globals_few t.no_globals = record { adds = refl; few = omega arith }
globals_few (t.more_globals {x = x} {xs = xs} g k) =
    let here = global_few g in
    let later = globals_few k in
    record { adds = omega (arith, here.adds, later.adds); few = omega (arith, here.few, later.few, variables_append x xs) }

-- ---- functions

parameter_adds : {un : Un} {v : VarT} {ty : Ty} {up : Un} → Parameter un v ty up → read_nodes up ≡ read_nodes un
parameter_adds (t.parameter {up = up} {v = v} {t = ty} {n = n} y h) = omega (arith, parameter_nodes v.name ty n up, type_at_adds y)

parameters_few : {un up : Un} {vs : List VarT} {tys : List Ty} → Parameters un vs tys up → IsRead un (length tys) (vars_nodes vs) up
parameters_few t.no_parameters = record { adds = refl; few = omega arith }
parameters_few (t.more_parameters g k) =
    let here = parameter_adds g in
    let later = parameters_few k in
    record { adds = omega (arith, here, later.adds); few = omega (arith, later.few) }

-- the nodes of a body, where there is one
abbrev maybe_body_nodes : Option TStmtTs → ℕ
maybe_body_nodes None = 0
maybe_body_nodes (Some body) = statements_nodes body

body_few : {un up : Un} {ty : Ty} {a : StmtTs} {x : TStmtTs} → BodyAt un ty a x up → IsRead un (statements_nodes x) (stmts_nodes a) up
body_few (t.body_at g) = record { adds = refl; few = statements_few g }

maybe_body_few : {un up : Un} {ty : Ty} {a : Option StmtTs} {x : Option TStmtTs} → MaybeBody un ty a x up → IsRead un (maybe_body_nodes x) (maybe_stmts_nodes a) up
maybe_body_few t.no_body = record { adds = refl; few = omega arith }
maybe_body_few (t.has_body g) = body_few g

-- what is put behind a list
last_added : {A : Type 0} (f : A → ℕ) (xs : List A) (x : A) → sum_by f (xs ++ x ∷ []) ≡ sum_by f xs + f x
last_added f xs x = omega (arith, sum_by-append f xs (x ∷ []), sum_by-cons f x [])

init_nodes_added : (xs : List TVarT) (un : Un) → read_nodes (with_init xs un) ≡ read_nodes un + variables_nodes xs + 1
init_nodes_added xs un = omega (arith, last_added statement_nodes un.inits (VarsZ xs))

function_nodes_added : (n : Text) (tys : List Ty) (ty : Ty) (o : Option TStmtTs) (un : Un) → read_nodes (with_function n tys ty o un) ≤ read_nodes un + length tys + maybe_body_nodes o + 1
function_nodes_added n tys ty None un = omega arith
function_nodes_added n tys ty (Some body) un = omega (arith, last_added function_nodes un.functions (record { name = n; params = tys; locals = un.sizes; made = made (state_in un); gives = ty; body = body }))

-- ---- items

pub item_few : {un up : Un} {i : ItemT} {x : Unit {0}} → Item un i x up → read_nodes up ≤ read_nodes un + item_nodes i
item_few {un = un} (t.record_name {is_union = is_union} {name = name} h) = omega (arith, record_nodes is_union name un)
item_few {un = un} (t.record_members {is_union = is_union} {name = name} g h) = omega (arith, members_add g, record_nodes is_union name un)
item_few {un = un} (t.enumeration {name = name} g h) = omega (arith, enumerators_add g, enum_nodes name un)
item_few (t.type_name {up = up} {name = name} {t = ty} y h) = omega (arith, type_at_adds y, named_nodes name (env.TypeD ty) up)
item_few (t.objects {up = up} {xs = xs} g) =
    let all = globals_few g in
    omega (arith, all.adds, all.few, init_nodes_added xs up)
item_few (t.function {up = up} {uq = uq} {ur = ur} {name = name} {t = ty} {ps = ps} {x = x} y g k h) =
    let params = parameters_few g in
    let body = maybe_body_few k in
    omega (arith, type_at_adds y, params.adds, params.few, named_nodes name (env.FunctionD ps ty) uq, body.adds, body.few, function_nodes_added name ps ty x ur)

pub items_few : {un up : Un} {all : List ItemT} {x : Unit {0}} → Items un all x up → read_nodes up ≤ read_nodes un + unit_nodes all
items_few t.no_items = omega arith
items_few (t.more_items g k) = omega (arith, item_few g, items_few k)

pub programs_have_few_nodes : (all : List ItemT) (p : ProgramT) → WellTyped all p → program_nodes p ≤ unit_nodes all
programs_have_few_nodes all p (unit g h) = omega (arith, items_few g)
