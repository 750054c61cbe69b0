-- How many structures, enumerations, globals and functions are read: at most as many as nodes.
use Rattle.std.proofs.Common.{◌≡◌, ℕ, ◌+◌, ◌≤◌, Bool, true, false, List, [], ◌∷◌, ◌++◌, length, map, Option, Some, None, Ok, Err, refl, sym, ap, ◌∙◌, subst, arith, length-append, length-set}
use Rattle.std.specs.Prelude.{if◌then◌else◌}
use Rattle.c_tree.specs.declared.span.Span.{Span}
use Rattle.c_tree.specs.Tree.{ExprT, TypeT, InitT, VarT, StmtTs, ItemT, RecordD, EnumD, TypedefD, VarsD, FunctionD}
use Rattle.c_tree.specs.View as view
use Rattle.c_tree.specs.declared.item.Item.{Item as ItemOf}
use Rattle.c_tree.specs.declared.variable.Var.{Var}
use Rattle.c_tree.specs.Count.{var_nodes, vars_nodes, item_nodes, unit_nodes}
use Rattle.c_types.specs.Types.{Ty, EnumY, LayoutT}
use Rattle.c_types.specs.Typed.{TExprT, TInitT, TVarT, TStmtTs}
use Rattle.c_types.specs.Sizes.{no_layout}
use Rattle.c_exprs.specs.Env.{Text, Decl, TypeD}
use Rattle.c_exprs.specs.Env as env
use Rattle.c_stmts.specs.State.{made}
use Rattle.c_exprs.specs.Faults.{◌>>=◌}
use Rattle.c_check.specs.Reading.{Un, state_in, with_parameter, is_free, with_names, named, new_record, record_entered, new_enum, enum_entered, with_layout, begun, with_function}
use Rattle.c_check.specs.inner.ItemTyping.{Reads, item, items}
use Rattle.c_check.specs.ItemTypes as good
use Rattle.c_check.specs.ItemTypes.{ValueAt, TypeAt, FillsAt, BodyAt, Member, Members, Enumerator, NamedEnumerator, Enumerators, MaybeFillsAt, Global, Globals, Parameter, Parameters, MaybeBody, Item}
use Rattle.c_check.specs.inner.Steps.{spent}
use Rattle.c_check.proofs.ItemExact.{ItemOut, item_outcome}

named_spends : (n : Text) (d : Decl) (un : Un) → spent (named n d un) ≡ spent un
unfolding named
named_spends n d un = by (is_free n un)
  where
    by : (b : Bool) → spent (if b then with_names un (un.names ++ (n, d) ∷ []) else un) ≡ spent un
    by true = refl
    by false = refl

record_spends : (u : Bool) (n : Text) (un : Un) → spent (record_entered u n un) ≤ spent un + 1
unfolding record_entered
record_spends u n un = by (is_free n un)
  where
    by : (b : Bool) → spent (if b then new_record u n un else un) ≤ spent un + 1
    by true = omega (arith, length-append un.layouts (no_layout u ∷ []))
    by false = omega arith

enum_spends : (n : Text) (un : Un) → spent (enum_entered n un) ≤ spent un + 1
unfolding enum_entered
enum_spends n un = by (is_free n un)
  where
    by : (b : Bool) → spent (if b then new_enum n un else un) ≤ spent un + 1
    by true = omega arith
    by false = omega arith

type_spends : {un up : Un} {s : Span} {of : TypeT} {t : Ty} → TypeAt un s of t up → spent up ≡ spent un
type_spends (good.type_at g) = refl

value_spends : {un up : Un} {e : ExprT} {x : TExprT} → ValueAt un e x up → spent up ≡ spent un
value_spends (good.value_at g) = refl

maybe_fill_spends : {un up : Un} {t : Ty} {i : Option InitT} {x : Option TInitT} → MaybeFillsAt un t i x up → spent up ≡ spent un
maybe_fill_spends (good.not_filled) = refl
maybe_fill_spends (good.is_filled (good.fill_at g)) = refl

maybe_body_spends : {un up : Un} {t : Ty} {o : Option StmtTs} {x : Option TStmtTs} → MaybeBody un t o x up → spent up ≡ spent un
maybe_body_spends (good.no_body) = refl
maybe_body_spends (good.has_body (good.body_at g)) = refl

members_spend : {un up : Un} {seen l : LayoutT} {vs : List VarT} → Members un seen vs l up → spent up ≡ spent un
members_spend (good.no_members) = refl
members_spend (good.more_members (good.member g0 g1) rest) = members_spend rest ∙ type_spends g0

enumerator_spends : {un up : Un} {next k : ℕ} {o : Option ExprT} → Enumerator un next o k up → spent up ≡ spent un
enumerator_spends (good.counted) = refl
enumerator_spends (good.valued g0 g1) = value_spends g0

named_enumerator_spends : {un : Un} {s : Span} {next n : ℕ} {v : Text × Option ExprT} {up : Un} → NamedEnumerator un s next v n up → spent up ≡ spent un
named_enumerator_spends (good.named_enumerator {up = up} {v = v} {k = k} g0 g1) = named_spends v.0 (env.ConstantD k) up ∙ enumerator_spends g0

enumerators_spend : {un up : Un} {s : Span} {next : ℕ} {vs : List (Text × Option ExprT)} {x : Unit {0}} → Enumerators un s next vs x up → spent up ≡ spent un
enumerators_spend (good.no_enumerators) = refl
enumerators_spend (good.more_enumerators g0 g1) = enumerators_spend g1 ∙ named_enumerator_spends g0

global_spends : {un : Un} {v : VarT} {xs : List TVarT} {up : Un} → Global un v xs up → spent up ≡ spent un + 1
global_spends (good.global {un = un} {up = up} {uq = uq} {v = v} {t = t} {n = n} g0 g1 g2) =
    omega (arith, length-append uq.globals ((v.name, n) ∷ []), maybe_fill_spends g1, named_spends v.name (env.GlobalD (length un.globals) t) up, type_spends g0)

globals_spend : {un : Un} {vs : List VarT} {xs : List TVarT} {up : Un} → Globals un vs xs up → spent up ≤ spent un + vars_nodes vs
globals_spend (good.no_globals) = omega arith
globals_spend (good.more_globals g0 g1) = omega (arith, global_spends g0, globals_spend g1)

parameter_spends : {un : Un} {v : VarT} {t : Ty} {up : Un} → Parameter un v t up → spent up ≡ spent un
unfolding with_parameter
parameter_spends (good.parameter g0 g1) = type_spends g0

parameters_spend : {un up : Un} {vs : List VarT} {ts : List Ty} → Parameters un vs ts up → spent up ≡ spent un
parameters_spend (good.no_parameters) = refl
parameters_spend (good.more_parameters g0 g1) = parameters_spend g1 ∙ parameter_spends g0

function_spends : (n : Text) (ps : List Ty) (t : Ty) (x : Option TStmtTs) (un : Un) → spent (with_function n ps t x un) ≤ spent un + 1
function_spends n ps t None un = omega arith
function_spends n ps t (Some body) un = omega (arith, length-append un.functions (record { name = n; params = ps; locals = un.sizes; made = made (state_in un); gives = t; body = body } ∷ []))

item_spends : {un up : Un} {i : ItemT} {x : Unit {0}} → Item un i x up → spent up ≤ spent un + item_nodes i
item_spends (good.record_name {un = un} {is_union = u} {name = name} g) = omega (arith, record_spends u name un)
item_spends (good.record_members {un = un} {up = up} {is_union = u} {name = name} {l = l} {n = n} g0 g1) = omega (arith, record_spends u name un, members_spend g0, length-set up.layouts n l)
item_spends (good.enumeration {un = un} {name = name} g0 g1) = omega (arith, enum_spends name un, enumerators_spend g0)
item_spends (good.type_name {up = up} {name = name} {t = t} g0 g1) = omega (arith, named_spends name (TypeD t) up, type_spends g0)
item_spends (good.objects g) = omega (arith, globals_spend g)
item_spends (good.function {uq = uq} {ur = ur} {name = name} {t = t} {ps = ps} {x = x} g0 g1 g2 g3) =
    omega (arith, function_spends name ps t x ur, maybe_body_spends g2, named_spends name (env.FunctionD ps t) uq, parameters_spend g1, type_spends g0)

-- what is left of the nodes
pub item_leaves : (un up : Un) (i : ItemT) (x : Unit {0}) → item un i ≡ Ok (x, up) → spent up ≤ spent un + item_nodes i
item_leaves un up i x e = item_spends (subst (ItemOut un i) e (item_outcome un i))

pub items_within : (all : List ItemOf) → length all ≤ unit_nodes (map view.item all)
items_within [] = omega arith
items_within (i ∷ all) = omega (arith, one (view.item i), items_within all)
  where
    one : (i : ItemT) → 1 ≤ item_nodes i
    one (RecordD u name members s) = omega arith
    one (EnumD name values s) = omega arith
    one (TypedefD of name s) = omega arith
    one (VarsD vs s) = omega arith
    one (FunctionD of name vs o s) = omega arith

pub vars_within : (vs : List Var) → length vs ≤ vars_nodes (map view.var vs)
vars_within [] = omega arith
vars_within (v ∷ vs) = omega (arith, vars_within vs)

read_on : (r : Reads (Unit {0})) → (r >>= λ xs. Ok (tt, xs.1)) ≡ r
read_on (Ok x) = refl
read_on (Err e) = refl

-- the items behind one that is read, and what is left for them
pub items_step : (un up : Un) (i : ItemT) (rest : List ItemT) (x : Unit {0}) → item un i ≡ Ok (x, up) → spent un + unit_nodes (i ∷ rest) ≤ 200000 → (items up rest ≡ items un (i ∷ rest)) × (spent up + unit_nodes rest ≤ 200000)
items_step un up i rest x e h = (sym (ap (λ (r : Reads (Unit {0})). r >>= λ y. items y.1 rest >>= λ xs. Ok (tt, xs.1)) e ∙ read_on (items up rest)), omega (arith, h, item_leaves un up i x e))
