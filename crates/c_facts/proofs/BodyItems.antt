-- Each item with a body makes one function.
use Rattle.std.proofs.Common.{◌≡◌, List, [], ◌∷◌, ◌++◌, Option, Some, refl, sym, ap, ◌∙◌, subst, append_assoc, append-nil}
use Rattle.c_tree.specs.declared.span.Span.{Span}
use Rattle.c_tree.specs.Tree.{TypeT, VarT, StmtTs, ItemT, FunctionD}
use Rattle.c_types.specs.Types.{Ty}
use Rattle.c_types.specs.Typed.{TStmtTs}
use Rattle.c_types.specs.Programs.{TFunctionT}
use Rattle.c_exprs.specs.Env.{Text}
use Rattle.c_stmts.specs.State.{made}
use Rattle.c_check.specs.Reading.{Un, opening, begun, state_in, bodies_of, record_entered, with_function}
use Rattle.c_check.specs.ItemTypes as item
use Rattle.c_check.specs.ItemTypes.{TypeAt, Parameters, MaybeBody, Item, Items}
use Rattle.c_check.specs.Whole as check
use Rattle.c_check.specs.Whole.{WellTyped}
use Rattle.c_facts.specs.Bodies.{BodyT, body_in, bodies_behind, IsOf, AreOf, FunctionsAreBodies}
use Rattle.c_facts.proofs.Readings.{by_record, keeps_through, named_keeps, enum_keeps, type_keeps, enumerators_keep, members_keep}
use Rattle.c_facts.proofs.Counts.{globals_functions}
use Rattle.c_facts.proofs.Sane.{function_keeps}

-- what an item adds
record Adds (units : List ItemT) (bodies : List BodyT) (un up : Un) : Type 0 where
  functions : List TFunctionT
  added : up.functions ≡ un.functions ++ functions
  are : AreOf units bodies functions

nothing_added : (units : List ItemT) (un up : Un) → up.functions ≡ un.functions → Adds units [] un up
nothing_added units un up e = record { functions = []; added = e ∙ sym (append-nil un.functions); are = tt }

body_added : {units before : List ItemT} {un up uq ur : Un} (of : TypeT) (name : Text) (vs : List VarT) (s : Span) (ps : List Ty) {t : Ty} {o : Option StmtTs} {x : Option TStmtTs} {named_now : Un} → Items (opening (bodies_of units)) before tt un → TypeAt un s of t up → Parameters (begun up) vs ps uq → MaybeBody named_now t o x ur → ur.functions ≡ un.functions → Adds units (body_in before (FunctionD of name vs o s)) un (with_function name ps t x ur)
body_added {units = units} {un = un} of name vs s ps r g0 g1 (item.no_body {un = uq}) f = nothing_added units un _ f
body_added {un = un} {up = up} {uq = uq} of name vs s ps r g0 g1 (item.has_body {up = ur} {gives = t} {x = x} g2) f =
    let made_now : TFunctionT = record { name = name; params = ps; locals = ur.sizes; made = made (state_in ur); gives = t; body = x } in
    record {
      functions = made_now ∷ [];
      added = ap (λ fs. fs ++ made_now ∷ []) f;
      are = (record { name = refl; start = un; reads = r; inner = up; gives = g0; last = uq; params = g1 }, tt);
    }

item_adds : (units before : List ItemT) {un : Un} {i : ItemT} {x : Unit {0}} {up : Un} → Items (opening (bodies_of units)) before tt un → Item un i x up → Adds units (body_in before i) un up
item_adds units before r (item.record_name {un = un} {is_union = is_union} {name = name} g0) = nothing_added units un (record_entered is_union name un) (by_record (λ up. up.functions ≡ un.functions) is_union name un refl refl)
item_adds units before r (item.record_members {un = un} {up = up} {is_union = is_union} {name = name} g0 g1) = nothing_added units un _ ((members_keep g0).functions ∙ by_record (λ up. up.functions ≡ un.functions) is_union name un refl refl)
item_adds units before r (item.enumeration {un = un} {up = up} {name = name} g0 g1) = nothing_added units un up (keeps_through (enum_keeps name un) (enumerators_keep g0)).functions
item_adds units before r (item.type_name {un = un} {up = up} {name = name} g0 g1) = nothing_added units un _ (keeps_through (type_keeps g0) (named_keeps name _ up)).functions
item_adds units before r (item.objects {un = un} {up = up} g0) = nothing_added units un _ (globals_functions g0)
item_adds units before r (item.function {un = un} {ur = ur} {of = of} {name = name} {vs = vs} {o = o} {s = s} {ps = ps} g0 g1 g2 g3) = body_added of name vs s ps r g0 g1 g2 (function_keeps name g0 g1 g2).functions

are_append : (units : List ItemT) (bs cs : List BodyT) (fs gs : List TFunctionT) → AreOf units bs fs → AreOf units cs gs → AreOf units (bs ++ cs) (fs ++ gs)
are_append units [] cs [] gs h k = k
are_append units [] cs (f ∷ fs) gs h k = absurd h
are_append units (b ∷ bs) cs [] gs h k = absurd h
are_append units (b ∷ bs) cs (f ∷ fs) gs h k = (h.0, are_append units bs cs fs gs h.1 k)

-- one item more is read
items_more : {un : Un} {before : List ItemT} {x : Unit {0}} {up : Un} {i : ItemT} {y : Unit {0}} {uq : Un} → Items un before x up → Item up i y uq → Items un (before ++ i ∷ []) tt uq
items_more (item.no_items) g = item.more_items g item.no_items
items_more (item.more_items g0 g1) g = item.more_items g0 (items_more g1 g)

items_add : (units before : List ItemT) {un : Un} {all : List ItemT} {x : Unit {0}} {up : Un} → Items (opening (bodies_of units)) before tt un → Items un all x up → Adds units (bodies_behind before all) un up
items_add units before r (item.no_items {un = un}) = nothing_added units un un refl
items_add units before r (item.more_items {un = un} {up = up} {uq = uq} {i = i} {all = all} g0 g1) =
    let one = item_adds units before r g0 in
    let rest = items_add units (before ++ i ∷ []) (items_more r g0) g1 in
    record {
      functions = one.functions ++ rest.functions;
      added = rest.added ∙ ap (λ fs. fs ++ rest.functions) one.added ∙ append_assoc un.functions one.functions rest.functions;
      are = are_append units (body_in before i) (bodies_behind (before ++ i ∷ []) all) one.functions rest.functions one.are rest.are;
    }

unit_bodies : (all : List ItemT) (fin : Un) → Items (opening (bodies_of all)) all tt fin → AreOf all (bodies_behind [] all) fin.functions
unit_bodies all fin g = let adds = items_add all [] item.no_items g in subst (AreOf all (bodies_behind [] all)) (sym adds.added) adds.are

pub functions_are_bodies : FunctionsAreBodies
functions_are_bodies all p (check.unit {un = un} {k = k} g m) = unit_bodies all un g
