-- A unit has as many functions as items with a body; so what a name of a function has as its number is that function.
use Rattle.std.proofs.Common.{◌≡◌, ℕ, ◌+◌, List, [], ◌∷◌, length, map, Option, Some, None, refl, sym, ap, ◌∙◌, subst, arith, length-append}
use Rattle.std.specs.Prelude.{slice_get}
use Rattle.c_tree.specs.declared.span.Span.{Span}
use Rattle.c_tree.specs.Tree.{TypeT, VarT, StmtTs, ItemT}
use Rattle.c_tree.specs.Tree as tree
use Rattle.c_types.specs.Types.{Ty}
use Rattle.c_types.specs.Typed.{TVarT, TStmtTs}
use Rattle.c_exprs.specs.Env.{Text, find, FunctionD}
use Rattle.c_stmts.specs.State.{made}
use Rattle.c_check.specs.Reading.{Un, opening, state_in, record_entered, with_function, body_name, bodies_of}
use Rattle.c_types.specs.Programs.{TFunctionT}
use Rattle.c_check.specs.ItemTypes as item
use Rattle.c_check.specs.ItemTypes.{Globals, MaybeBody, Item, Items}
use Rattle.c_facts.specs.Sound.{Scene}
use Rattle.c_facts.proofs.Within.{AreBodies}
use Rattle.c_facts.proofs.Fronts.{within_at}
use Rattle.c_facts.proofs.Bodies.{body_count, bodies_numbered}
use Rattle.c_facts.proofs.Readings.{Later, keeps_through, by_record, named_keeps, enum_keeps, type_keeps, enumerators_keep, members_keep}
use Rattle.c_facts.proofs.Sane.{opening_sane, items_follow, global_keeps, function_keeps}

same_count : {A : Type 0} (xs ys : List A) → ys ≡ xs → length ys ≡ length xs + 0
same_count xs ys e = omega (arith, ap length e)

record_functions : (is_union : _) (n : Text) (un : Un) → (record_entered is_union n un).functions ≡ un.functions
record_functions is_union n un = by_record (λ up. up.functions ≡ un.functions) is_union n un refl refl

pub globals_functions : {un : Un} {vs : List VarT} {xs : List TVarT} {up : Un} → Globals un vs xs up → up.functions ≡ un.functions
globals_functions (item.no_globals) = refl
globals_functions (item.more_globals (item.global {v = v} g0 g1 g2) rest) = globals_functions rest ∙ (global_keeps v g0 g1).functions

function_count : {un : Un} (of : TypeT) (name : Text) (vs : List VarT) (s : Span) (ps : List Ty) {t : Ty} {o : Option StmtTs} {x : Option TStmtTs} {ur : Un} → MaybeBody un t o x ur → length (with_function name ps t x ur).functions ≡ length ur.functions + body_count (body_name (tree.FunctionD of name vs o s) ∷ [])
function_count of name vs s ps (item.no_body {un = un}) = same_count un.functions un.functions refl
function_count of name vs s ps (item.has_body {up = up} {gives = t} {x = x} g0) = length-append up.functions (record { name = name; params = ps; locals = up.sizes; made = made (state_in up); gives = t; body = x } ∷ [])

item_count : {un : Un} {i : ItemT} {x : Unit {0}} {up : Un} → Item un i x up → length up.functions ≡ length un.functions + body_count (body_name i ∷ [])
item_count (item.record_name {un = un} {is_union = is_union} {name = name} g0) = same_count un.functions (record_entered is_union name un).functions (record_functions is_union name un)
item_count (item.record_members {un = un} {up = up} {is_union = is_union} {name = name} g0 g1) = same_count un.functions up.functions ((members_keep g0).functions ∙ record_functions is_union name un)
item_count (item.enumeration {un = un} {up = up} {name = name} g0 g1) = same_count un.functions up.functions (keeps_through (enum_keeps name un) (enumerators_keep g0)).functions
item_count (item.type_name {un = un} {up = up} {name = name} {t = t} g0 g1) = same_count un.functions _ (keeps_through (type_keeps g0) (named_keeps name _ up)).functions
item_count (item.objects {un = un} {up = up} g0) = same_count un.functions up.functions (globals_functions g0)
item_count (item.function {un = un} {ur = ur} {of = of} {name = name} {vs = vs} {o = o} {s = s} {ps = ps} g0 g1 g2 g3) =
    let e = ap length (function_keeps name g0 g1 g2).functions in
    function_count of name vs s ps g2 ∙ ap (λ n. n + body_count (body_name (tree.FunctionD of name vs o s) ∷ [])) e

count_first : (o : Option Text) (names : List (Option Text)) → body_count (o ∷ names) ≡ body_count (o ∷ []) + body_count names
count_first None names = omega arith
count_first (Some n) names = omega arith

items_count : {un : Un} {all : List ItemT} {x : Unit {0}} {up : Un} → Items un all x up → length up.functions ≡ length un.functions + body_count (map body_name all)
items_count (item.no_items {un = un}) = same_count un.functions un.functions refl
items_count (item.more_items {i = i} {all = all} g0 g1) = omega (arith, item_count g0, items_count g1, count_first (body_name i) (map body_name all))

unit_count : (all : List ItemT) (fin : Un) → Items (opening (bodies_of all)) all tt fin → length fin.functions ≡ body_count (map body_name all)
unit_count all fin g = omega (arith, items_count g)

-- ---- functions by their numbers

-- the functions of a unit, by the numbers of their names
abbrev pub HaveNumbers : Un → Type 0
HaveNumbers fin = (n : Text) (params : List Ty) (gives : Ty) (k : ℕ) → find n fin.names ≡ Some (FunctionD params gives) → find n fin.bodies ≡ Some k
    → (f : TFunctionT) × (slice_get fin.functions k ≡ Some f) × (f.params ≡ params) × (f.gives ≡ gives)

same_declared : (ps qs : List Ty) (g h : Ty) → Some (FunctionD ps g) ≡ Some (FunctionD qs h) → (ps ≡ qs) × (g ≡ h)
same_declared ps qs g h e = (cc, cc)

pub unit_numbers : (all : List ItemT) (fin : Un) → Items (opening (bodies_of all)) all tt fin → HaveNumbers fin
unit_numbers all fin g n params gives k d b =
    let follows = items_follow (opening_sane (bodies_of all)) g in
    let numbers = bodies_numbered all in
    let b1 : find n (bodies_of all) ≡ Some k = subst (λ bs. find n bs ≡ Some k) follows.later.bodies b in
    let inside = numbers.below n k b1 in
    let here = within_at fin.functions k (omega (arith, inside, unit_count all fin g)) in
    let f = here.0 in
    let own = follows.sane.functions k f here.1 in
    let b2 : find f.name (bodies_of all) ≡ Some k = subst (λ bs. find f.name bs ≡ Some k) follows.later.bodies own.0 in
    let same = numbers.once f.name n k b2 b1 in
    let d2 : find n fin.names ≡ Some (FunctionD f.params f.gives) = subst (λ m. find m fin.names ≡ Some (FunctionD f.params f.gives)) same own.1 in
    let types = same_declared f.params params f.gives gives (sym d2 ∙ d) in
    (f, here.1, types.0, types.1)

-- the same for what is known while the unit is read
pub numbers_then : (s : Scene) (un fin : Un) → HaveNumbers fin → s.functions ≡ fin.functions → Later un fin → AreBodies s un.names un.bodies
numbers_then s un fin h same later n params gives k d b =
    let f = h n params gives k (later.names n (FunctionD params gives) d) (subst (λ bs. find n bs ≡ Some k) (sym later.bodies) b) in
    (f.0, subst (λ fs. slice_get fs k ≡ Some f.0) (sym same) f.1, f.2, f.3)
