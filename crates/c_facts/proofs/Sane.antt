-- What holds of each state of the reading of a unit, and that it only grows.
use Rattle.std.proofs.Common.{◌≡◌, ◌⊎◌, ℕ, ◌+◌, ◌≤◌, Bool, true, false, ◌&&◌, not, List, [], ◌∷◌, ◌++◌, length, length-append, length-set, Option, Some, None, Ok, refl, sym, ap, ◌∙◌, subst, subst₂, sum_by, arith, inl, inr}
use Rattle.std.specs.Prelude.{slice_get, is_some}
use Rattle.std.proofs.lemmas.List.Sums.{sum_by_push}
use Rattle.c_tree.specs.declared.span.Span.{Span}
use Rattle.c_tree.specs.Tree.{TypeT, InitT, VarT, StmtTs, ItemT}
use Rattle.c_types.specs.Types.{Ty, LayoutT}
use Rattle.c_types.specs.Sizes.{no_layout}
use Rattle.c_types.specs.Typed.{TInitT, TVarT, VarsZ, TStmtTs}
use Rattle.c_rules.specs.Sizes.{is_declared}
use Rattle.c_exprs.specs.Env.{Text, find, Decl, TypeD, GlobalD, FunctionD}
use Rattle.c_exprs.specs.Faults.{placed}
use Rattle.c_exprs.specs.Intrinsics.{intrinsic}
use Rattle.c_stmts.specs.State.{made}
use Rattle.c_check.specs.Reading.{Un, opening, state_in, is_free, names_free, named, record_type, new_record, members_declared, record_entered, with_layout, global_words, globals_limit, with_global, with_init, begun, with_function}
use Rattle.c_types.specs.Programs.{TFunctionT}
use Rattle.c_check.specs.ItemTypes as item
use Rattle.c_check.specs.ItemTypes.{TypeAt, Members, MaybeFillsAt, Global, Globals, Parameters, MaybeBody, Item, Items}
use Rattle.c_facts.specs.Sound.{kind_at}
use Rattle.c_facts.proofs.LayoutKinds.{kind_more, kind_last, kind_replaced}
use Rattle.c_facts.proofs.Fronts.{begins_itself, begins_more, last_or_before}
use Rattle.c_facts.proofs.Finds.{still_found, new_found}
use Rattle.c_facts.proofs.Short.{AreShort, none_short}
use Rattle.c_facts.proofs.Stays.{grows_itself}
use Rattle.c_facts.proofs.Laid.{AreDeclared, none_declared, record_grows, record_declared, layout_grows, layout_declared, AreMembers, no_members_yet, one_member_more, members_laid}
use Rattle.c_facts.proofs.ItemRules.{member_words, BecomesWhole, members_whole, global_room, IsRuled, function_ruled, own_number, members_named}
use Rattle.c_facts.proofs.Readings.{Later, later_itself, later_through, Keeps, keeps_through, kept_later, by_new_record, named_free, named_keeps, enum_keeps, type_keeps, maybe_fill_keeps, maybe_body_keeps, enumerators_keep, begun_keeps, ended_keeps, parameters_keep, members_keep}

-- each function has the number of its name, and the types that its name is declared with
abbrev pub AreOwn : List (Text × Decl) → List (Text × ℕ) → List TFunctionT → Type 0
AreOwn names bodies functions = (k : ℕ) (f : TFunctionT) → slice_get functions k ≡ Some f → (find f.name bodies ≡ Some k) × (find f.name names ≡ Some (FunctionD f.params f.gives))

-- each global has the number of its name
abbrev pub AreNamed : List (Text × Decl) → List (Text × ℕ) → Type 0
AreNamed names globals = (k : ℕ) (g : Text × ℕ) → slice_get globals k ≡ Some g → (ty : Ty) × (find g.0 names ≡ Some (GlobalD k ty))

-- each structure or union has the number of its name, and is of the two what its name means
abbrev pub IsRecordOf : List (Text × Decl) → List LayoutT → ℕ → Text → Type 0
IsRecordOf names layouts k n = (u : Bool) × (kind_at layouts k ≡ Some u) × (find n names ≡ Some (TypeD (record_type u k)))

abbrev pub AreRecords : List (Text × Decl) → List Text → List LayoutT → Type 0
AreRecords names records layouts = (k : ℕ) (n : Text) → slice_get records k ≡ Some n → IsRecordOf names layouts k n

pub record Sane (un : Un) : Type 0 where
  pub declared : AreDeclared un.layouts un.whole
  pub recorded : length un.records ≡ length un.layouts
  pub records : AreRecords un.names un.records un.layouts
  pub globals : global_words un ≤ globals_limit
  pub named : AreNamed un.names un.globals
  pub texts : AreShort un.texts
  pub functions : AreOwn un.names un.bodies un.functions

pub opening_sane : (b : List (Text × ℕ)) → Sane (opening b)
opening_sane b = record { declared = none_declared; recorded = refl; records = λ k n e. absurd cc; globals = omega arith; named = λ k g e. absurd cc; texts = none_short; functions = λ k f e. absurd cc }

own_kept : (un up : Un) → Keeps un up → AreOwn un.names un.bodies un.functions → AreOwn up.names up.bodies up.functions
own_kept un up g h k f e =
    let own = h k f (subst (λ fs. slice_get fs k ≡ Some f) g.functions e) in
    (subst (λ b. find f.name b ≡ Some k) (sym g.bodies) own.0, g.names f.name (FunctionD f.params f.gives) own.1)

records_kept : (un up : Un) → Keeps un up → AreRecords un.names un.records un.layouts → AreRecords up.names up.records up.layouts
records_kept un up g h k n e =
    let own = h k n (subst (λ rs. slice_get rs k ≡ Some n) g.records e) in
    (own.0, subst (λ ls. kind_at ls k ≡ Some own.0) (sym g.layouts) own.1, g.names n (TypeD (record_type own.0 k)) own.2)

pub kept_sane : {un up : Un} → Keeps un up → Sane un → Sane up
kept_sane {un = un} {up = up} g h = record {
  declared = subst₂ AreDeclared (sym g.layouts) (sym g.whole) h.declared;
  recorded = ap length g.records ∙ h.recorded ∙ ap length (sym g.layouts);
  records = records_kept un up g h.records;
  globals = subst (λ gs. sum_by (λ x. x.1) gs ≤ globals_limit) (sym g.globals) h.globals;
  named = λ k x e. let own = h.named k x (subst (λ gs. slice_get gs k ≡ Some x) g.globals e) in (own.0, g.names x.0 (GlobalD k own.0) own.1);
  texts = g.short h.texts;
  functions = own_kept un up g h.functions;
}

-- a state after another: it has only grown
pub record Follows (un up : Un) : Type 0 where
  pub later : Later un up
  pub sane : Sane up

follows_by : {un up uq : Un} → Later un up → Follows up uq → Follows un uq
follows_by g h = record { later = later_through g h.later; sane = h.sane }

kept_follows : {un up : Un} → Keeps un up → Sane un → Follows un up
kept_follows g h = record { later = kept_later g; sane = kept_sane g h }

-- ---- structures and unions

not_there : {A : Type 0} (o : Option A) (b : Bool) → (not (is_some o) && b) ≡ true → o ≡ None
not_there None b h = refl
not_there (Some x) b h = absurd cc

-- one more, under a name that is free
records_more : (is_union : Bool) (n : Text) (names : List (Text × Decl)) (records : List Text) (layouts : List LayoutT) → find n names ≡ None → length records ≡ length layouts → AreRecords names records layouts
    → AreRecords (names ++ (n, TypeD (record_type is_union (length layouts))) ∷ []) (records ++ n ∷ []) (layouts ++ no_layout is_union ∷ [])
records_more is_union n names records layouts free same h k m e = by (last_or_before records n k m e)
  where
    by : (slice_get records k ≡ Some m) ⊎ ((k ≡ length records) × (n ≡ m)) → IsRecordOf (names ++ (n, TypeD (record_type is_union (length layouts))) ∷ []) (layouts ++ no_layout is_union ∷ []) k m
    by (inl f) =
        let own = h k m f in
        (own.0, kind_more layouts (no_layout is_union ∷ []) k own.0 own.1, still_found m names ((n, TypeD (record_type is_union (length layouts))) ∷ []) (TypeD (record_type own.0 k)) own.2)
    by (inr f) =
        let last : IsRecordOf (names ++ (n, TypeD (record_type is_union (length layouts))) ∷ []) (layouts ++ no_layout is_union ∷ []) (length layouts) n =
        (is_union, kind_last layouts (no_layout is_union), new_found n names (TypeD (record_type is_union (length layouts))) free) in
        subst₂ (IsRecordOf (names ++ (n, TypeD (record_type is_union (length layouts))) ∷ []) (layouts ++ no_layout is_union ∷ [])) (sym (f.0 ∙ same)) f.1 last

new_record_follows : (is_union : Bool) (n : Text) (un : Un) → Sane un → is_free n un ≡ true → Follows un (new_record is_union n un)
new_record_follows is_union n un h free = record {
  later = record {
    grows = record_grows is_union un.layouts un.whole h.declared;
    globals = begins_itself un.globals;
    inits = begins_itself un.inits;
    functions = begins_itself un.functions;
    texts = begins_itself un.texts;
    names = λ m d e. still_found m un.names ((n, TypeD (record_type is_union (length un.layouts))) ∷ []) d e;
    bodies = refl;
  };
  sane = record {
    declared = record_declared is_union un.layouts un.whole h.declared;
    recorded = omega (arith, h.recorded, length-append un.records (n ∷ []), length-append un.layouts (no_layout is_union ∷ []));
    records = records_more is_union n un.names un.records un.layouts (not_there (find n un.names) (not (is_some (intrinsic n))) free) h.recorded h.records;
    globals = h.globals;
    named = λ k g e. let own = h.named k g e in (own.0, still_found g.0 un.names ((n, TypeD (record_type is_union (length un.layouts))) ∷ []) (GlobalD k own.0) own.1);
    texts = h.texts;
    functions = λ k f e. let own = h.functions k f e in (own.0, still_found f.name un.names ((n, TypeD (record_type is_union (length un.layouts))) ∷ []) (FunctionD f.params f.gives) own.1);
  };
}

pub record_follows : (is_union : Bool) (n : Text) (un : Un) → Sane un → Follows un (record_entered is_union n un)
record_follows is_union n un h = by_new_record (λ up. Follows un up) is_union n un (record { later = later_itself un; sane = h }) (new_record_follows is_union n un h)

pub with_layout_later : (n : ℕ) (l : LayoutT) (un : Un) → Sane un → is_declared un.whole n ≡ false → kind_at un.layouts n ≡ Some l.is_union → Later un (with_layout n l un)
with_layout_later n l un h new kind = record {
  grows = layout_grows un.layouts un.whole n l h.declared new kind;
  globals = begins_itself un.globals;
  inits = begins_itself un.inits;
  functions = begins_itself un.functions;
  texts = begins_itself un.texts;
  names = λ m d e. e;
  bodies = refl;
}

layout_follows : (n : ℕ) (l : LayoutT) (un : Un) → Sane un → AreMembers un.layouts un.whole l → BecomesWhole un l n → kind_at un.layouts n ≡ Some l.is_union → Follows un (with_layout n l un)
layout_follows n l un h m b kind = record {
  later = with_layout_later n l un h b.new kind;
  sane = record {
    recorded = h.recorded ∙ sym (length-set un.layouts n l);
    records = λ k x e. let own = h.records k x e in (own.0, kind_replaced un.layouts n l kind k own.0 own.1, own.2);
    declared = layout_declared un.layouts un.whole n l h.declared b.new kind (members_laid un.layouts un.whole l m b.members b.size);
    globals = h.globals;
    named = h.named;
    texts = h.texts;
    functions = h.functions;
  };
}

pub members_so_far : {un : Un} {seen l : LayoutT} {vs : List VarT} {up : Un} → Members un seen vs l up → AreMembers un.layouts un.whole seen → AreMembers un.layouts un.whole l
members_so_far (item.no_members) a = a
members_so_far {seen = seen} (item.more_members (item.member {un = un} {up = up} {v = v} {t = t} {n = n} (item.type_at g0) g1) rest) a =
    let words = member_words v.span up seen v.name t n g1 in
    members_so_far rest (one_member_more un.layouts un.whole seen v.name t n a words.sized words.words)

-- members make neither of the two the other
members_kind : {un : Un} {seen l : LayoutT} {vs : List VarT} {up : Un} → Members un seen vs l up → l.is_union ≡ seen.is_union
members_kind (item.no_members) = refl
members_kind (item.more_members (item.member g0 g1) rest) = members_kind rest

same_kind : (u v : Bool) (k : ℕ) → Some (TypeD (record_type u k)) ≡ Some (TypeD (record_type v k)) → u ≡ v
same_kind true true k e = refl
same_kind false false k e = refl
same_kind true false k e = absurd cc
same_kind false true k e = absurd cc

-- The layout that is declared whole is of the kind that was declared.
pub completed_kind : (s : Span) (is_union : Bool) (name : Text) {un : Un} {vs : List VarT} {l : LayoutT} {up : Un} (n : ℕ) → Members un (no_layout is_union) vs l up → Sane up → placed s (members_declared is_union name up l) ≡ Ok n → kind_at up.layouts n ≡ Some l.is_union
completed_kind s is_union name {l = l} {up = up} n g h e =
    let r = members_named s is_union name up l n e in
    let own = h.records n name r.named in
    let same : own.0 ≡ is_union = same_kind own.0 is_union n (sym own.2 ∙ r.declared) in
    own.1 ∙ ap Some (same ∙ sym (members_kind g))

-- ---- globals

pub with_global_later : (n : Text) (words : ℕ) (un : Un) → Later un (with_global n words un)
with_global_later n words un = record {
  grows = grows_itself un.layouts un.whole;
  globals = begins_more un.globals ((n, words) ∷ []);
  inits = begins_itself un.inits;
  functions = begins_itself un.functions;
  texts = begins_itself un.texts;
  names = λ m d e. e;
  bodies = refl;
}

-- one more global, under a name that has its number
named_more : (names : List (Text × Decl)) (globals : List (Text × ℕ)) (n : Text) (words : ℕ) (ty : Ty) → AreNamed names globals → find n names ≡ Some (GlobalD (length globals) ty) → AreNamed names (globals ++ (n, words) ∷ [])
named_more names globals n words ty h d k g e = by (last_or_before globals (n, words) k g e)
  where
    by : (slice_get globals k ≡ Some g) ⊎ ((k ≡ length globals) × ((n, words) ≡ g)) → (ty : Ty) × (find g.0 names ≡ Some (GlobalD k ty))
    by (inl e) = h k g e
    by (inr e) = (ty, subst (λ (i : Text × ℕ). find i.0 names ≡ Some (GlobalD k ty)) e.1 (subst (λ j. find n names ≡ Some (GlobalD j ty)) (sym e.0) d))

with_global_sane : (n : Text) (words : ℕ) (ty : Ty) (un : Un) → Sane un → find n un.names ≡ Some (GlobalD (length un.globals) ty) → global_words un + words ≤ globals_limit → Sane (with_global n words un)
with_global_sane n words ty un h d room = record {
  declared = h.declared;
  recorded = h.recorded;
  records = h.records;
  named = named_more un.names un.globals n words ty h.named d;
  globals = subst (λ k. k ≤ globals_limit) (sym (sum_by_push (λ (g : Text × ℕ). g.1) un.globals (n, words))) room;
  texts = h.texts;
  functions = h.functions;
}

pub global_keeps : (v : VarT) {un up uq : Un} {t : Ty} {i : Option InitT} {x : Option TInitT} → TypeAt un v.span v.ty t up → MaybeFillsAt (named v.name (GlobalD (length un.globals) t) up) t i x uq → Keeps un uq
global_keeps v {un = un} {up = up} {t = t} g0 g1 = keeps_through (type_keeps g0) (keeps_through (named_keeps v.name (GlobalD (length un.globals) t) up) (maybe_fill_keeps g1))

pub type_names : {un : Un} {s : Span} {of : TypeT} {t : Ty} {up : Un} → TypeAt un s of t up → up.names ≡ un.names
type_names (item.type_at g0) = refl

-- a name that is free means the global from then on
pub new_global : (v : VarT) (un : Un) (t : Ty) (up : Un) → up.names ≡ un.names → is_free v.name un ≡ true → find v.name (named v.name (GlobalD (length un.globals) t) up).names ≡ Some (GlobalD (length un.globals) t)
new_global v un t up same free =
    let free_then : is_free v.name up ≡ true = subst (λ names. names_free v.name names ≡ true) (sym same) free in
    let none : find v.name up.names ≡ None = not_there (find v.name up.names) (not (is_some (intrinsic v.name))) free_then in
    subst (λ (uq : Un). find v.name uq.names ≡ Some (GlobalD (length un.globals) t)) (sym (named_free v.name (GlobalD (length un.globals) t) up free_then)) (new_found v.name up.names (GlobalD (length un.globals) t) none)

pub global_follows : {un : Un} {v : VarT} {xs : List TVarT} {up : Un} → Sane un → Global un v xs up → Follows un up
global_follows h (item.global {un = un} {up = up} {uq = uq} {v = v} {t = t} {n = n} g0 g1 g2) =
    let g = global_keeps v g0 g1 in
    let r = global_room v.span uq (is_free v.name un) t n g2 in
    let named = new_global v un t up (type_names g0) r.new in
    let there = (maybe_fill_keeps g1).names v.name (GlobalD (length un.globals) t) named in
    let here : find v.name uq.names ≡ Some (GlobalD (length uq.globals) t) = subst (λ gs. find v.name uq.names ≡ Some (GlobalD (length gs) t)) (sym g.globals) there in
    follows_by (kept_later g) (record { later = with_global_later v.name n uq; sane = with_global_sane v.name n t uq (kept_sane g h) here r.room })

pub globals_follow : {un : Un} {vs : List VarT} {xs : List TVarT} {up : Un} → Sane un → Globals un vs xs up → Follows un up
globals_follow h (item.no_globals {un = un}) = record { later = later_itself un; sane = h }
globals_follow h (item.more_globals g0 g1) =
    let one = global_follows h g0 in
    follows_by one.later (globals_follow one.sane g1)

pub with_init_later : (xs : List TVarT) (un : Un) → Later un (with_init xs un)
with_init_later xs un = record {
  grows = grows_itself un.layouts un.whole;
  globals = begins_itself un.globals;
  inits = begins_more un.inits (VarsZ xs ∷ []);
  functions = begins_itself un.functions;
  texts = begins_itself un.texts;
  names = λ m d e. e;
  bodies = refl;
}

init_follows : (xs : List TVarT) (un : Un) → Sane un → Follows un (with_init xs un)
init_follows xs un h = record {
  later = with_init_later xs un;
  sane = record { declared = h.declared; recorded = h.recorded; records = h.records; globals = h.globals; named = h.named; texts = h.texts; functions = h.functions };
}

-- ---- functions

pub function_keeps : (name : Text) {un up uq ur : Un} {s : Span} {of : TypeT} {vs : List VarT} {o : Option StmtTs} {t : Ty} {ps : List Ty} {x : Option TStmtTs} → TypeAt un s of t up → Parameters (begun up) vs ps uq → MaybeBody (named name (FunctionD ps t) uq) t o x ur → Keeps un ur
function_keeps name {up = up} {uq = uq} {t = t} {ps = ps} g0 g1 g2 = keeps_through (type_keeps g0) (keeps_through (begun_keeps up) (keeps_through (parameters_keep g1) (keeps_through (named_keeps name (FunctionD ps t) uq) (maybe_body_keeps g2))))

with_body_later : (name : Text) (ps : List Ty) (t : Ty) (x : TStmtTs) (un : Un) → Later un (with_function name ps t (Some x) un)
with_body_later name ps t x un = record {
  grows = grows_itself un.layouts un.whole;
  globals = begins_itself un.globals;
  inits = begins_itself un.inits;
  functions = begins_more un.functions (record { name = name; params = ps; locals = un.sizes; made = made (state_in un); gives = t; body = x } ∷ []);
  texts = begins_itself un.texts;
  names = λ m d e. e;
  bodies = refl;
}

own_more : (names : List (Text × Decl)) (bodies : List (Text × ℕ)) (functions : List TFunctionT) (f : TFunctionT) → AreOwn names bodies functions → find f.name bodies ≡ Some (length functions) → find f.name names ≡ Some (FunctionD f.params f.gives) → AreOwn names bodies (functions ++ f ∷ [])
own_more names bodies functions f h b d k g e = by (last_or_before functions f k g e)
  where
    by : (slice_get functions k ≡ Some g) ⊎ ((k ≡ length functions) × (f ≡ g)) → (find g.name bodies ≡ Some k) × (find g.name names ≡ Some (FunctionD g.params g.gives))
    by (inl e) = h k g e
    by (inr e) = subst (λ i. (find i.name bodies ≡ Some k) × (find i.name names ≡ Some (FunctionD i.params i.gives))) e.1 (subst (λ j. find f.name bodies ≡ Some j) (sym e.0) b, d)

with_body_sane : (name : Text) (ps : List Ty) (t : Ty) (body : StmtTs) (x : TStmtTs) (un : Un) → Sane un → IsRuled un name ps t (Some body) → Sane (with_function name ps t (Some x) un)
with_body_sane name ps t body x un h r = record {
  declared = h.declared;
  recorded = h.recorded;
  records = h.records;
  globals = h.globals;
  named = h.named;
  texts = h.texts;
  functions = own_more un.names un.bodies un.functions (record { name = name; params = ps; locals = un.sizes; made = made (state_in un); gives = t; body = x }) h.functions (own_number un name body r.own) r.declared;
}

function_follows : {un : Un} (name : Text) (ps : List Ty) {t : Ty} {o : Option StmtTs} {x : Option TStmtTs} {ur : Un} → MaybeBody un t o x ur → Sane ur → IsRuled ur name ps t o → Follows ur (with_function name ps t x ur)
function_follows name ps (item.no_body {un = un}) h r = kept_follows (ended_keeps un) h
function_follows name ps (item.has_body {up = up} {gives = t} {body = body} {x = x} g0) h r = record { later = with_body_later name ps t x up; sane = with_body_sane name ps t body x up h r }

pub with_function_later : {un : Un} (name : Text) (ps : List Ty) {t : Ty} {o : Option StmtTs} {x : Option TStmtTs} {ur : Un} → MaybeBody un t o x ur → Later ur (with_function name ps t x ur)
with_function_later name ps (item.no_body {un = un}) = kept_later (ended_keeps un)
with_function_later name ps (item.has_body {up = up} {gives = t} {x = x} g0) = with_body_later name ps t x up

-- ---- items

kept_members : {un up : Un} (l : LayoutT) → Keeps un up → AreMembers un.layouts un.whole l → AreMembers up.layouts up.whole l
kept_members l g a = subst₂ (λ ls ws. AreMembers ls ws l) (sym g.layouts) (sym g.whole) a

pub item_follows : {un : Un} {i : ItemT} {x : Unit {0}} {up : Un} → Sane un → Item un i x up → Follows un up
item_follows h (item.record_name {un = un} {is_union = is_union} {name = name} g0) = record_follows is_union name un h
item_follows h (item.record_members {un = un} {up = up} {is_union = is_union} {name = name} {s = s} {l = l} {n = n} g0 g1) =
    let begun = record_follows is_union name un h in
    let g = members_keep g0 in
    let ms = kept_members l g (members_so_far g0 (no_members_yet (record_entered is_union name un).layouts (record_entered is_union name un).whole is_union)) in
    follows_by (later_through begun.later (kept_later g)) (layout_follows n l up (kept_sane g begun.sane) ms (members_whole s is_union name up l n g1) (completed_kind s is_union name n g0 (kept_sane g begun.sane) g1))
item_follows h (item.enumeration {un = un} {name = name} g0 g1) = kept_follows (keeps_through (enum_keeps name un) (enumerators_keep g0)) h
item_follows h (item.type_name {up = up} {name = name} {t = t} g0 g1) = kept_follows (keeps_through (type_keeps g0) (named_keeps name (TypeD t) up)) h
item_follows h (item.objects {up = up} {xs = xs} g0) =
    let all = globals_follow h g0 in
    follows_by all.later (init_follows xs up all.sane)
item_follows h (item.function {ur = ur} {name = name} {o = o} {s = s} {t = t} {ps = ps} g0 g1 g2 g3) =
    let g = function_keeps name g0 g1 g2 in
    follows_by (kept_later g) (function_follows name ps g2 (kept_sane g h) (function_ruled s ur name ps t o g3))

pub items_follow : {un : Un} {all : List ItemT} {x : Unit {0}} {up : Un} → Sane un → Items un all x up → Follows un up
items_follow h (item.no_items {un = un}) = record { later = later_itself un; sane = h }
items_follow h (item.more_items g0 g1) =
    let one = item_follows h g0 in
    follows_by one.later (items_follow one.sane g1)
