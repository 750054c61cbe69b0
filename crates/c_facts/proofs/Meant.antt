-- What names, members and parameters mean in a scene, part by part of an item.
use Rattle.std.proofs.Common.{◌≡◌, ℕ, true, List, [], ◌∷◌, ◌++◌, length, Option, Some, refl, sym, ap, ◌∙◌, subst}
use Rattle.std.specs.Prelude.{slice_get, option_map}
use Rattle.c_tree.specs.declared.span.Span.{Span}
use Rattle.c_tree.specs.Tree.{ExprT, TypeT, InitT, VarT}
use Rattle.c_types.specs.Types.{Ty, EnumY, MemberT, LayoutT}
use Rattle.c_types.specs.Typed.{TInitT, TVarT}
use Rattle.c_types.specs.Sizes.{words_of, next_offset, with_member}
use Rattle.c_rules.specs.Sizes.{is_whole}
use Rattle.c_exprs.specs.Env.{Text, find, Decl, TypeD, ConstantD, GlobalD}
use Rattle.c_stmts.specs.State.{filled_var}
use Rattle.c_check.specs.Reading.{Un, under, with_texts, is_free, named, enum_entered}
use Rattle.c_check.specs.ItemTypes as item
use Rattle.c_check.specs.ItemTypes.{ValueAt, TypeAt, FillsAt, Members, Enumerator, NamedEnumerator, Enumerators, MaybeFillsAt, Global, Globals}
use Rattle.c_facts.specs.Sound.{Scene, IsKnown, IsSized, IsOfType, IsGlobal, AreFilled, FillsAs}
use Rattle.c_facts.proofs.Within.{Begins, Grows, IsMeant, AreMeant, InScopes, AllMembersKnown, Within, MembersWhole, MembersKnown}
use Rattle.c_facts.proofs.Told.{name_is, fills_are}
use Rattle.c_facts.proofs.Fronts.{begins_at, last_at}
use Rattle.c_facts.proofs.ItemRules.{global_room}
use Rattle.c_facts.proofs.Readings.{Later, later_through, Keeps, keeps_through, kept_later, by_named, by_enum, named_keeps, type_keeps, fill_keeps, maybe_fill_keeps, members_keep}
use Rattle.c_facts.proofs.Sane.{Sane, kept_sane, with_global_later, global_keeps, new_global, type_names, global_follows, globals_follow}
use Rattle.c_facts.proofs.Counts.{HaveNumbers, numbers_then}
use Rattle.c_facts.proofs.Growth.{whole_later, words_later}

-- where types are told, each global has the one that its name is declared with
abbrev pub AreTold : Un → Option (List Ty) → Type 0
AreTold fin o = (k : ℕ) (g : Text × ℕ) (ty : Ty) → slice_get fin.globals k ≡ Some g → find g.0 fin.names ≡ Some (GlobalD k ty) → IsOfType o k ty

-- a scene of the unit that ends so
pub record Ends (s : Scene) (fin : Un) : Type 0 where
  pub numbers : HaveNumbers fin
  pub functions : s.functions ≡ fin.functions
  pub globals : s.globals ≡ fin.globals
  pub types : AreTold fin s.global_types
  pub literals : s.literals ≡ fin.texts
  pub members : MembersKnown s

-- what a state of the reading means in a scene
pub record Meant (s : Scene) (un : Un) : Type 0 where
  pub grows : Grows un.layouts un.whole s.layouts s.whole
  pub names : AreMeant s un.names
  pub scopes : InScopes s un.scopes

pub within : {s : Scene} {un fin : Un} → Ends s fin → Later un fin → Meant s un → Within (under un) s
within {s = s} {un = un} {fin = fin} e later m = record { grows = m.grows; names = m.names; bodies = numbers_then s un fin e.numbers e.functions later; scopes = m.scopes; members = e.members }

pub literals_begin : {s : Scene} {un fin : Un} → Ends s fin → Later un fin → Begins un.texts s.literals
literals_begin {un = un} e later = subst (λ ts. Begins un.texts ts) (sym e.literals) later.texts

-- ---- names

pub meant_more : (s : Scene) (names : List (Text × Decl)) (n : Text) (d : Decl) → AreMeant s names → IsMeant s d → AreMeant s (names ++ (n, d) ∷ [])
meant_more s [] n d h k = (k, tt)
meant_more s (e ∷ es) n d h k = (h.0, meant_more s es n d h.1 k)

pub named_meant : {s : Scene} {un : Un} (n : Text) (d : Decl) → Meant s un → IsMeant s d → Meant s (named n d un)
named_meant {s = s} {un = un} n d m k = by_named (λ up. Meant s up) n d un m (record { grows = m.grows; names = meant_more s un.names n d m.names k; scopes = m.scopes })

enum_meant : {s : Scene} {un : Un} (n : Text) → Meant s un → Meant s (enum_entered n un)
enum_meant {s = s} {un = un} n m = by_enum (λ up. Meant s up) n un m (record { grows = m.grows; names = meant_more s un.names n (TypeD (EnumY un.enums)) m.names tt; scopes = m.scopes })

texts_meant : {s : Scene} {un : Un} (us : List Text) → Meant s un → Meant s (with_texts un us)
texts_meant us m = record { grows = m.grows; names = m.names; scopes = m.scopes }

-- ---- types

-- a type that is named
pub record TypeRead (s : Scene) (t : Ty) (up : Un) : Type 0 where
  pub known : IsKnown s.layouts s.whole t
  pub meant : Meant s up

pub type_known : {s : Scene} {fin un : Un} {p : Span} {of : TypeT} {t : Ty} {up : Un} → Ends s fin → TypeAt un p of t up → Later up fin → Meant s un → TypeRead s t up
type_known {s = s} {p = p} {of = of} {t = t} e (item.type_at {un = un} {us = us} g0) later m = record {
  known = name_is s (under un) un.texts us p of t (within e (later_through (kept_later (type_keeps (item.type_at g0))) later) m) g0 (literals_begin e later);
  meant = texts_meant us m;
}

-- ---- members

members_more : (s : Scene) (ms : List MemberT) (m : MemberT) → AllMembersKnown s ms → IsKnown s.layouts s.whole m.ty → AllMembersKnown s (ms ++ m ∷ [])
members_more s [] m h k = (k, tt)
members_more s (x ∷ ms) m h k = (h.0, members_more s ms m h.1 k)

member_more : (s : Scene) (seen : LayoutT) (name : Text) (t : Ty) (n : ℕ) → AllMembersKnown s seen.members → IsKnown s.layouts s.whole t → AllMembersKnown s (with_member seen name t n).members
member_more s seen name t n h k = members_more s seen.members (record { name = name; offset = next_offset seen; ty = t }) h k

-- a structure or union with these members
pub record MembersRead (s : Scene) (l : LayoutT) (up : Un) : Type 0 where
  pub known : AllMembersKnown s l.members
  pub meant : Meant s up

pub members_known : {s : Scene} {fin un : Un} {seen l : LayoutT} {vs : List VarT} {up : Un} → Ends s fin → Members un seen vs l up → Later up fin → Meant s un → AllMembersKnown s seen.members → MembersRead s l up
members_known e (item.no_members) later m h = record { known = h; meant = m }
members_known {s = s} {seen = seen} e (item.more_members (item.member {v = v} {t = t} {n = n} g0 g1) rest) later m h =
    let one = type_known e g0 (later_through (kept_later (members_keep rest)) later) m in
    members_known e rest later one.meant (member_more s seen v.name t n h one.known)

-- ---- enumerators

value_meant : {s : Scene} {un : Un} {e : ExprT} {x : _} {up : Un} → ValueAt un e x up → Meant s un → Meant s up
value_meant (item.value_at {us = us} g0) m = texts_meant us m

enumerator_meant : {s : Scene} {un : Un} {next k : ℕ} {e : Option ExprT} {up : Un} → Enumerator un next e k up → Meant s un → Meant s up
enumerator_meant (item.counted) m = m
enumerator_meant (item.valued g0 g1) m = value_meant g0 m

named_enumerator_meant : {s : Scene} {un : Un} {p : Span} {next n : ℕ} {v : Text × Option ExprT} {up : Un} → NamedEnumerator un p next v n up → Meant s un → Meant s up
named_enumerator_meant (item.named_enumerator {v = v} {k = k} g0 g1) m = named_meant v.0 (ConstantD k) (enumerator_meant g0 m) tt

enumerators_meant : {s : Scene} {un : Un} {p : Span} {next : ℕ} {vs : List (Text × Option ExprT)} {x : Unit {0}} {up : Un} → Enumerators un p next vs x up → Meant s un → Meant s up
enumerators_meant (item.no_enumerators) m = m
enumerators_meant (item.more_enumerators g0 g1) m = enumerators_meant g1 (named_enumerator_meant g0 m)

pub enumeration_meant : {s : Scene} {un : Un} (name : Text) {p : Span} {next : ℕ} {vs : List (Text × Option ExprT)} {x : Unit {0}} {up : Un} → Enumerators (enum_entered name un) p next vs x up → Meant s un → Meant s up
enumeration_meant name g0 m = enumerators_meant g0 (enum_meant name m)

-- ---- globals

pub members_whole_then : {un : Un} → Sane un → MembersWhole un.layouts un.whole
members_whole_then h k l d e = (h.declared.laid k l d e).members

-- the variables of an item that are filled
pub record VariablesRead (s : Scene) (xs : List TVarT) (up : Un) : Type 0 where
  pub filled : AreFilled s true xs
  pub meant : Meant s up

fill_known : {s : Scene} {fin un : Un} {t : Ty} {i : InitT} {x : TInitT} {up : Un} → Ends s fin → Sane un → FillsAt un t i x up → Later up fin → Meant s un → is_whole un.whole t ≡ true → IsSized s.layouts s.whole t → FillsAs s true x (Some t) × Meant s up
fill_known {s = s} {t = t} {i = i} {x = x} e h (item.fill_at {un = un} {us = us} g0) later m w sized =
    (fills_are s (under un) un.texts us true t i x (within e (later_through (kept_later (fill_keeps (item.fill_at g0))) later) m) (members_whole_then h) w sized g0 (literals_begin e later), texts_meant us m)

maybe_filled : {s : Scene} {fin un : Un} (number : ℕ) {t : Ty} {i : Option InitT} {x : Option TInitT} {up : Un} → Ends s fin → Sane un → MaybeFillsAt un t i x up → Later up fin → Meant s un → is_whole un.whole t ≡ true → IsSized s.layouts s.whole t → IsGlobal s number t → VariablesRead s (filled_var true number t x) up
maybe_filled number e h (item.not_filled) later m w sized object = record { filled = tt; meant = m }
maybe_filled number e h (item.is_filled g0) later m w sized object =
    let f = fill_known e h g0 later m w sized in
    record { filled = (record { kind = refl; object = object; sized = sized; filled = f.0 }, tt); meant = f.1 }

-- the object of a global, with the words of its type, and the type of its name
object_there : {s : Scene} {fin : Un} (name : Text) (n number : ℕ) (t : Ty) (gs : List (Text × ℕ)) → Ends s fin → Begins (gs ++ (name, n) ∷ []) fin.globals → number ≡ length gs → n ≡ words_of s.layouts t → find name fin.names ≡ Some (GlobalD number t) → IsGlobal s number t
object_there {s = s} {fin = fin} name n number t gs e b same words named =
    let entry : Text × ℕ = (name, n) in
    let here : slice_get fin.globals (length gs) ≡ Some entry = begins_at (gs ++ entry ∷ []) fin.globals (length gs) entry b (last_at gs entry) in
    let at : slice_get fin.globals number ≡ Some entry = subst (λ (k : ℕ). slice_get fin.globals k ≡ Some entry) (sym same) here in
    (ap (option_map (λ (g : Text × ℕ). g.1)) (subst (λ (xs : List (Text × ℕ)). slice_get xs number ≡ Some entry) (sym e.globals) at) ∙ ap Some words, e.types number entry t at named)

pub global_known : {s : Scene} {fin un : Un} {v : VarT} {xs : List TVarT} {up : Un} → Ends s fin → Sane un → Global un v xs up → Later up fin → Meant s un → VariablesRead s xs up
global_known {s = s} {fin = fin} e h (item.global {un = un} {up = up} {uq = uq} {v = v} {t = t} {i = i} {n = n} g0 g1 g2) later m =
    let number = length un.globals in
    let keeps = global_keeps v g0 g1 in
    let r = global_room v.span uq (is_free v.name un) t n g2 in
    let whole : is_whole un.whole t ≡ true = subst (λ w. is_whole w t ≡ true) keeps.whole r.words.sized in
    let words : words_of un.layouts t ≡ n = subst (λ ls. words_of ls t ≡ n) keeps.layouts r.words.words in
    let named_state = named v.name (GlobalD number t) up in
    let from_named : Keeps named_state uq = maybe_fill_keeps g1 in
    let from_type : Keeps un up = type_keeps g0 in
    let to_named : Keeps up named_state = named_keeps v.name (GlobalD number t) up in
    let after : Later uq fin = later_through (with_global_later v.name n uq) later in
    let ty = type_known e g0 (later_through (kept_later (keeps_through to_named from_named)) after) m in
    let declared : find v.name fin.names ≡ Some (GlobalD number t) = after.names v.name (GlobalD number t) (from_named.names v.name (GlobalD number t) (new_global v un t up (type_names g0) r.new)) in
    let object : IsGlobal s number t = object_there v.name n number t uq.globals e later.globals (sym (ap length keeps.globals)) (sym words ∙ words_later m.grows t whole) declared in
    let sized : IsSized s.layouts s.whole t = record { known = ty.known; sized = whole_later m.grows t whole } in
    let filled = maybe_filled number e (kept_sane (keeps_through from_type to_named) h) g1 after (named_meant v.name (GlobalD number t) ty.meant (ty.known, object)) (subst (λ w. is_whole w t ≡ true) (sym (keeps_through from_type to_named).whole) whole) sized object in
    record { filled = filled.filled; meant = record { grows = filled.meant.grows; names = filled.meant.names; scopes = filled.meant.scopes } }

filled_more : (s : Scene) (xs ys : List TVarT) → AreFilled s true xs → AreFilled s true ys → AreFilled s true (xs ++ ys)
filled_more s [] ys h k = k
filled_more s (x ∷ xs) ys h k = (h.0, filled_more s xs ys h.1 k)

pub globals_known : {s : Scene} {fin un : Un} {vs : List VarT} {xs : List TVarT} {up : Un} → Ends s fin → Sane un → Globals un vs xs up → Later up fin → Meant s un → VariablesRead s xs up
globals_known e h (item.no_globals) later m = record { filled = tt; meant = m }
globals_known {s = s} e h (item.more_globals {x = x} {xs = xs} g0 g1) later m =
    let sane = (global_follows h g0).sane in
    let one = global_known e h g0 (later_through (globals_follow sane g1).later later) m in
    let rest = globals_known e sane g1 later one.meant in
    record { filled = filled_more s x xs one.filled rest.filled; meant = rest.meant }
