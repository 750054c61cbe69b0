-- Programs that are typed are sound.
use Rattle.std.proofs.Common.{◌≡◌, ◌⊎◌, ℕ, zero, suc, ◌<◌, Bool, true, false, List, [], ◌∷◌, ◌++◌, map, length, Option, Some, None, refl, sym, ap, ap₂, ◌∙◌, subst, subst₂, inl, inr, arith, length-set}
use Rattle.std.proofs.lemmas.Option.{slice_get_within}
use Rattle.std.proofs.lemmas.Bool.{cases_eq}
use Rattle.std.specs.Prelude.{slice_get, slice_set, option_map, codes, if◌then◌else◌}
use Rattle.c_tree.specs.declared.span.Span.{Span}
use Rattle.c_tree.specs.Tree.{TypeT, VarT, StmtTs, ItemT}
use Rattle.c_types.specs.Types.{Ty, MemberT, LayoutT}
use Rattle.c_types.specs.Typed.{TVarT, TStmtT, VarsZ, TStmtTs}
use Rattle.c_rules.specs.Kinds.{holds}
use Rattle.c_rules.specs.Sizes.{is_declared}
use Rattle.c_exprs.specs.Env.{Text, find, Decl, TypeD, GlobalD, FunctionD}
use Rattle.c_check.specs.Reading.{Un, has_members, opening, bodies_of, state_in, named, record_type, new_record, record_entered, with_layout, with_init, begun, ended, with_function}
use Rattle.c_types.specs.Sizes.{words_of, no_layout}
use Rattle.c_stmts.specs.State.{made}
use Rattle.c_types.specs.Programs.{TFunctionT, ProgramT}
use Rattle.c_check.specs.ItemTypes as item
use Rattle.c_check.specs.ItemTypes.{TypeAt, Globals, Parameters, BodyAt, MaybeBody, Item, Items}
use Rattle.c_check.specs.Whole as check
use Rattle.c_check.specs.Whole.{is_plain, plain_number, main_of, program_of, WellTyped}
use Rattle.c_facts.specs.Sound.{Scene, kind_at, IsKnown, AreSized, IsLaidOut, IsDeclaredAs, AreDeclaredAs, AreApart, wholes, calling, in_call, IsFunction, AreFunctions, HasTypedObjects, HaveTypedObjects, with_types, FillGlobals, AreFilled, IsSound}
use Rattle.c_facts.proofs.Lookups.{name_meant}
use Rattle.c_facts.proofs.ObjectTypes.{none_told}
use Rattle.c_facts.proofs.Within.{Grows, IsMeant, AreMeant, AllMembersKnown, MembersKnown, AllWhole}
use Rattle.c_facts.proofs.Fronts.{begins_itself, last_or_before, replaced_at, replaced_there, others_stay}
use Rattle.c_facts.proofs.LayoutKinds.{kind_last}
use Rattle.c_facts.proofs.Stays.{grows_itself, grows_through, known_stays}
use Rattle.c_facts.proofs.Positive.{HaveWords, placed_has_words}
use Rattle.c_facts.proofs.Laid.{AreLaid, AreMembers, no_members_yet, declared_before, declared_there, record_grows, layout_grows}
use Rattle.c_facts.proofs.ItemRules.{members_whole, IsRuled, function_ruled}
use Rattle.c_facts.proofs.Readings.{Later, later_itself, later_through, Keeps, keeps_through, kept_later, by_record, named_keeps, enum_keeps, type_keeps, maybe_body_keeps, enumerators_keep, members_keep}
use Rattle.c_facts.proofs.Sane.{AreNamed, AreOwn, Sane, members_so_far, completed_kind, opening_sane, kept_sane, record_follows, global_keeps, function_keeps, with_layout_later, with_init_later, with_function_later, item_follows, items_follow}
use Rattle.c_facts.proofs.Counts.{HaveNumbers, unit_numbers}
use Rattle.c_facts.proofs.Meant.{AreTold, Ends, Meant, meant_more, named_meant, type_known, members_known, enumeration_meant, globals_known}
use Rattle.c_facts.proofs.Functions.{head_known, ends_call, function_sound, function_typed}

-- ---- what is shown of each state

-- the scene of the unit that ends so, with the structures and unions of the time
abbrev pub seen : Un → Un → Scene
seen fin un = record { layouts = un.layouts; whole = un.whole; globals = fin.globals; global_types = None; literals = fin.texts; functions = fin.functions; locals = []; local_types = None }

-- functions, with the types of their objects
abbrev pub AreAll : Scene → List TFunctionT → Type 0
AreAll s fs = AreFunctions s fs × HaveTypedObjects s fs

-- What is read so far is sound in each scene of the unit that is not behind. Members are known in the scene of the time: that those of the whole
-- program are known is not shown yet while it is read.
pub record Proved (fin un : Un) : Type 0 where
  pub meant : (s : Scene) → Ends s fin → Grows un.layouts un.whole s.layouts s.whole → Meant s un
  pub members : MembersKnown (seen fin un)
  pub words : HaveWords un.layouts un.whole
  pub inits : (s : Scene) → Ends s fin → Grows un.layouts un.whole s.layouts s.whole → FillGlobals s un.inits
  pub functions : (s : Scene) → Ends s fin → Grows un.layouts un.whole s.layouts s.whole → AreAll s un.functions

opening_proved : (fin : Un) (b : List (Text × ℕ)) → Proved fin (opening b)
opening_proved fin b = record {
  meant = λ s e g. record { grows = g; names = tt; scopes = tt };
  members = λ k l e. absurd cc;
  words = λ k l d e. absurd cc;
  inits = λ s e g. tt;
  functions = λ s e g. (tt, tt);
}

seen_ends : (fin un : Un) → HaveNumbers fin → MembersKnown (seen fin un) → Ends (seen fin un) fin
seen_ends fin un numbers members = record { numbers = numbers; functions = refl; globals = refl; types = λ k g ty at named. tt; literals = refl; members = members }

-- ---- members of what is whole later

all_members_stay : (s r : Scene) → Grows s.layouts s.whole r.layouts r.whole → (ms : List MemberT) → AllMembersKnown s ms → AllMembersKnown r ms
all_members_stay s r g [] h = tt
all_members_stay s r g (m ∷ ms) h = (known_stays g m.ty h.0, all_members_stay s r g ms h.1)

-- ---- parts that leave layouts, initialisers and functions as they are

record Stays (un up : Un) : Type 0 where
  layouts : up.layouts ≡ un.layouts
  whole : up.whole ≡ un.whole
  inits : up.inits ≡ un.inits
  functions : up.functions ≡ un.functions

stays_through : {un up uq : Un} → Stays un up → Stays up uq → Stays un uq
stays_through g h = record { layouts = h.layouts ∙ g.layouts; whole = h.whole ∙ g.whole; inits = h.inits ∙ g.inits; functions = h.functions ∙ g.functions }

kept_stay : {un up : Un} → Keeps un up → Stays un up
kept_stay g = record { layouts = g.layouts; whole = g.whole; inits = g.inits; functions = g.functions }

globals_stay : {un : Un} {vs : List VarT} {xs : List TVarT} {up : Un} → Globals un vs xs up → Stays un up
globals_stay (item.no_globals) = record { layouts = refl; whole = refl; inits = refl; functions = refl }
globals_stay (item.more_globals (item.global {v = v} g0 g1 g2) rest) =
    let g = global_keeps v g0 g1 in
    stays_through (record { layouts = g.layouts; whole = g.whole; inits = g.inits; functions = g.functions }) (globals_stay rest)

grows_back : {un up : Un} → Stays un up → (layouts : List LayoutT) (whole : List Bool) → Grows up.layouts up.whole layouts whole → Grows un.layouts un.whole layouts whole
grows_back g layouts whole h = subst₂ (λ ls ws. Grows ls ws layouts whole) g.layouts g.whole h

members_stay : {un up : Un} (fin : Un) → Stays un up → MembersKnown (seen fin un) → MembersKnown (seen fin up)
members_stay {un = un} {up = up} fin g h = subst₂ (λ ls ws. MembersKnown (record { layouts = ls; whole = ws; globals = fin.globals; global_types = None; literals = fin.texts; functions = fin.functions; locals = []; local_types = None })) (sym g.layouts) (sym g.whole) h

words_stay : {un up : Un} → Stays un up → HaveWords un.layouts un.whole → HaveWords up.layouts up.whole
words_stay g h = subst₂ HaveWords (sym g.layouts) (sym g.whole) h

stays_proved : {fin un up : Un} → Stays un up → Proved fin un → ((s : Scene) → Ends s fin → Grows up.layouts up.whole s.layouts s.whole → Meant s un → Meant s up) → Proved fin up
stays_proved {fin = fin} g p meant = record {
  meant = λ s e h. meant s e h (p.meant s e (grows_back g s.layouts s.whole h));
  members = members_stay fin g p.members;
  words = words_stay g p.words;
  inits = λ s e h. subst (λ xs. FillGlobals s xs) (sym g.inits) (p.inits s e (grows_back g s.layouts s.whole h));
  functions = λ s e h. subst (λ fs. AreAll s fs) (sym g.functions) (p.functions s e (grows_back g s.layouts s.whole h));
}

-- ---- structures and unions

record_known : (s : Scene) (is_union : Bool) (k : ℕ) → kind_at s.layouts k ≡ Some is_union → IsKnown s.layouts s.whole (record_type is_union k)
record_known s true k h = h
record_known s false k h = h

new_record_proved : {fin un : Un} (is_union : Bool) (n : Text) → Sane un → Proved fin un → Proved fin (new_record is_union n un)
new_record_proved {fin = fin} {un = un} is_union n h p = record {
  meant = λ s e later.
      let m = p.meant s e (grows_through g later) in
      record { grows = later; names = meant_more s un.names n (TypeD (record_type is_union (length un.layouts))) m.names (record_known s is_union (length un.layouts) (later.kinds (length un.layouts) is_union (kind_last un.layouts (no_layout is_union)))); scopes = m.scopes };
  members = λ k l e. by k l (last_or_before un.layouts (no_layout is_union) k l e);
  words = λ k l d e. words_by k l d (last_or_before un.layouts (no_layout is_union) k l e);
  inits = λ s e later. p.inits s e (grows_through g later);
  functions = λ s e later. p.functions s e (grows_through g later);
}
  where
    g : Grows un.layouts un.whole (un.layouts ++ no_layout is_union ∷ []) (un.whole ++ false ∷ [])
    g = record_grows is_union un.layouts un.whole h.declared

    by : (k : ℕ) (l : LayoutT) → (slice_get un.layouts k ≡ Some l) ⊎ ((k ≡ length un.layouts) × (no_layout is_union ≡ l)) → AllMembersKnown (seen fin (new_record is_union n un)) l.members
    by k l (inl e) = all_members_stay (seen fin un) (seen fin (new_record is_union n un)) g l.members (p.members k l e)
    by k l (inr e) = subst (λ (m : LayoutT). AllMembersKnown (seen fin (new_record is_union n un)) m.members) e.1 tt

    words_by : (k : ℕ) (l : LayoutT) → is_declared (un.whole ++ false ∷ []) k ≡ true → (slice_get un.layouts k ≡ Some l) ⊎ ((k ≡ length un.layouts) × (no_layout is_union ≡ l)) → 0 < l.size
    words_by k l d (inl e) = p.words k l (declared_before un.whole k d) e
    words_by k l d (inr e) =
        let there : is_declared un.whole (length un.layouts) ≡ true = subst (λ j. is_declared un.whole j ≡ true) e.0 (declared_before un.whole k d) in
        absurd (omega (arith, h.declared.equal, slice_get_within un.whole (length un.layouts) true (declared_there un.whole (length un.layouts) there)))

record_proved : {fin un : Un} (is_union : Bool) (n : Text) → Sane un → Proved fin un → Proved fin (record_entered is_union n un)
record_proved {fin = fin} {un = un} is_union n h p = by_record (λ up. Proved fin up) is_union n un p (new_record_proved is_union n h p)

-- one that is declared whole
layout_proved : {fin un : Un} (n : ℕ) (l : LayoutT) → Sane un → is_declared un.whole n ≡ false → kind_at un.layouts n ≡ Some l.is_union → Proved fin un → AllMembersKnown (seen fin un) l.members → 0 < l.size → Proved fin (with_layout n l un)
layout_proved {fin = fin} {un = un} n l h new kind p known words = record {
  meant = λ s e later. let m = p.meant s e (grows_through g later) in record { grows = later; names = m.names; scopes = m.scopes };
  members = λ k m e. by k m (replaced_at un.layouts n l k m e);
  words = λ k m d e. words_by k m d e (cases_eq k n);
  inits = λ s e later. p.inits s e (grows_through g later);
  functions = λ s e later. p.functions s e (grows_through g later);
}
  where
    g : Grows un.layouts un.whole (slice_set un.layouts n l) (slice_set un.whole n true)
    g = layout_grows un.layouts un.whole n l h.declared new kind

    by : (k : ℕ) (m : LayoutT) → ((k ≡ n) × (l ≡ m)) ⊎ (slice_get un.layouts k ≡ Some m) → AllMembersKnown (seen fin (with_layout n l un)) m.members
    by k m (inl e) = subst (λ (x : LayoutT). AllMembersKnown (seen fin (with_layout n l un)) x.members) e.1 (all_members_stay (seen fin un) (seen fin (with_layout n l un)) g l.members known)
    by k m (inr e) = all_members_stay (seen fin un) (seen fin (with_layout n l un)) g m.members (p.members k m e)

    words_by : (k : ℕ) (m : LayoutT) → is_declared (slice_set un.whole n true) k ≡ true → slice_get (slice_set un.layouts n l) k ≡ Some m → (k ≡ n) ⊎ (k ≡ n → ⊥) → 0 < m.size
    words_by k m d e (inl s) =
        let f = replaced_there un.layouts n l (omega (arith, s, length-set un.layouts n l, slice_get_within (slice_set un.layouts n l) k m e)) in
        let at : slice_get (slice_set un.layouts n l) n ≡ Some m = subst (λ j. slice_get (slice_set un.layouts n l) j ≡ Some m) s e in
        let same : l ≡ m = cc in
        subst (λ (x : LayoutT). 0 < x.size) same words
    words_by k m d e (inr s) = p.words k m (sym (ap (λ o. holds (λ (declared : Bool). declared) o) (others_stay un.whole n true k s)) ∙ d) (sym (others_stay un.layouts n l k s) ∙ e)

-- ---- initialisers and functions of the unit

fills_more : (s : Scene) (inits : List TStmtT) (xs : List TVarT) → FillGlobals s inits → AreFilled s true xs → FillGlobals s (inits ++ VarsZ xs ∷ [])
fills_more s [] xs h k = (k, tt)
fills_more s (i ∷ is) xs h k = (h.0, fills_more s is xs h.1 k)

init_proved : {fin un : Un} (xs : List TVarT) → Proved fin un → ((s : Scene) → Ends s fin → Grows un.layouts un.whole s.layouts s.whole → AreFilled s true xs) → Proved fin (with_init xs un)
init_proved {un = un} xs p filled = record {
  meant = λ s e g. let m = p.meant s e g in record { grows = m.grows; names = m.names; scopes = m.scopes };
  members = p.members;
  words = p.words;
  inits = λ s e g. fills_more s un.inits xs (p.inits s e g) (filled s e g);
  functions = p.functions;
}

functions_more : (s : Scene) (fs : List TFunctionT) (f : TFunctionT) → AreFunctions s fs → IsFunction s f → AreFunctions s (fs ++ f ∷ [])
functions_more s [] f h k = (k, tt)
functions_more s (g ∷ fs) f h k = (h.0, functions_more s fs f h.1 k)

typed_more : (s : Scene) (fs : List TFunctionT) (f : TFunctionT) → HaveTypedObjects s fs → HasTypedObjects s f → HaveTypedObjects s (fs ++ f ∷ [])
typed_more s [] f h k = (k, tt)
typed_more s (g ∷ fs) f h k = (h.0, typed_more s fs f h.1 k)

all_more : (s : Scene) (fs : List TFunctionT) (f : TFunctionT) → AreAll s fs → IsFunction s f × HasTypedObjects s f → AreAll s (fs ++ f ∷ [])
all_more s fs f h k = (functions_more s fs f h.0 k.0, typed_more s fs f h.1 k.1)

-- what is shown inside a function, where scopes are open
record InFunction (fin un : Un) : Type 0 where
  names : (s : Scene) → Ends s fin → Grows un.layouts un.whole s.layouts s.whole → AreMeant s un.names
  members : MembersKnown (seen fin un)
  words : HaveWords un.layouts un.whole
  inits : (s : Scene) → Ends s fin → Grows un.layouts un.whole s.layouts s.whole → FillGlobals s un.inits
  functions : (s : Scene) → Ends s fin → Grows un.layouts un.whole s.layouts s.whole → AreAll s un.functions

in_function : {fin un up : Un} → Stays un up → Proved fin un → ((s : Scene) → Ends s fin → Grows up.layouts up.whole s.layouts s.whole → AreMeant s up.names) → InFunction fin up
in_function {fin = fin} g p names = record {
  names = names;
  members = members_stay fin g p.members;
  words = words_stay g p.words;
  inits = λ s e h. subst (λ xs. FillGlobals s xs) (sym g.inits) (p.inits s e (grows_back g s.layouts s.whole h));
  functions = λ s e h. subst (λ fs. AreAll s fs) (sym g.functions) (p.functions s e (grows_back g s.layouts s.whole h));
}

-- a function is left
ended_proved : {fin un : Un} → InFunction fin un → Proved fin (ended un)
ended_proved p = record {
  meant = λ s e g. record { grows = g; names = p.names s e g; scopes = tt };
  members = p.members;
  words = p.words;
  inits = p.inits;
  functions = p.functions;
}

with_body_proved : {fin un : Un} (name : Text) (ps : List Ty) (t : Ty) (x : TStmtTs) → InFunction fin un → ((s : Scene) → Ends s fin → Grows un.layouts un.whole s.layouts s.whole → IsFunction s (record { name = name; params = ps; locals = un.sizes; made = made (state_in un); gives = t; body = x }) × HasTypedObjects s (record { name = name; params = ps; locals = un.sizes; made = made (state_in un); gives = t; body = x })) → Proved fin (with_function name ps t (Some x) un)
with_body_proved {un = un} name ps t x p sound = record {
  meant = λ s e g. record { grows = g; names = p.names s e g; scopes = tt };
  members = p.members;
  words = p.words;
  inits = p.inits;
  functions = λ s e g. all_more s un.functions (record { name = name; params = ps; locals = un.sizes; made = made (state_in un); gives = t; body = x }) (p.functions s e g) (sound s e g);
}

body_names : {un : Un} {t : Ty} {o : Option StmtTs} {x : Option TStmtTs} {ur : Un} → MaybeBody un t o x ur → ur.names ≡ un.names
body_names (item.no_body) = refl
body_names (item.has_body (item.body_at g0)) = refl

function_names : (name : Text) {fin un : Un} {p : Span} {of : TypeT} {t : Ty} {vs : List VarT} {ps : List Ty} {o : Option StmtTs} {x : Option TStmtTs} {up uq ur : Un} → Proved fin un → TypeAt un p of t up → Parameters (begun up) vs ps uq → MaybeBody (named name (FunctionD ps t) uq) t o x ur → Later ur fin
    → (s : Scene) → Ends s fin → Grows ur.layouts ur.whole s.layouts s.whole → AreMeant s ur.names
function_names name {t = t} {ps = ps} {uq = uq} q g0 g1 g2 later s e h =
    let after = keeps_through (named_keeps name (FunctionD ps t) uq) (maybe_body_keeps g2) in
    let back = grows_back (kept_stay (function_keeps name g0 g1 g2)) s.layouts s.whole h in
    let head = head_known name (ends_call uq.sizes None e) g0 g1 (later_through (kept_later after) later) (begins_itself uq.sizes) (none_told 0 ps) (q.meant (in_call s uq.sizes) (ends_call uq.sizes None e) back) in
    subst (λ names. AreMeant s names) (sym (body_names g2)) head.meant.names

function_proved : (name : Text) {fin un : Un} {p : Span} {of : TypeT} {vs : List VarT} {ps : List Ty} {up uq start : Un} {t : Ty} {o : Option StmtTs} {x : Option TStmtTs} {ur : Un} → Sane un → Proved fin un → TypeAt un p of t up → Parameters (begun up) vs ps uq → start ≡ named name (FunctionD ps t) uq → MaybeBody start t o x ur → InFunction fin ur → IsRuled ur name ps t o → Later ur fin
    → Proved fin (with_function name ps t x ur)
function_proved name h q g0 g1 e (item.no_body) inside r later = ended_proved inside
function_proved name {ps = ps} h q g0 g1 e (item.has_body {up = up} {gives = t} {body = body} {x = x} g2) inside r later =
    with_body_proved name ps t x inside (λ s ends g.
    let g3 = subst (λ u. BodyAt u t body x up) e g2 in
    let before = grows_back (kept_stay (function_keeps name g0 g1 (item.has_body g3))) s.layouts s.whole g in
    let called = λ (sizes : List ℕ) (types : Option (List Ty)). q.meant (calling s sizes types) (ends_call sizes types ends) before in
    (function_sound name ends called h q.words g0 g1 g3 r later, function_typed name ends called h g0 g1 g3 later))

-- ---- items

type_name_meant : {s : Scene} {fin un : Un} (name : Text) {p : Span} {of : TypeT} {t : Ty} {up : Un} → Ends s fin → TypeAt un p of t up → Later up fin → Meant s un → Meant s (named name (TypeD t) up)
type_name_meant name {t = t} e g0 later m = let ty = type_known e g0 later m in named_meant name (TypeD t) ty.meant ty.known

item_proved : {fin un : Un} {i : ItemT} {x : Unit {0}} {up : Un} → HaveNumbers fin → Sane un → Proved fin un → Item un i x up → Later up fin → Proved fin up
item_proved numbers h p (item.record_name {is_union = is_union} {name = name} g0) later = record_proved is_union name h p
item_proved {fin = fin} numbers h p (item.record_members {un = un} {up = up} {is_union = is_union} {name = name} {s = span} {l = l} {n = n} g0 g1) later =
    let entered = record_entered is_union name un in
    let sane = (record_follows is_union name un h).sane in
    let q = record_proved is_union name h p in
    let g : Keeps entered up = members_keep g0 in
    let whole = members_whole span is_union name up l n g1 in
    let kind : kind_at up.layouts n ≡ Some l.is_union = completed_kind span is_union name n g0 (kept_sane g sane) g1 in
    let after : Later up fin = later_through (with_layout_later n l up (kept_sane g sane) whole.new kind) later in
    let up_proved : Proved fin up = stays_proved (kept_stay g) q (λ s e k m. (members_known e g0 after m tt).meant) in
    let before = seen fin entered in
    let known = members_known (seen_ends fin entered numbers q.members) g0 after (q.meant before (seen_ends fin entered numbers q.members) (grows_itself entered.layouts entered.whole)) tt in
    let members_now = all_members_stay before (seen fin up) (kept_later g).grows l.members known.known in
    let so_far = members_so_far g0 (no_members_yet entered.layouts entered.whole is_union) in
    let placed = subst₂ (λ ls ws. AreMembers ls ws l) (sym g.layouts) (sym g.whole) so_far in
    layout_proved n l (kept_sane g sane) whole.new kind up_proved members_now (placed_has_words (seen fin up) l up_proved.words placed.places whole.members members_now placed.members)
item_proved numbers h p (item.enumeration {un = un} {name = name} g0 g1) later = stays_proved (kept_stay (keeps_through (enum_keeps name un) (enumerators_keep g0))) p (λ s e g m. enumeration_meant name g0 m)
item_proved numbers h p (item.type_name {up = up} {name = name} {t = t} g0 g1) later =
    let after = named_keeps name (TypeD t) up in
    stays_proved (kept_stay (keeps_through (type_keeps g0) after)) p (λ s e g m. type_name_meant name e g0 (later_through (kept_later after) later) m)
item_proved numbers h p (item.objects {up = up} {xs = xs} g0) later =
    let same = globals_stay g0 in
    let after = later_through (with_init_later xs up) later in
    let q = stays_proved same p (λ s e g m. (globals_known e h g0 after m).meant) in
    init_proved xs q (λ s e g. (globals_known e h g0 after (p.meant s e (grows_back same s.layouts s.whole g))).filled)
item_proved numbers h p (item.function {ur = ur} {name = name} {o = o} {s = span} {t = t} {ps = ps} {x = x} g0 g1 g2 g3) later =
    let keeps = function_keeps name g0 g1 g2 in
    let after = later_through (with_function_later name ps g2) later in
    let inside = in_function (kept_stay keeps) p (function_names name p g0 g1 g2 after) in
    function_proved name h p g0 g1 refl g2 inside (function_ruled span ur name ps t o g3) after

items_proved : {fin un : Un} {all : List ItemT} {x : Unit {0}} {up : Un} → HaveNumbers fin → Sane un → Proved fin un → Items un all x up → Later up fin → Proved fin up
items_proved numbers h p (item.no_items) later = p
items_proved numbers h p (item.more_items g0 g1) later =
    let one = item_follows h g0 in
    let rest = items_follow one.sane g1 in
    items_proved numbers one.sane (item_proved numbers h p g0 (later_through rest.later later)) g1 later

-- ---- the whole program

all_sized : (layouts : List LayoutT) (whole : List Bool) (s : Scene) → s.layouts ≡ layouts → s.whole ≡ whole → (ms : List MemberT) → AllMembersKnown s ms → AllWhole whole ms → AreSized layouts whole ms
all_sized layouts whole s e f [] h k = tt
all_sized layouts whole s e f (m ∷ ms) h k = (record { known = subst₂ (λ ls ws. IsKnown ls ws m.ty) e f h.0; sized = k.0 }, all_sized layouts whole s e f ms h.1 k.1)

laid_out : (fin : Un) (l : LayoutT) → AreLaid fin.layouts fin.whole l → AllMembersKnown (seen fin fin) l.members → 0 < l.size → IsLaidOut fin.layouts fin.whole l
laid_out fin l a h words = record { places = a.places; members = all_sized fin.layouts fin.whole (seen fin fin) refl refl l.members h a.members; words = words; size = a.size }

-- one that has members, or none
is_one : (layouts : List LayoutT) (whole : List Bool) (l : LayoutT) (w : Bool) → (w ≡ true → IsLaidOut layouts whole l × (has_members l ≡ true)) → (w ≡ false → l ≡ no_layout l.is_union) → IsDeclaredAs layouts whole l (has_members l) × (w ≡ has_members l)
is_one layouts whole l true laid empty = let h = laid refl in (subst (IsDeclaredAs layouts whole l) (sym h.1) h.0, sym h.1)
is_one layouts whole l false laid empty =
    let h = empty refl in
    let none : has_members l ≡ false = ap (λ (x : LayoutT). has_members x) h in
    (subst (IsDeclaredAs layouts whole l) (sym none) (ap (λ (x : LayoutT). x.size) h), sym none)

declared_as : (layouts : List LayoutT) (whole : List Bool) (ls : List LayoutT) (ws : List Bool) → length ws ≡ length ls
    → ((k : ℕ) (l : LayoutT) → is_declared ws k ≡ true → slice_get ls k ≡ Some l → IsLaidOut layouts whole l × (has_members l ≡ true))
    → ((k : ℕ) (l : LayoutT) → is_declared ws k ≡ false → slice_get ls k ≡ Some l → l ≡ no_layout l.is_union) → AreDeclaredAs layouts whole ls × (ws ≡ wholes ls)
declared_as layouts whole [] [] e laid empty = (tt, refl)
declared_as layouts whole [] (w ∷ ws) e laid empty = absurd (omega (arith, e))
declared_as layouts whole (l ∷ ls) [] e laid empty = absurd (omega (arith, e))
declared_as layouts whole (l ∷ ls) (w ∷ ws) e laid empty =
    let one = is_one layouts whole l w (λ d. laid 0 l d refl) (λ d. empty 0 l d refl) in
    let rest = declared_as layouts whole ls ws (omega (arith, e)) (λ k m. laid (suc k) m) (λ k m. empty (suc k) m) in
    ((one.0, rest.0), ap₂ (λ x xs. x ∷ xs) one.1 rest.1)

-- ---- names

one_global : (i j : ℕ) (t u : Ty) → Some (GlobalD i t) ≡ Some (GlobalD j u) → i ≡ j
one_global i j t u e = cc

one_number : (i j : ℕ) → Some i ≡ Some j → i ≡ j
one_number i j e = cc

mapped_at : {A : Type 0} (f : A → Text) (xs : List A) (k : ℕ) (n : Text) → slice_get (map f xs) k ≡ Some n → (x : A) × (slice_get xs k ≡ Some x) × (f x ≡ n)
mapped_at f [] k n e = absurd cc
mapped_at f (x ∷ xs) zero n e = (x, refl, cc)
mapped_at f (x ∷ xs) (suc k) n e = mapped_at f xs k n e

globals_apart : (globals : List (Text × ℕ)) (names : List (Text × Decl)) → AreNamed names globals → AreApart (map (λ g. g.0) globals)
globals_apart globals names h i j n e f =
    let a = mapped_at (λ (g : Text × ℕ). g.0) globals i n e in
    let b = mapped_at (λ (g : Text × ℕ). g.0) globals j n f in
    let x = h i a.0 a.1 in
    let y = h j b.0 b.1 in
    let p : find n names ≡ Some (GlobalD i x.0) = subst (λ m. find m names ≡ Some (GlobalD i x.0)) a.2 x.1 in
    let q : find n names ≡ Some (GlobalD j y.0) = subst (λ m. find m names ≡ Some (GlobalD j y.0)) b.2 y.1 in
    one_global i j x.0 y.0 (sym p ∙ q)

functions_apart : (functions : List TFunctionT) (names : List (Text × Decl)) (bodies : List (Text × ℕ)) → AreOwn names bodies functions → AreApart (map (λ f. f.name) functions)
functions_apart functions names bodies h i j n e f =
    let a = mapped_at (λ (g : TFunctionT). g.name) functions i n e in
    let b = mapped_at (λ (g : TFunctionT). g.name) functions j n f in
    let p : find n bodies ≡ Some i = subst (λ m. find m bodies ≡ Some i) a.2 (h i a.0 a.1).0 in
    let q : find n bodies ≡ Some j = subst (λ m. find m bodies ≡ Some j) b.2 (h j b.0 b.1).0 in
    one_number i j (sym p ∙ q)

-- the types of the globals, each that its name is declared with
record GlobalTypes (fin : Un) : Type 0 where
  types : List Ty
  told : AreTold fin (Some types)
  sizes : map (λ g. g.1) fin.globals ≡ map (words_of fin.layouts) types

record Chosen (IsIts : ℕ → Text × ℕ → Ty → Type 0) (layouts : List LayoutT) (globals : List (Text × ℕ)) : Type 0 where
  types : List Ty
  told : (k : ℕ) (g : Text × ℕ) (t : Ty) → slice_get globals k ≡ Some g → IsIts k g t → slice_get types k ≡ Some t
  sizes : map (λ g. g.1) globals ≡ map (words_of layouts) types

first_told : (IsIts : ℕ → Text × ℕ → Ty → Type 0) (g : Text × ℕ) (gs : List (Text × ℕ)) (t : Ty) (ts : List Ty) → IsIts 0 g t → ((k : ℕ) (x : Text × ℕ) (u v : Ty) → IsIts k x u → IsIts k x v → u ≡ v)
    → ((k : ℕ) (x : Text × ℕ) (u : Ty) → slice_get gs k ≡ Some x → IsIts (suc k) x u → slice_get ts k ≡ Some u)
    → (k : ℕ) (x : Text × ℕ) (u : Ty) → slice_get (g ∷ gs) k ≡ Some x → IsIts k x u → slice_get (t ∷ ts) k ≡ Some u
first_told IsIts g gs t ts its one rest zero x u e h =
    let same : g ≡ x = cc in
    ap Some (one 0 x t u (subst (λ y. IsIts 0 y t) same its) h)
first_told IsIts g gs t ts its one rest (suc k) x u e h = rest k x u e h

choose : (IsIts : ℕ → Text × ℕ → Ty → Type 0) (layouts : List LayoutT) (globals : List (Text × ℕ)) → ((k : ℕ) (g : Text × ℕ) → slice_get globals k ≡ Some g → (t : Ty) × IsIts k g t)
    → ((k : ℕ) (g : Text × ℕ) (t u : Ty) → IsIts k g t → IsIts k g u → t ≡ u) → ((k : ℕ) (g : Text × ℕ) (t : Ty) → slice_get globals k ≡ Some g → IsIts k g t → g.1 ≡ words_of layouts t) → Chosen IsIts layouts globals
choose IsIts layouts [] its one words = record { types = []; told = λ k g t e h. absurd cc; sizes = refl }
choose IsIts layouts (g ∷ gs) its one words =
    let first = its 0 g refl in
    let rest = choose (λ k. IsIts (suc k)) layouts gs (λ k. its (suc k)) (λ k. one (suc k)) (λ k. words (suc k)) in
    record {
      types = first.0 ∷ rest.types;
      told = first_told IsIts g gs first.0 rest.types first.1 one rest.told;
      sizes = ap₂ (λ n ns. n ∷ ns) (words 0 g first.0 refl first.1) rest.sizes;
    }

one_type : (i j : ℕ) (t u : Ty) → Some (GlobalD i t) ≡ Some (GlobalD j u) → t ≡ u
one_type i j t u e = cc

global_types : (fin : Un) → AreNamed fin.names fin.globals → AreMeant (seen fin fin) fin.names → GlobalTypes fin
global_types fin named meant =
    let chosen = choose (λ k g t. find g.0 fin.names ≡ Some (GlobalD k t)) fin.layouts fin.globals named (λ k g t u e f. one_type k k t u (sym e ∙ f)) (λ k g t e f. words k g t e (name_meant (seen fin fin) g.0 fin.names (GlobalD k t) meant f)) in
    record { types = chosen.types; told = chosen.told; sizes = chosen.sizes }
  where
    words : (k : ℕ) (g : Text × ℕ) (t : Ty) → slice_get fin.globals k ≡ Some g → IsMeant (seen fin fin) (GlobalD k t) → g.1 ≡ words_of fin.layouts t
    words k g t e h =
        let at : option_map (λ (x : Text × ℕ). x.1) (slice_get fin.globals k) ≡ Some g.1 = ap (option_map (λ (x : Text × ℕ). x.1)) e in
        one_number g.1 (words_of fin.layouts t) (sym at ∙ h.1.0)

-- the function `main`
main_there : (fs : List TFunctionT) (o : Option ℕ) (k : ℕ) → plain_number fs o ≡ Some k → holds is_plain (slice_get fs k) ≡ true
main_there fs None k e = absurd cc
main_there fs (Some j) k e = by (holds is_plain (slice_get fs j)) refl e
  where
    by : (b : Bool) → holds is_plain (slice_get fs j) ≡ b → (if b then Some j else None) ≡ Some k → holds is_plain (slice_get fs k) ≡ true
    by true h e = let same : j ≡ k = cc in subst (λ i. holds is_plain (slice_get fs i) ≡ true) same h
    by false h e = absurd cc

-- a scene of the whole program, under the structures and unions that are declared whole
abbrev scene_with : Un → List Bool → Scene
scene_with fin whole = record { layouts = fin.layouts; whole = whole; globals = fin.globals; global_types = None; literals = fin.texts; functions = fin.functions; locals = []; local_types = None }

record Parts (fin : Un) (types : List Ty) (whole : List Bool) : Type 0 where
  layouts : AreDeclaredAs fin.layouts whole fin.layouts
  inits : FillGlobals (scene_with fin whole) fin.inits
  functions : AreFunctions (scene_with fin whole) fin.functions
  typed_inits : FillGlobals (with_types (scene_with fin whole) types) fin.inits
  typed_functions : HaveTypedObjects (with_types (scene_with fin whole) types) fin.functions

unit_sound : (all : List ItemT) (fin : Un) (k : ℕ) → Items (opening (bodies_of all)) all tt fin → main_of fin ≡ Some k → IsSound (program_of fin k)
unit_sound units fin k g m =
    let numbers = unit_numbers units fin g in
    let sane = (items_follow (opening_sane (bodies_of units)) g).sane in
    let p = items_proved numbers (opening_sane (bodies_of units)) (opening_proved fin (bodies_of units)) g (later_itself fin) in
    let e = seen_ends fin fin numbers p.members in
    let same = grows_itself fin.layouts fin.whole in
    let types = global_types fin sane.named (p.meant (seen fin fin) e same).names in
    let told : Ends (with_types (seen fin fin) types.types) fin = record { numbers = numbers; functions = refl; globals = refl; types = types.told; literals = refl; members = p.members } in
    let declared = declared_as fin.layouts fin.whole fin.layouts fin.whole sane.declared.equal (λ j l d f. let a = sane.declared.laid j l d f in (laid_out fin l a (p.members j l f) (p.words j l d f), a.some)) sane.declared.empty in
    let parts : Parts fin types.types fin.whole = record {
      layouts = declared.0;
      inits = p.inits (seen fin fin) e same;
      functions = (p.functions (seen fin fin) e same).0;
      typed_inits = p.inits (with_types (seen fin fin) types.types) told same;
      typed_functions = (p.functions (with_types (seen fin fin) types.types) told same).1;
    } in
    let all : Parts fin types.types (wholes fin.layouts) = subst (Parts fin types.types) declared.1 parts in
    record {
      layouts = all.layouts;
      globals = sane.globals;
      literals = sane.texts.words;
      inits = all.inits;
      functions = all.functions;
      types = ∣ record { globals = types.types; sizes = types.sizes; inits = all.typed_inits; functions = all.typed_functions } ∣₁;
      global_names = globals_apart fin.globals fin.names sane.named;
      function_names = functions_apart fin.functions fin.names fin.bodies sane.functions;
      main = main_there fin.functions (find (codes "main") fin.bodies) k m;
    }

-- A program that is typed is sound.
pub programs_sound : (all : List ItemT) (p : ProgramT) → WellTyped all p → IsSound p
programs_sound all p (check.unit {un = un} {k = k} g m) = unit_sound all un k g m
