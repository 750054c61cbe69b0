-- The functions of a unit are sound.
use Rattle.std.proofs.Common.{◌≡◌, ℕ, suc, ◌+◌, ◌≤◌, Bool, false, List, [], ◌∷◌, ◌++◌, length, length-append, map, sum, Option, Some, None, Ok, refl, sym, ap, ◌∙◌, subst, subst₂, arith, append-nil, append_assoc}
use Rattle.c_tree.specs.declared.span.Span.{Span}
use Rattle.c_tree.specs.Tree.{TypeT, VarT, StmtTs}
use Rattle.c_types.specs.Types.{Ty, LayoutT}
use Rattle.c_types.specs.Typed.{TStmtTs}
use Rattle.c_types.specs.Sizes.{words_of}
use Rattle.c_rules.specs.Rules.{judged}
use Rattle.c_exprs.specs.Env.{Text, Decl, FunctionD}
use Rattle.c_stmts.specs.State.{made, locals_limit}
use Rattle.c_check.specs.Reading.{Un, function_under, state_in, with_texts, with_names, named, begun, parameter_rule, with_parameter, result_rule}
use Rattle.c_check.specs.ItemTypes as item
use Rattle.c_check.specs.ItemTypes.{TypeAt, BodyAt, Parameter, Parameters}
use Rattle.c_facts.specs.Made.{all_made_in, IsMadeOnce}
use Rattle.c_facts.specs.Sound.{Scene, IsKnown, IsOfType, IsLocal, AreStatements, AreCallObjects, AllHaveWords, calling, in_call, IsFunction, HasTypedObjects}
use Rattle.c_facts.proofs.Within.{Begins, AllKnown}
use Rattle.c_facts.proofs.Told.{body_is, spends_are}
use Rattle.c_facts.proofs.ObjectTypes.{AreOfTypes, none_told, part_told, StatementsTold, Declared, statements_declare, map_both, map_count, words_stay}
use Rattle.c_facts.proofs.ObjectWords.{plain_words, all_push, body_words_are}
use Rattle.c_facts.proofs.Positive.{HaveWords}
use Rattle.c_facts.proofs.Fronts.{begins_itself, begins_through, begins_at, last_at}
use Rattle.c_facts.proofs.Stays.{parameter_stays, result_stays, parameter_facts}
use Rattle.c_facts.proofs.ItemRules.{parameter_rule_holds, IsRuled}
use Rattle.c_facts.proofs.Readings.{Later, later_through, Keeps, keeps_through, kept_later, by_named, named_keeps, begun_keeps, with_parameter_keeps, parameter_keeps, parameters_keep, body_keeps, type_keeps}
use Rattle.c_facts.proofs.Sane.{Sane, kept_sane}
use Rattle.c_facts.proofs.Counts.{numbers_then}
use Rattle.c_facts.proofs.Meant.{Ends, Meant, literals_begin, named_meant, type_known, members_whole_then}
use Rattle.c_facts.proofs.Growth.{words_later}
use Rattle.c_facts.proofs.Scopes.{in_declared, objects_rise}
use Rattle.c_facts.proofs.Making.{Makes, makes_same, makes_itself, makes_all, declared_makes, statements_make, made_once, Between, call_rises}

-- ---- parameters

-- the objects of parameters, each by its rule
abbrev pub AreParameters : List LayoutT → List Bool → List Ty → List ℕ → Type 0
AreParameters layouts whole [] [] = Unit {0}
AreParameters layouts whole (ty ∷ tys) (n ∷ ns) = IsKnown layouts whole ty × (judged (parameter_rule layouts whole ty) ≡ Ok n) × AreParameters layouts whole tys ns
AreParameters layouts whole _ _ = ⊥

type_sizes : {un : Un} {p : Span} {of : TypeT} {t : Ty} {up : Un} → TypeAt un p of t up → (up.sizes ≡ un.sizes) × (up.used ≡ un.used)
type_sizes (item.type_at g0) = (refl, refl)

with_parameter_sizes : (n : Text) (ty : Ty) (words : ℕ) (un : Un) → ((with_parameter n ty words un).sizes ≡ un.sizes ++ words ∷ []) × ((with_parameter n ty words un).used ≡ un.used)
unfolding with_parameter
with_parameter_sizes n ty words un = (refl, refl)

-- a parameter becomes an object of the call
parameter_meant : {s : Scene} {un : Un} (n : Text) (ty : Ty) (words : ℕ) → Meant s un → IsKnown s.layouts s.whole ty → IsLocal s (length un.sizes) ty → Meant s (with_parameter n ty words un)
unfolding with_parameter
parameter_meant {s = s} {un = un} n ty words m known object = record { grows = m.grows; names = m.names; scopes = in_declared s n (record { number = length un.sizes; ty = ty }) un.scopes m.scopes (known, object) }

-- what parameters add
pub record Takes (s : Scene) (un : Un) (ps : List Ty) (up : Un) : Type 0 where
  pub sizes : List ℕ
  pub added : up.sizes ≡ un.sizes ++ sizes
  pub used : up.used ≡ un.used
  pub rules : AreParameters s.layouts s.whole ps sizes
  pub meant : Meant s up

-- one object more
pub record AddsOne (un up : Un) : Type 0 where
  pub size : ℕ
  pub added : up.sizes ≡ un.sizes ++ size ∷ []
  pub used : up.used ≡ un.used

pub parameter_adds : {un : Un} {v : VarT} {t : Ty} {up : Un} → Parameter un v t up → AddsOne un up
parameter_adds (item.parameter {un = un} {up = up} {v = v} {t = t} {n = n} g0 g1) =
    let sizes = with_parameter_sizes v.name t n up in
    let types = type_sizes g0 in
    record { size = n; added = sizes.0 ∙ ap (λ ns. ns ++ n ∷ []) types.0; used = sizes.1 ∙ types.1 }

parameters_sizes : {un : Un} {vs : List VarT} {ps : List Ty} {up : Un} → Parameters un vs ps up → Begins un.sizes up.sizes
parameters_sizes (item.no_parameters {un = un}) = begins_itself un.sizes
parameters_sizes (item.more_parameters {un = un} {up = up} {uq = uq} g0 rest) =
    let one = parameter_adds g0 in
    begins_through un.sizes up.sizes uq.sizes (one.size ∷ [], one.added) (parameters_sizes rest)

-- what a parameter adds
record TakesOne (s : Scene) (un : Un) (t : Ty) (up : Un) : Type 0 where
  size : ℕ
  added : up.sizes ≡ un.sizes ++ size ∷ []
  used : up.used ≡ un.used
  known : IsKnown s.layouts s.whole t
  rule : judged (parameter_rule s.layouts s.whole t) ≡ Ok size
  meant : Meant s up

parameter_known : {s : Scene} {fin un : Un} {v : VarT} {t : Ty} {up : Un} → Ends s fin → Parameter un v t up → Later up fin → Begins up.sizes s.locals → IsOfType s.local_types (length un.sizes) t → Meant s un → TakesOne s un t up
parameter_known {s = s} e (item.parameter {un = un} {up = up} {v = v} {t = t} {n = n} g0 g1) later b told m =
    let ty = type_known e g0 (later_through (kept_later (with_parameter_keeps v.name t n up)) later) m in
    let rule = parameter_rule_holds v.span up v.name t n g1 in
    let facts = parameter_facts up.layouts up.whole t n rule in
    let sizes = with_parameter_sizes v.name t n up in
    let types = type_sizes g0 in
    let room : Begins (up.sizes ++ n ∷ []) s.locals = subst (λ ns. Begins ns s.locals) sizes.0 b in
    let object : IsLocal s (length up.sizes) t = (
      begins_at (up.sizes ++ n ∷ []) s.locals (length up.sizes) n room (last_at up.sizes n) ∙ ap Some (sym facts.words ∙ words_later ty.meant.grows t facts.sized),
      subst (λ (ns : List ℕ). IsOfType s.local_types (length ns) t) (sym types.0) told,
    ) in
    record {
      size = n;
      added = sizes.0 ∙ ap (λ ns. ns ++ n ∷ []) types.0;
      used = sizes.1 ∙ types.1;
      known = ty.known;
      rule = parameter_stays ty.meant.grows t n rule;
      meant = parameter_meant v.name t n ty.meant ty.known object;
    }

pub parameters_known : {s : Scene} {fin un : Un} {vs : List VarT} {ps : List Ty} {up : Un} → Ends s fin → Parameters un vs ps up → Later up fin → Begins up.sizes s.locals → AreOfTypes s.local_types (length un.sizes) ps → Meant s un → Takes s un ps up
parameters_known e (item.no_parameters {un = un}) later b told m = record { sizes = []; added = sym (append-nil un.sizes); used = refl; rules = tt; meant = m }
parameters_known {s = s} e (item.more_parameters {un = un} {up = up} {uq = uq} {xs = xs} g0 rest) later b told m =
    let one = parameter_known e g0 (later_through (kept_later (parameters_keep rest)) later) (begins_through up.sizes uq.sizes s.locals (parameters_sizes rest) b) told.0 m in
    let count : length up.sizes ≡ suc (length un.sizes) = omega (arith, ap length one.added, length-append un.sizes (one.size ∷ [])) in
    let others = parameters_known e rest later b (subst (λ n. AreOfTypes s.local_types n xs) (sym count) told.1) one.meant in
    record {
      sizes = one.size ∷ others.sizes;
      added = others.added ∙ ap (λ ns. ns ++ others.sizes) one.added ∙ append_assoc un.sizes (one.size ∷ []) others.sizes;
      used = others.used ∙ one.used;
      rules = (one.known, one.rule, others.rules);
      meant = others.meant;
    }

parameters_all_known : (s : Scene) (ps : List Ty) (ns : List ℕ) → AreParameters s.layouts s.whole ps ns → AllKnown s ps
parameters_all_known s [] [] h = tt
parameters_all_known s [] (n ∷ ns) h = absurd h
parameters_all_known s (p ∷ ps) [] h = absurd h
parameters_all_known s (p ∷ ps) (n ∷ ns) h = (h.0, parameters_all_known s ps ns h.2)

-- the parameters of a call, then its variables
call_objects : (layouts : List LayoutT) (whole : List Bool) (ps : List Ty) (ms ns : List ℕ) → AreParameters layouts whole ps ms → sum ns ≤ locals_limit → AreCallObjects layouts whole ps (ms ++ ns)
call_objects layouts whole [] [] ns h room = room
call_objects layouts whole [] (m ∷ ms) ns h room = absurd h
call_objects layouts whole (p ∷ ps) [] ns h room = absurd h
call_objects layouts whole (p ∷ ps) (m ∷ ms) ns h room = (h.0, h.1, call_objects layouts whole ps ms ns h.2 room)

-- each parameter has a word at least
parameter_words : {un : Un} {v : VarT} {t : Ty} {up : Un} → Parameter un v t up → HaveWords un.layouts un.whole → length un.whole ≡ length un.layouts → AllHaveWords un.sizes → AllHaveWords up.sizes
parameter_words (item.parameter {un = un} {up = up} {v = v} {t = t} {n = n} g0 g1) h e all =
    let keeps = type_keeps g0 in
    let types = type_sizes g0 in
    let sizes = with_parameter_sizes v.name t n up in
    let words = subst₂ HaveWords (sym keeps.layouts) (sym keeps.whole) h in
    let equal = ap length keeps.whole ∙ e ∙ ap length (sym keeps.layouts) in
    let one = plain_words up.layouts up.whole words equal t n (parameter_rule_holds v.span up v.name t n g1) in
    subst AllHaveWords (sym sizes.0) (all_push up.sizes n (subst AllHaveWords (sym types.0) all) one)

parameters_words : {un : Un} {vs : List VarT} {ps : List Ty} {up : Un} → Parameters un vs ps up → HaveWords un.layouts un.whole → length un.whole ≡ length un.layouts → AllHaveWords un.sizes → AllHaveWords up.sizes
parameters_words (item.no_parameters) h e all = all
parameters_words (item.more_parameters {un = un} {up = up} g0 rest) h e all =
    let keeps = parameter_keeps g0 in
    let words = subst₂ HaveWords (sym keeps.layouts) (sym keeps.whole) h in
    let equal = ap length keeps.whole ∙ e ∙ ap length (sym keeps.layouts) in
    parameters_words rest words equal (parameter_words g0 h e all)

-- ---- the head of a function

pub record Heads (s : Scene) (name : Text) (t : Ty) (ps : List Ty) (uq : Un) : Type 0 where
  pub gives : IsKnown s.layouts s.whole t
  pub rules : AreParameters s.layouts s.whole ps uq.sizes
  pub used : uq.used ≡ 0
  pub meant : Meant s (named name (FunctionD ps t) uq)

pub head_known : (name : Text) {s : Scene} {fin un : Un} {p : Span} {of : TypeT} {t : Ty} {vs : List VarT} {ps : List Ty} {up uq : Un} → Ends s fin → TypeAt un p of t up → Parameters (begun up) vs ps uq → Later uq fin → Begins uq.sizes s.locals → AreOfTypes s.local_types 0 ps → Meant s un → Heads s name t ps uq
head_known name {s = s} {t = t} {ps = ps} {up = up} {uq = uq} e g0 g1 later b told m =
    let ty = type_known e g0 (later_through (kept_later (keeps_through (begun_keeps up) (parameters_keep g1))) later) m in
    let begin : Meant s (begun up) = record { grows = ty.meant.grows; names = ty.meant.names; scopes = (tt, tt) } in
    let takes = parameters_known e g1 later b told begin in
    record {
      gives = ty.known;
      rules = subst (λ ns. AreParameters s.layouts s.whole ps ns) (sym takes.added) takes.rules;
      used = takes.used;
      meant = named_meant name (FunctionD ps t) takes.meant (parameters_all_known s ps takes.sizes takes.rules, ty.known);
    }

-- ---- the body

pub named_sizes : (name : Text) (ps : List Ty) (t : Ty) (un : Un) → ((named name (FunctionD ps t) un).sizes ≡ un.sizes) × ((named name (FunctionD ps t) un).used ≡ un.used)
named_sizes name ps t un = by_named (λ up. (up.sizes ≡ un.sizes) × (up.used ≡ un.used)) name (FunctionD ps t) un (refl, refl) (refl, refl)

-- what a body adds to the objects of the parameters
pub record Adds (un ur : Un) : Type 0 where
  pub taken : List ℕ
  pub sizes : ur.sizes ≡ un.sizes ++ taken
  pub room : un.used ≡ 0 → sum taken ≤ locals_limit

pub body_adds : {un : Un} {t : Ty} {body : StmtTs} {x : TStmtTs} {ur : Un} → BodyAt un t body x ur → Adds un ur
body_adds {t = t} {body = body} {x = x} (item.body_at {un = un} {us = us} g0) =
    let spent = spends_are (function_under un t) (state_in un) us false false body x g0 in
    record { taken = spent.taken; sizes = spent.sizes; room = λ z. few un.used us.used (sum spent.taken) locals_limit z spent.used spent.room }
  where
    few : (a b n limit : ℕ) → a ≡ 0 → b ≡ a + n → (a ≤ limit → b ≤ limit) → n ≤ limit
    few a b n limit z e h = let k = h (omega arith) in omega arith

-- where types are told, each variable of a body has its own
abbrev BodyTold : {un : Un} {t : Ty} {body : StmtTs} {x : TStmtTs} {ur : Un} → Option (List Ty) → BodyAt un t body x ur → Type 0
BodyTold o (item.body_at g0) = StatementsTold o g0

body_declares : {un : Un} {t : Ty} {body : StmtTs} {x : TStmtTs} {ur : Un} → (g : BodyAt un t body x ur) → Declared un.layouts un.whole un.sizes ur.sizes (λ o. BodyTold o g)
body_declares (item.body_at g0) = statements_declare g0

body_known : {s : Scene} {fin un : Un} {t : Ty} {body : StmtTs} {x : TStmtTs} {ur : Un} → Ends s fin → Sane un → (g : BodyAt un t body x ur) → BodyTold s.local_types g → Later ur fin → Begins ur.sizes s.locals → Meant s un → AreStatements s x t false false
body_known {s = s} {fin = fin} {t = t} {body = body} {x = x} e h (item.body_at {un = un} {us = us} g0) told later b m =
    body_is s (function_under un t) (state_in un) us body x m.grows m.names (numbers_then s un fin e.numbers e.functions (later_through (kept_later (body_keeps (item.body_at g0))) later)) e.members (members_whole_then h) m.scopes g0 told b (literals_begin e later)

-- so has each object of a body
body_words : {s : Scene} {fin un : Un} {t : Ty} {body : StmtTs} {x : TStmtTs} {ur : Un} → Ends s fin → Sane un → HaveWords un.layouts un.whole → AllHaveWords un.sizes → (g : BodyAt un t body x ur) → BodyTold s.local_types g → Later ur fin → Begins ur.sizes s.locals → Meant s un → AllHaveWords ur.sizes
body_words {s = s} {fin = fin} {t = t} {body = body} {x = x} e h words all (item.body_at {un = un} {us = us} g0) told later b m =
    body_words_are s (function_under un t) (state_in un) us body x m.grows m.names (numbers_then s un fin e.numbers e.functions (later_through (kept_later (body_keeps (item.body_at g0))) later)) e.members (members_whole_then h) words h.declared.equal m.scopes g0 told b (literals_begin e later) all

pub ends_call : {s : Scene} {fin : Un} (sizes : List ℕ) (types : Option (List Ty)) → Ends s fin → Ends (calling s sizes types) fin
ends_call sizes types e = record { numbers = e.numbers; functions = e.functions; globals = e.globals; types = e.types; literals = e.literals; members = e.members }

-- ---- where the objects of a call are made

parameter_makes : {un : Un} {v : VarT} {t : Ty} {up : Un} → Parameter un v t up → Makes (state_in un) (state_in up) []
unfolding with_parameter
parameter_makes (item.parameter {v = v} {t = t} {n = n} (item.type_at {un = un} {us = us} g0) g1) = declared_makes (state_in un) (state_in (with_parameter v.name t n (with_texts un us))) v.name (record { number = length un.sizes; ty = t }) n refl refl refl

parameters_make : {un : Un} {vs : List VarT} {ps : List Ty} {up : Un} → Parameters un vs ps up → Makes (state_in un) (state_in up) []
parameters_make (item.no_parameters {un = un}) = makes_itself (state_in un)
parameters_make (item.more_parameters {un = un} {up = up} {uq = uq} g0 rest) = makes_all (state_in un) (state_in up) (state_in uq) [] [] (parameter_makes g0) (parameters_make rest)

named_makes : (name : Text) (d : Decl) (un : Un) → Makes (state_in un) (state_in (named name d un)) []
named_makes name d un = by_named (λ up. Makes (state_in un) (state_in up) []) name d un (makes_itself (state_in un)) (makes_same (state_in un) (state_in (with_names un (un.names ++ (name, d) ∷ []))) (record { scopes = refl; sizes = refl }))

body_makes : {un : Un} {t : Ty} {body : StmtTs} {x : TStmtTs} {ur : Un} → BodyAt un t body x ur → Makes (state_in un) (state_in ur) (all_made_in x)
body_makes (item.body_at {un = un} {us = us} g0) = statements_make g0

function_makes : (name : Text) (up : Un) {uq : Un} {vs : List VarT} {ps : List Ty} {t : Ty} {body : StmtTs} {x : TStmtTs} {ur : Un} → Parameters (begun up) vs ps uq → BodyAt (named name (FunctionD ps t) uq) t body x ur → Makes (state_in (begun up)) (state_in ur) (all_made_in x)
function_makes name up {uq = uq} {ps = ps} {t = t} {x = x} {ur = ur} g1 g2 =
    let named_now = named name (FunctionD ps t) uq in
    let head = makes_all (state_in (begun up)) (state_in uq) (state_in named_now) [] [] (parameters_make g1) (named_makes name (FunctionD ps t) uq) in
    makes_all (state_in (begun up)) (state_in named_now) (state_in ur) [] (all_made_in x) head (body_makes g2)

function_made : (name : Text) (up : Un) {uq : Un} {vs : List VarT} {ps : List Ty} {t : Ty} {body : StmtTs} {x : TStmtTs} {ur : Un} → Parameters (begun up) vs ps uq → BodyAt (named name (FunctionD ps t) uq) t body x ur → IsMadeOnce (record { name = name; params = ps; locals = ur.sizes; made = made (state_in ur); gives = t; body = x })
function_made name up {uq = uq} {ps = ps} {t = t} {x = x} {ur = ur} g1 g2 k = made_once (state_in (begun up)) (state_in ur) (all_made_in x) refl refl (function_makes name up g1 g2) k

function_rises : (name : Text) (up : Un) {uq : Un} {vs : List VarT} {ps : List Ty} {t : Ty} {body : StmtTs} {x : TStmtTs} {ur : Un} → Parameters (begun up) vs ps uq → BodyAt (named name (FunctionD ps t) uq) t body x ur → Between 0 (made (state_in ur)) (length ur.sizes)
function_rises name up {uq = uq} {ps = ps} {t = t} {x = x} {ur = ur} g1 g2 =
    call_rises (state_in (begun up)) (state_in ur) (all_made_in x) refl (function_makes name up g1 g2)

-- The function that an item with a body makes.
pub function_sound : (name : Text) {s : Scene} {fin un : Un} {p : Span} {of : TypeT} {t : Ty} {vs : List VarT} {ps : List Ty} {up uq : Un} {body : StmtTs} {x : TStmtTs} {ur : Un} → Ends s fin → ((sizes : List ℕ) (types : Option (List Ty)) → Meant (calling s sizes types) un) → Sane un → HaveWords un.layouts un.whole
    → TypeAt un p of t up → Parameters (begun up) vs ps uq → BodyAt (named name (FunctionD ps t) uq) t body x ur → IsRuled ur name ps t (Some body) → Later ur fin → IsFunction s (record { name = name; params = ps; locals = ur.sizes; made = made (state_in ur); gives = t; body = x })
function_sound name {s = s} {un = un} {t = t} {ps = ps} {up = up} {uq = uq} {ur = ur} e meant h words g0 g1 g2 r later =
    let adds = body_adds g2 in
    let same = named_sizes name ps t uq in
    let sizes : ur.sizes ≡ uq.sizes ++ adds.taken = adds.sizes ∙ ap (λ ns. ns ++ adds.taken) same.0 in
    let from_body : Keeps (named name (FunctionD ps t) uq) ur = body_keeps g2 in
    let from_names : Keeps uq (named name (FunctionD ps t) uq) = named_keeps name (FunctionD ps t) uq in
    let before : Keeps un uq = keeps_through (type_keeps g0) (keeps_through (begun_keeps up) (parameters_keep g1)) in
    let call = ends_call ur.sizes None e in
    let call_scene = in_call s ur.sizes in
    let head = head_known name call g0 g1 (later_through (kept_later (keeps_through from_names from_body)) later) (adds.taken, sizes) (none_told 0 ps) (meant ur.sizes None) in
    let begun_words = subst₂ HaveWords (sym (type_keeps g0).layouts) (sym (type_keeps g0).whole) words in
    let begun_equal = ap length (type_keeps g0).whole ∙ h.declared.equal ∙ ap length (sym (type_keeps g0).layouts) in
    let parameters = parameters_words g1 begun_words begun_equal tt in
    let declared = body_declares g2 in
    let no_types = declared.told None (none_told (length (named name (FunctionD ps t) uq).sizes) declared.types) in
    let body_scene : Keeps un (named name (FunctionD ps t) uq) = keeps_through before from_names in
    record {
      word = r.word;
      known = head.gives;
      result = result_stays head.meant.grows t (subst₂ (λ ls ws. judged (result_rule ls ws t) ≡ Ok tt) from_body.layouts from_body.whole r.result);
      objects = subst (λ ns. AreCallObjects s.layouts s.whole ps ns) (sym sizes) (call_objects s.layouts s.whole ps uq.sizes adds.taken head.rules (adds.room (same.1 ∙ head.used)));
      words = body_words call (kept_sane body_scene h) (subst₂ HaveWords (sym body_scene.layouts) (sym body_scene.whole) words) (subst AllHaveWords (sym same.0) parameters) g2 no_types later (begins_itself ur.sizes) head.meant;
      made = function_made name up g1 g2;
      rising = objects_rise call_scene 0 (made (state_in ur)) (length ur.sizes) (function_rises name up g1 g2) (omega arith);
      body = body_known call (kept_sane (keeps_through before from_names) h) g2 no_types later (begins_itself ur.sizes) head.meant;
    }

-- ---- the types of the objects of a call

-- the sizes of parameters are the words of their types
parameter_sizes : (layouts : List LayoutT) (whole : List Bool) (ps : List Ty) (ns : List ℕ) → AreParameters layouts whole ps ns → ns ≡ map (words_of layouts) ps
parameter_sizes layouts whole [] [] h = refl
parameter_sizes layouts whole [] (n ∷ ns) h = absurd h
parameter_sizes layouts whole (p ∷ ps) [] h = absurd h
parameter_sizes layouts whole (p ∷ ps) (n ∷ ns) h =
    ap (λ m. m ∷ ns) (sym (parameter_facts layouts whole p n h.1).words) ∙ ap (λ ms. words_of layouts p ∷ ms) (parameter_sizes layouts whole ps ns h.2)

-- the types of the parameters and of what the body declares
pub function_typed : (name : Text) {s : Scene} {fin un : Un} {p : Span} {of : TypeT} {t : Ty} {vs : List VarT} {ps : List Ty} {up uq : Un} {body : StmtTs} {x : TStmtTs} {ur : Un} → Ends s fin → ((sizes : List ℕ) (types : Option (List Ty)) → Meant (calling s sizes types) un) → Sane un
    → TypeAt un p of t up → Parameters (begun up) vs ps uq → BodyAt (named name (FunctionD ps t) uq) t body x ur → Later ur fin → HasTypedObjects s (record { name = name; params = ps; locals = ur.sizes; made = made (state_in ur); gives = t; body = x })
function_typed name {s = s} {un = un} {t = t} {ps = ps} {up = up} {uq = uq} {ur = ur} e meant h g0 g1 g2 later =
    let declared = body_declares g2 in
    let types : List Ty = ps ++ declared.types in
    let adds = body_adds g2 in
    let same = named_sizes name ps t uq in
    let sizes : ur.sizes ≡ uq.sizes ++ adds.taken = adds.sizes ∙ ap (λ ns. ns ++ adds.taken) same.0 in
    let from_body : Keeps (named name (FunctionD ps t) uq) ur = body_keeps g2 in
    let from_names : Keeps uq (named name (FunctionD ps t) uq) = named_keeps name (FunctionD ps t) uq in
    let before : Keeps un uq = keeps_through (type_keeps g0) (keeps_through (begun_keeps up) (parameters_keep g1)) in
    let call = ends_call ur.sizes (Some (ps ++ declared.types)) e in
    let head = head_known name call g0 g1 (later_through (kept_later (keeps_through from_names from_body)) later) (adds.taken, sizes) (part_told [] ps declared.types) (meant ur.sizes (Some (ps ++ declared.types))) in
    let given : uq.sizes ≡ map (words_of s.layouts) ps = parameter_sizes s.layouts s.whole ps uq.sizes head.rules in
    let count : length (named name (FunctionD ps t) uq).sizes ≡ length ps = ap length (same.0 ∙ given) ∙ map_count s.layouts ps in
    let all_told = subst (λ us. AreOfTypes (Some (ps ++ us)) (length ps) declared.types) (append-nil declared.types) (part_told ps declared.types []) in
    let told = declared.told (Some (ps ++ declared.types)) (subst (λ n. AreOfTypes (Some (ps ++ declared.types)) n declared.types) (sym count) all_told) in
    let stay = words_stay head.meant.grows declared.types declared.complete in
    record {
      variables = declared.types;
      sizes = declared.sizes ∙ ap (λ ns. ns ++ map (words_of (named name (FunctionD ps t) uq).layouts) declared.types) (same.0 ∙ given) ∙ ap (λ ns. map (words_of s.layouts) ps ++ ns) stay ∙ sym (map_both s.layouts ps declared.types);
      body = body_known call (kept_sane (keeps_through before from_names) h) g2 told later (begins_itself ur.sizes) head.meant;
    }
