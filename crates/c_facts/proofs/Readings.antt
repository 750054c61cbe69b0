-- What grows while a unit is read, and what stays.
use Rattle.std.proofs.Common.{◌≡◌, ℕ, Bool, true, false, List, [], ◌∷◌, ◌++◌, Option, Some, refl, sym, ◌∙◌, subst, subst₂}
use Rattle.std.specs.Prelude.{if◌then◌else◌}
use Rattle.c_tree.specs.declared.span.Span.{Span}
use Rattle.c_tree.specs.Tree.{ExprT, TypeT, InitT, VarT, StmtTs}
use Rattle.c_types.specs.Types.{Ty, EnumY, LayoutT}
use Rattle.c_types.specs.Typed.{TExprT, TInitT, TStmtTs}
use Rattle.c_exprs.specs.Env.{Text, find, Decl, TypeD, ConstantD}
use Rattle.c_check.specs.Reading.{Un, under, function_under, state_in, with_texts, is_free, with_names, named, new_record, record_entered, new_enum, enum_entered, begun, ended, with_parameter}
use Rattle.c_check.specs.ItemTypes as item
use Rattle.c_check.specs.ItemTypes.{ValueAt, TypeAt, FillsAt, BodyAt, Member, Members, Enumerator, NamedEnumerator, Enumerators, MaybeFillsAt, Parameter, Parameters, MaybeBody}
use Rattle.c_facts.proofs.Within.{Begins, Grows}
use Rattle.c_facts.proofs.Told.{name_texts, value_texts, filled_texts, spends_are}
use Rattle.c_facts.proofs.Fronts.{begins_itself, begins_through}
use Rattle.c_facts.proofs.Finds.{still_found}
use Rattle.c_facts.proofs.Short.{AreShort, value_short, name_short, fill_short, statements_short}
use Rattle.c_facts.proofs.Stays.{grows_itself, grows_through}

-- ---- what only grows

pub record Later (un up : Un) : Type 0 where
  pub grows : Grows un.layouts un.whole up.layouts up.whole
  pub globals : Begins un.globals up.globals
  pub inits : Begins un.inits up.inits
  pub functions : Begins un.functions up.functions
  pub texts : Begins un.texts up.texts
  pub names : (n : Text) (d : Decl) → find n un.names ≡ Some d → find n up.names ≡ Some d
  pub bodies : up.bodies ≡ un.bodies

pub later_itself : (un : Un) → Later un un
later_itself un = record {
  grows = grows_itself un.layouts un.whole;
  globals = begins_itself un.globals;
  inits = begins_itself un.inits;
  functions = begins_itself un.functions;
  texts = begins_itself un.texts;
  names = λ n d h. h;
  bodies = refl;
}

pub later_through : {un up uq : Un} → Later un up → Later up uq → Later un uq
later_through {un = un} {up = up} {uq = uq} g h = record {
  grows = grows_through g.grows h.grows;
  globals = begins_through un.globals up.globals uq.globals g.globals h.globals;
  inits = begins_through un.inits up.inits uq.inits g.inits h.inits;
  functions = begins_through un.functions up.functions uq.functions g.functions h.functions;
  texts = begins_through un.texts up.texts uq.texts g.texts h.texts;
  names = λ n d f. h.names n d (g.names n d f);
  bodies = h.bodies ∙ g.bodies;
}

-- ---- parts of an item, which change names, texts and scopes alone

pub record Keeps (un up : Un) : Type 0 where
  pub layouts : up.layouts ≡ un.layouts
  pub whole : up.whole ≡ un.whole
  pub records : up.records ≡ un.records
  pub globals : up.globals ≡ un.globals
  pub inits : up.inits ≡ un.inits
  pub functions : up.functions ≡ un.functions
  pub bodies : up.bodies ≡ un.bodies
  pub names : (n : Text) (d : Decl) → find n un.names ≡ Some d → find n up.names ≡ Some d
  pub texts : Begins un.texts up.texts
  pub short : AreShort un.texts → AreShort up.texts

pub keeps_itself : (un : Un) → Keeps un un
keeps_itself un = record { layouts = refl; whole = refl; records = refl; globals = refl; inits = refl; functions = refl; bodies = refl; names = λ n d h. h; texts = begins_itself un.texts; short = λ h. h }

pub keeps_through : {un up uq : Un} → Keeps un up → Keeps up uq → Keeps un uq
keeps_through {un = un} {up = up} {uq = uq} g h = record {
  layouts = h.layouts ∙ g.layouts;
  whole = h.whole ∙ g.whole;
  records = h.records ∙ g.records;
  globals = h.globals ∙ g.globals;
  inits = h.inits ∙ g.inits;
  functions = h.functions ∙ g.functions;
  bodies = h.bodies ∙ g.bodies;
  names = λ n d f. h.names n d (g.names n d f);
  texts = begins_through un.texts up.texts uq.texts g.texts h.texts;
  short = λ s. h.short (g.short s);
}

same_begins : {A : Type 0} (xs ys : List A) → ys ≡ xs → Begins xs ys
same_begins xs ys e = subst (λ zs. Begins xs zs) (sym e) (begins_itself xs)

same_grows : (layouts later : List LayoutT) (whole all : List Bool) → later ≡ layouts → all ≡ whole → Grows layouts whole later all
same_grows layouts later whole all e f = subst₂ (λ ls ws. Grows layouts whole ls ws) (sym e) (sym f) (grows_itself layouts whole)

pub kept_later : {un up : Un} → Keeps un up → Later un up
kept_later {un = un} {up = up} g = record {
  grows = same_grows un.layouts up.layouts un.whole up.whole g.layouts g.whole;
  globals = same_begins un.globals up.globals g.globals;
  inits = same_begins un.inits up.inits g.inits;
  functions = same_begins un.functions up.functions g.functions;
  texts = g.texts;
  names = g.names;
  bodies = g.bodies;
}

pub names_more : (un : Un) (n : Text) (d : Decl) → Keeps un (with_names un (un.names ++ (n, d) ∷ []))
names_more un n d = record { layouts = refl; whole = refl; records = refl; globals = refl; inits = refl; functions = refl; bodies = refl; names = λ m e h. still_found m un.names ((n, d) ∷ []) e h; texts = begins_itself un.texts; short = λ h. h }

-- a name that is free is entered, and one that is not keeps its meaning
pub by_named : (P : Un → Type 0) (n : Text) (d : Decl) (un : Un) → P un → P (with_names un (un.names ++ (n, d) ∷ [])) → P (named n d un)
unfolding named
by_named P n d un h k = elim (is_free n un) as (λ b. P (if b then with_names un (un.names ++ (n, d) ∷ []) else un)) [ true ↦ k | false ↦ h ]

pub named_free : (n : Text) (d : Decl) (un : Un) → is_free n un ≡ true → named n d un ≡ with_names un (un.names ++ (n, d) ∷ [])
unfolding named
named_free n d un h = rw h refl

pub by_record : (P : Un → Type 0) (is_union : Bool) (n : Text) (un : Un) → P un → P (new_record is_union n un) → P (record_entered is_union n un)
unfolding record_entered
by_record P is_union n un h k = elim (is_free n un) as (λ b. P (if b then new_record is_union n un else un)) [ true ↦ k | false ↦ h ]

-- the same, where the name was free for a new one
pub by_new_record : (P : Un → Type 0) (is_union : Bool) (n : Text) (un : Un) → P un → (is_free n un ≡ true → P (new_record is_union n un)) → P (record_entered is_union n un)
unfolding record_entered
by_new_record P is_union n un h k = by (is_free n un) refl
  where
    by : (b : Bool) → is_free n un ≡ b → P (if b then new_record is_union n un else un)
    by true e = k e
    by false e = h

pub by_enum : (P : Un → Type 0) (n : Text) (un : Un) → P un → P (new_enum n un) → P (enum_entered n un)
unfolding enum_entered
by_enum P n un h k = elim (is_free n un) as (λ b. P (if b then new_enum n un else un)) [ true ↦ k | false ↦ h ]

pub named_keeps : (n : Text) (d : Decl) (un : Un) → Keeps un (named n d un)
named_keeps n d un = by_named (λ up. Keeps un up) n d un (keeps_itself un) (names_more un n d)

pub enum_keeps : (n : Text) (un : Un) → Keeps un (enum_entered n un)
enum_keeps n un = by_enum (λ up. Keeps un up) n un (keeps_itself un)
    (record { layouts = refl; whole = refl; records = refl; globals = refl; inits = refl; functions = refl; bodies = refl; names = λ m e h. still_found m un.names ((n, TypeD (EnumY un.enums)) ∷ []) e h; texts = begins_itself un.texts; short = λ h. h })

texts_keep : (un : Un) (us : List Text) → Begins un.texts us → (AreShort un.texts → AreShort us) → Keeps un (with_texts un us)
texts_keep un us b s = record { layouts = refl; whole = refl; records = refl; globals = refl; inits = refl; functions = refl; bodies = refl; names = λ n d h. h; texts = b; short = s }

pub value_keeps : {un up : Un} {e : ExprT} {x : TExprT} → ValueAt un e x up → Keeps un up
value_keeps {e = e} {x = x} (item.value_at {un = un} {us = us} g0) = texts_keep un us (value_texts (under un) un.texts us e x g0) (value_short g0)

pub type_keeps : {un up : Un} {s : Span} {of : TypeT} {t : Ty} → TypeAt un s of t up → Keeps un up
type_keeps {s = s} {of = of} {t = t} (item.type_at {un = un} {us = us} g0) = texts_keep un us (name_texts (under un) un.texts us s of t g0) (name_short g0)

pub fill_keeps : {un up : Un} {target : Ty} {i : InitT} {x : TInitT} → FillsAt un target i x up → Keeps un up
fill_keeps {target = target} {i = i} {x = x} (item.fill_at {un = un} {us = us} g0) = texts_keep un us (filled_texts (under un) un.texts us true (Some target) i x g0) (fill_short g0)

pub maybe_fill_keeps : {un up : Un} {target : Ty} {i : Option InitT} {x : Option TInitT} → MaybeFillsAt un target i x up → Keeps un up
maybe_fill_keeps (item.not_filled {un = un}) = keeps_itself un
maybe_fill_keeps (item.is_filled g0) = fill_keeps g0

pub body_keeps : {un up : Un} {gives : Ty} {body : StmtTs} {x : TStmtTs} → BodyAt un gives body x up → Keeps un up
body_keeps {gives = gives} {body = body} {x = x} (item.body_at {un = un} {us = us} g0) = record {
  layouts = refl;
  whole = refl;
  records = refl;
  globals = refl;
  inits = refl;
  functions = refl;
  bodies = refl;
  names = λ n d h. h;
  texts = (spends_are (function_under un gives) (state_in un) us false false body x g0).texts;
  short = statements_short g0;
}

pub maybe_body_keeps : {un up : Un} {gives : Ty} {body : Option StmtTs} {x : Option TStmtTs} → MaybeBody un gives body x up → Keeps un up
maybe_body_keeps (item.no_body {un = un}) = keeps_itself un
maybe_body_keeps (item.has_body g0) = body_keeps g0

-- ---- parts in a row

pub enumerator_keeps : {un up : Un} {next k : ℕ} {e : Option ExprT} → Enumerator un next e k up → Keeps un up
enumerator_keeps (item.counted {un = un}) = keeps_itself un
enumerator_keeps (item.valued g0 g1) = value_keeps g0

pub named_enumerator_keeps : {un : Un} {s : Span} {next n : ℕ} {v : Text × Option ExprT} {up : Un} → NamedEnumerator un s next v n up → Keeps un up
named_enumerator_keeps (item.named_enumerator {up = up} {v = v} {k = k} g0 g1) = keeps_through (enumerator_keeps g0) (named_keeps v.0 (ConstantD k) up)

pub enumerators_keep : {un up : Un} {s : Span} {next : ℕ} {vs : List (Text × Option ExprT)} {x : Unit {0}} → Enumerators un s next vs x up → Keeps un up
enumerators_keep (item.no_enumerators {un = un}) = keeps_itself un
enumerators_keep (item.more_enumerators g0 g1) = keeps_through (named_enumerator_keeps g0) (enumerators_keep g1)

pub begun_keeps : (un : Un) → Keeps un (begun un)
begun_keeps un = record { layouts = refl; whole = refl; records = refl; globals = refl; inits = refl; functions = refl; bodies = refl; names = λ n d h. h; texts = begins_itself un.texts; short = λ h. h }

pub ended_keeps : (un : Un) → Keeps un (ended un)
ended_keeps un = record { layouts = refl; whole = refl; records = refl; globals = refl; inits = refl; functions = refl; bodies = refl; names = λ n d h. h; texts = begins_itself un.texts; short = λ h. h }

pub with_parameter_keeps : (n : Text) (ty : Ty) (words : ℕ) (un : Un) → Keeps un (with_parameter n ty words un)
unfolding with_parameter
with_parameter_keeps n ty words un = record { layouts = refl; whole = refl; records = refl; globals = refl; inits = refl; functions = refl; bodies = refl; names = λ m d h. h; texts = begins_itself un.texts; short = λ h. h }

pub parameter_keeps : {un : Un} {v : VarT} {t : Ty} {up : Un} → Parameter un v t up → Keeps un up
parameter_keeps (item.parameter {up = up} {v = v} {t = t} {n = n} g0 g1) = keeps_through (type_keeps g0) (with_parameter_keeps v.name t n up)

pub parameters_keep : {un up : Un} {vs : List VarT} {ts : List Ty} → Parameters un vs ts up → Keeps un up
parameters_keep (item.no_parameters {un = un}) = keeps_itself un
parameters_keep (item.more_parameters g0 g1) = keeps_through (parameter_keeps g0) (parameters_keep g1)

pub member_keeps : {un up : Un} {seen l : LayoutT} {v : VarT} → Member un seen v l up → Keeps un up
member_keeps (item.member g0 g1) = type_keeps g0

pub members_keep : {un up : Un} {seen l : LayoutT} {vs : List VarT} → Members un seen vs l up → Keeps un up
members_keep (item.no_members {un = un}) = keeps_itself un
members_keep (item.more_members g0 g1) = keeps_through (member_keeps g0) (members_keep g1)
