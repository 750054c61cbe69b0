-- What statements take of a call: its objects and their words only grow, and so do the texts.
use Rattle.std.proofs.Common.{◌≡◌, ℕ, ◌+◌, ◌≤◌, Bool, true, false, not, nat_le, List, [], ◌∷◌, ◌++◌, length, Option, Ok, refl, sym, ap, ◌∙◌, append_assoc, append-nil, arith, if◌then◌else◌, leb-true}
use Rattle.std.specs.Prelude.{sum}
use Rattle.std.proofs.lemmas.List.Sums.{sum_by-append}
use Rattle.c_tree.specs.declared.span.Span.{Span}
use Rattle.c_tree.specs.Tree.{ExprT, TypeT, InitT, VarT, StmtT, MaybeS, StmtTs, ArmT, ArmTs}
use Rattle.c_types.specs.Types.{Ty, LayoutT}
use Rattle.c_types.specs.Typed.{TExprT, TInitT, TVarT, TStmtT, MaybeZ, TStmtTs, TArmT, TArmTs}
use Rattle.c_types.specs.Sizes.{words_of}
use Rattle.c_rules.specs.declared.code.Code.TheVariants.{Twice, InfiniteType, TooLarge}
use Rattle.c_types.specs.Kinds.{is_void}
use Rattle.c_rules.specs.Sizes.{is_whole}
use Rattle.c_rules.specs.Rules.{demand, judged}
use Rattle.c_rules.specs.Nodes.{given}
use Rattle.c_exprs.specs.Env.{Text}
use Rattle.c_exprs.specs.Faults.{placed}
use Rattle.c_exprs.specs.Calls.{ensured}
use Rattle.c_stmts.specs.State.{Fn, St, opened, left, declare, is_new, entered, locals_limit, object_rule, object_size, sized, Labels}
use Rattle.c_stmts.specs.StatementTypes as good
use Rattle.c_stmts.specs.StatementTypes.{ValueIn, TypeIn, FillsIn, MaybeFills, Declares, AllDeclare, MaybeValue, Statement, MaybeStatement, Statements, ArmOf, ArmsOf}
use Rattle.c_facts.proofs.Within.{Begins}
use Rattle.c_facts.proofs.Beginnings.{value_begins, name_begins}
use Rattle.c_facts.proofs.Initialisers.{fills_texts}
use Rattle.c_facts.proofs.Fronts.{begins_itself, begins_through}

-- what reads no variable leaves the objects as they are
pub record Keeps (sp sq : St) : Type 0 where
  pub sizes : sq.sizes ≡ sp.sizes
  pub used : sq.used ≡ sp.used
  pub texts : Begins sp.texts sq.texts

-- what reads variables appends their sizes, as long as there is room
pub record Spends (sp sq : St) : Type 0 where
  pub taken : List ℕ
  pub sizes : sq.sizes ≡ sp.sizes ++ taken
  pub used : sq.used ≡ sp.used + sum taken
  pub room : sp.used ≤ locals_limit → sq.used ≤ locals_limit
  pub texts : Begins sp.texts sq.texts

pub keeps_same : (st : St) → Keeps st st
keeps_same st = record { sizes = refl; used = refl; texts = begins_itself st.texts }

pub keeps_all : (sp sq sr : St) → Keeps sp sq → Keeps sq sr → Keeps sp sr
keeps_all sp sq sr h k = record { sizes = k.sizes ∙ h.sizes; used = k.used ∙ h.used; texts = begins_through sp.texts sq.texts sr.texts h.texts k.texts }

pub spends_kept : (sp sq : St) → Keeps sp sq → Spends sp sq
spends_kept sp sq h = record { taken = []; sizes = h.sizes ∙ sym (append-nil sp.sizes); used = omega (arith, h.used); room = λ few. omega (arith, h.used, few); texts = h.texts }

pub spends_same : (st : St) → Spends st st
spends_same st = spends_kept st st (keeps_same st)

pub spends_all : (sp sq sr : St) → Spends sp sq → Spends sq sr → Spends sp sr
spends_all sp sq sr h k = record {
  taken = h.taken ++ k.taken;
  sizes = k.sizes ∙ ap (λ ns. ns ++ k.taken) h.sizes ∙ append_assoc sp.sizes h.taken k.taken;
  used = omega (arith, h.used, k.used, sum_by-append (λ n. n) h.taken k.taken);
  room = λ few. k.room (h.room few);
  texts = begins_through sp.texts sq.texts sr.texts h.texts k.texts;
}

-- ---- expressions, types, initialisers

pub value_keeps : {f : Fn} {sp sq : St} {e : ExprT} {x : TExprT} → ValueIn f sp e x sq → Keeps sp sq
value_keeps (good.value_in h) = record { sizes = refl; used = refl; texts = value_begins h }

pub type_keeps : {f : Fn} {sp sq : St} {s : Span} {of : TypeT} {ty : Ty} → TypeIn f sp s of ty sq → Keeps sp sq
type_keeps (good.type_in h) = record { sizes = refl; used = refl; texts = name_begins h }

pub fill_keeps : {f : Fn} {sp sq : St} {target : Ty} {i : InitT} {x : TInitT} → FillsIn f sp target i x sq → Keeps sp sq
fill_keeps (good.fill_in h) = record { sizes = refl; used = refl; texts = fills_texts h }

pub maybe_fill_keeps : {f : Fn} {sp sq : St} {target : Ty} {i : Option InitT} {x : Option TInitT} → MaybeFills f sp target i x sq → Keeps sp sq
maybe_fill_keeps (good.no_init {sp = sp}) = keeps_same sp
maybe_fill_keeps (good.init h) = fill_keeps h

pub maybe_value_keeps : {f : Fn} {sp sq : St} {e : Option ExprT} {x : Option TExprT} → MaybeValue f sp e x sq → Keeps sp sq
maybe_value_keeps (good.no_value {sp = sp}) = keeps_same sp
maybe_value_keeps (good.some_value h) = value_keeps h

-- ---- variables

keeps_either : (sp sq : St) (test : Bool) → Keeps sp sq → Keeps sp (if test then sq else sp)
keeps_either sp sq true h = h
keeps_either sp sq false h = keeps_same sp

-- a name takes no words
pub entered_keeps : (n : Text) (ty : Ty) (st : St) → Keeps st (entered n ty st)
unfolding entered
entered_keeps n ty st =
    let named : St = record { scopes = declare n (record { number = length st.sizes; ty = ty }) st.scopes; sizes = st.sizes; used = st.used; texts = st.texts } in
    keeps_either st named (is_new n st) (record { sizes = refl; used = refl; texts = begins_itself st.texts })

-- what the rules of a variable tell of its size
pub record HasSize (layouts : List LayoutT) (whole : List Bool) (limit used : ℕ) (ty : Ty) (n : ℕ) : Type 0 where
  pub words : words_of layouts ty ≡ n
  pub sized : is_whole whole ty ≡ true
  pub room : used + n ≤ limit

abbrev Answers : ℕ → ℕ → Bool → Bool → Type 0
Answers w n whole few = (w ≡ n) × (whole ≡ true) × (few ≡ true)

rules_hold : (s : Span) (fresh void whole few : Bool) (w n : ℕ) → placed s (ensured Twice fresh (judged (record { gives = given (not void) w; demands = demand InfiniteType whole ∷ demand TooLarge few ∷ [] }))) ≡ Ok n → Answers w n whole few
rules_hold s false void whole few w n h = cc
rules_hold s true true whole few w n h = cc
rules_hold s true false false few w n h = cc
rules_hold s true false true false w n h = cc
rules_hold s true false true true w n h = (cc, refl, refl)

pub has_size : (s : Span) (layouts : List LayoutT) (whole : List Bool) (limit used : ℕ) (fresh : Bool) (ty : Ty) (n : ℕ) → placed s (object_size layouts whole limit used fresh ty) ≡ Ok n → HasSize layouts whole limit used ty n
unfolding object_size object_rule
has_size s layouts whole limit used fresh ty n h =
    let k = rules_hold s fresh (is_void ty) (is_whole whole ty) (nat_le (used + words_of layouts ty) limit) (words_of layouts ty) n h in
    record { words = k.0; sized = k.1; room = omega (arith, leb-true _ _ k.2, k.0) }

-- an object that is made where others kept the objects as they were
pub sized_spends : (sp sq : St) (n : ℕ) → Keeps sp sq → sp.used + n ≤ locals_limit → Spends sp (sized n sq)
sized_spends sp sq n h room = record { taken = n ∷ []; sizes = ap (λ ns. ns ++ n ∷ []) h.sizes; used = omega (arith, h.used); room = λ few. omega (arith, h.used, room); texts = h.texts }

pub variable_spends : {f : Fn} {sp sq : St} {v : VarT} {xs : List TVarT} → Declares f sp v xs sq → Spends sp sq
variable_spends {f = f} (good.variable {sp = sp} {sq = sq} {sr = sr} {v = v} {t = t} {n = n} h k size) =
    let kept = keeps_all sp sq sr (type_keeps h) (keeps_all sq (entered v.name t sq) sr (entered_keeps v.name t sq) (maybe_fill_keeps k)) in
    sized_spends sp sr n kept (has_size v.span f.layouts f.whole locals_limit sp.used _ t n size).room

pub variables_spend : {f : Fn} {sp sq : St} {vs : List VarT} {xs : List TVarT} → AllDeclare f sp vs xs sq → Spends sp sq
variables_spend (good.no_variables {sp = sp}) = spends_same sp
variables_spend (good.more_variables {sp = sp} {sq = sq} {sr = sr} h k) = spends_all sp sq sr (variable_spends h) (variables_spend k)

-- ---- statements

value_spends : {f : Fn} {sp sq : St} {e : ExprT} {x : TExprT} → ValueIn f sp e x sq → Spends sp sq
value_spends {sp = sp} {sq = sq} h = spends_kept sp sq (value_keeps h)

maybe_value_spends : {f : Fn} {sp sq : St} {e : Option ExprT} {x : Option TExprT} → MaybeValue f sp e x sq → Spends sp sq
maybe_value_spends {sp = sp} {sq = sq} h = spends_kept sp sq (maybe_value_keeps h)

-- scopes that open and close take no words
in_scope : (sp sq : St) → Spends (opened sp) sq → Spends sp (left sq)
in_scope sp sq h = record { taken = h.taken; sizes = h.sizes; used = h.used; room = h.room; texts = h.texts }

mutual
  pub statement_spends : {f : Fn} {sp sq : St} {breaks continues : Bool} {a : StmtT} {x : TStmtT} → Statement f sp breaks continues a x sq → Spends sp sq
  statement_spends (good.block {sp = sp} {sq = sq} h) = in_scope sp sq (statements_spend h)
  statement_spends (good.empty {sp = sp}) = spends_same sp
  statement_spends (good.variables h) = variables_spend h
  statement_spends (good.expression h) = value_spends h
  statement_spends (good.if_else {sp = sp} {sq = sq} {sr = sr} {ss = ss} h k l test) = spends_all sp sq ss (value_spends h) (spends_all sq sr ss (statement_spends k) (maybe_statement_spends l))
  statement_spends (good.while {sp = sp} {sq = sq} {sr = sr} h k test) = spends_all sp sq sr (value_spends h) (statement_spends k)
  statement_spends (good.do_while {sp = sp} {sq = sq} {sr = sr} h k test) = spends_all sp sq sr (statement_spends h) (value_spends k)
  statement_spends (good.for {sp = sp} {sq = sq} {sr = sr} {ss = ss} {su = su} h k l m test) =
      in_scope sp su (spends_all (opened sp) sq su (maybe_statement_spends h) (spends_all sq sr su (maybe_value_spends k) (spends_all sr ss su (maybe_value_spends l) (statement_spends m))))
  statement_spends (good.switch {sp = sp} {sq = sq} {sr = sr} h k test) = spends_all sp sq (left sr) (value_spends h) (in_scope sq sr (arms_spend k))
  statement_spends (good.return_nothing {sp = sp}) = spends_same sp
  statement_spends (good.return_value h test) = value_spends h
  statement_spends (good.break {sp = sp} test) = spends_same sp
  statement_spends (good.continue {sp = sp} test) = spends_same sp

  pub maybe_statement_spends : {f : Fn} {sp sq : St} {breaks continues : Bool} {a : MaybeS} {x : MaybeZ} → MaybeStatement f sp breaks continues a x sq → Spends sp sq
  maybe_statement_spends (good.nothing {sp = sp}) = spends_same sp
  maybe_statement_spends (good.something h) = statement_spends h

  pub statements_spend : {f : Fn} {sp sq : St} {breaks continues : Bool} {a : StmtTs} {x : TStmtTs} → Statements f sp breaks continues a x sq → Spends sp sq
  statements_spend (good.no_statements {sp = sp}) = spends_same sp
  statements_spend (good.more_statements {sp = sp} {sq = sq} {sr = sr} h k) = spends_all sp sq sr (statement_spends h) (statements_spend k)

  pub arm_spends : {f : Fn} {sp sq : St} {breaks continues : Bool} {seen : Labels} {a : ArmT} {x : TArmT} → ArmOf f sp breaks continues seen a x sq → Spends sp sq
  arm_spends (good.case h k test) = value_spends h
  arm_spends (good.default {sp = sp} test) = spends_same sp
  arm_spends (good.arm_statement h) = statement_spends h

  pub arms_spend : {f : Fn} {sp sq : St} {breaks continues : Bool} {seen : Labels} {a : ArmTs} {x : TArmTs} → ArmsOf f sp breaks continues seen a x sq → Spends sp sq
  arms_spend (good.no_arms {sp = sp}) = spends_same sp
  arms_spend (good.more_arms {sp = sp} {sq = sq} {sr = sr} h k) = spends_all sp sq sr (arm_spends h) (arms_spend k)
