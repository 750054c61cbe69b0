-- The statements of a function are sound in the whole program.
use Rattle.std.proofs.Common.{◌≡◌, ℕ, Bool, true, false, not, List, [], ◌∷◌, ◌++◌, length, Option, Some, None, Ok, refl, sym, ap, ◌∙◌, subst, if◌then◌else◌}
use Rattle.std.specs.Prelude.{slice_get}
use Rattle.c_tree.specs.declared.span.Span.{Span}
use Rattle.c_tree.specs.Tree.{ExprT, TypeT, InitT, VarT, StmtT, MaybeS, StmtTs, ArmT, ArmTs}
use Rattle.c_types.specs.Types.{Ty, LayoutT}
use Rattle.c_types.specs.Typed.{TExprT, TInitT, TVarT, TStmtT, MaybeZ, TStmtTs, TArmT, TArmTs}
use Rattle.c_types.specs.Sizes.{words_of}
use Rattle.c_rules.specs.declared.code.Code.TheVariants.{Twice, WrongType, BreakOutside}
use Rattle.c_rules.specs.Kinds.{is_number, converts}
use Rattle.c_rules.specs.Sizes.{is_whole}
use Rattle.c_exprs.specs.Env.{Text, LocalD}
use Rattle.c_exprs.specs.Faults.{demanded}
use Rattle.c_exprs.specs.Nodes.{type_of_typed}
use Rattle.c_stmts.specs.State.{Scope, Fn, St, under, opened, left, declare, is_new, entered, locals_limit, filled_var, is_condition_of, is_test, Labels, is_case}
use Rattle.c_stmts.specs.StatementTypes as good
use Rattle.c_stmts.specs.StatementTypes.{ValueIn, TypeIn, FillsIn, MaybeFills, Declares, AllDeclare, MaybeValue, Statement, MaybeStatement, Statements, ArmOf, ArmsOf}
use Rattle.c_facts.specs.Sound.{Scene, IsKnown, IsOfType, IsLocal, IsTypedValue, FillsAs, AreFilled, IsTest, MayTest, MayValue, IsStatement, MayState, AreStatements, AreArms, IsLabel, IsArm}
use Rattle.c_facts.proofs.Expressions.{value_sound as value_read, type_sound as type_known}
use Rattle.c_facts.proofs.Within.{Begins, Grows, AreMeant, AreBodies, InScopes, AllMembersKnown, Within, MembersWhole}
use Rattle.c_facts.proofs.Growth.{whole_later, words_later}
use Rattle.c_facts.proofs.Scopes.{in_closed, in_opened, in_declared, made_are_objects}
use Rattle.c_facts.specs.Made.{made_in, maybe_made_in, all_made_in, arms_made_in}
use Rattle.c_facts.proofs.Making.{statement_makes, maybe_statement_makes, statements_make, arms_make, for_makes}
use Rattle.c_facts.proofs.Initialisers.{init_sound}
use Rattle.c_facts.proofs.Spending.{Keeps, Spends, spends_kept, entered_keeps, type_keeps, maybe_fill_keeps, has_size, value_keeps, maybe_value_keeps, variables_spend, statement_spends, maybe_statement_spends, statements_spend, arms_spend}
use Rattle.c_facts.proofs.ObjectTypes.{VariableTold, VariablesTold, StatementTold, MaybeTold, StatementsTold, ArmTold, ArmsTold}
use Rattle.c_facts.proofs.Fronts.{begins_through, begins_end}
use Rattle.c_facts.proofs.Holds.{demanded_gives}

-- how a function stands to the whole program
pub record WithinFunction (f : Fn) (s : Scene) : Type 0 where
  pub grows : Grows f.layouts f.whole s.layouts s.whole
  pub names : AreMeant s f.names
  pub bodies : AreBodies s f.names f.bodies
  pub members : (k : ℕ) (l : LayoutT) → slice_get s.layouts k ≡ Some l → AllMembersKnown s l.members
  pub whole : MembersWhole f.layouts f.whole

pub within_function : (f : Fn) (s : Scene) (ss : List Scope) → WithinFunction f s → InScopes s ss → Within (under f ss) s
within_function f s ss w i = record { grows = w.grows; names = w.names; bodies = w.bodies; scopes = i; members = w.members }

-- the objects and texts of a state are among those of the whole program
pub record Reaches (st : St) (s : Scene) : Type 0 where
  pub sizes : Begins st.sizes s.locals
  pub texts : Begins st.texts s.literals

pub reaches_before : (s : Scene) (sp sq : St) → Spends sp sq → Reaches sq s → Reaches sp s
reaches_before s sp sq h r = record { sizes = begins_through sp.sizes sq.sizes s.locals (h.taken, h.sizes) r.sizes; texts = begins_through sp.texts sq.texts s.literals h.texts r.texts }

pub reaches_kept : (s : Scene) (sp sq : St) → Keeps sp sq → Reaches sq s → Reaches sp s
reaches_kept s sp sq h r = reaches_before s sp sq (spends_kept sp sq h) r

pub reaches_in : (s : Scene) (st : St) → Reaches (left st) s → Reaches st s
reaches_in s st r = record { sizes = r.sizes; texts = r.texts }

-- ---- expressions, types, initialisers

pub value_sound : (s : Scene) {f : Fn} {sp sq : St} {e : ExprT} {x : TExprT} → WithinFunction f s → ValueIn f sp e x sq → InScopes s sp.scopes → Begins sq.texts s.literals → IsTypedValue s x × InScopes s sq.scopes
value_sound s {f = f} w (good.value_in {sp = sp} {e = e} {x = x} {us = us} h) i b = (value_read s (within_function f s sp.scopes w i) h b, i)

pub type_sound : (s : Scene) {f : Fn} {sp sq : St} {p : Span} {of : TypeT} {ty : Ty} → WithinFunction f s → TypeIn f sp p of ty sq → InScopes s sp.scopes → Begins sq.texts s.literals → IsKnown s.layouts s.whole ty × InScopes s sq.scopes
type_sound s {f = f} w (good.type_in {sp = sp} {s = p} {of = of} {ty = ty} {us = us} h) i b = (type_known s (within_function f s sp.scopes w i) h, i)

pub fill_sound : (s : Scene) {f : Fn} {sp sq : St} {target : Ty} {i : InitT} {x : TInitT} → WithinFunction f s → FillsIn f sp target i x sq → InScopes s sp.scopes → Begins sq.texts s.literals → IsKnown s.layouts s.whole target → is_whole f.whole target ≡ true
    → FillsAs s false x (Some target) × InScopes s sq.scopes
fill_sound s {f = f} w (good.fill_in {sp = sp} {us = us} h) i b known sized = (init_sound s (within_function f s sp.scopes w i) w.whole h b known sized, i)

abbrev pub MayFill : Scene → Option TInitT → Ty → Type 0
MayFill s None ty = Unit {0}
MayFill s (Some x) ty = FillsAs s false x (Some ty)

pub maybe_fill_sound : (s : Scene) {f : Fn} {sp sq : St} {target : Ty} {i : Option InitT} {x : Option TInitT} → WithinFunction f s → MaybeFills f sp target i x sq → InScopes s sp.scopes → Begins sq.texts s.literals → IsKnown s.layouts s.whole target → is_whole f.whole target ≡ true
    → MayFill s x target × InScopes s sq.scopes
maybe_fill_sound s w good.no_init i b known sized = (tt, i)
maybe_fill_sound s w (good.init h) i b known sized = fill_sound s w h i b known sized

maybe_value_sound : (s : Scene) {f : Fn} {sp sq : St} {e : Option ExprT} {x : Option TExprT} → WithinFunction f s → MaybeValue f sp e x sq → InScopes s sp.scopes → Begins sq.texts s.literals → MayValue s x × InScopes s sq.scopes
maybe_value_sound s w good.no_value i b = (tt, i)
maybe_value_sound s w (good.some_value h) i b = value_sound s w h i b

may_test : (s : Scene) (x : Option TExprT) → MayValue s x → is_test x ≡ true → MayTest s x
may_test s None v h = tt
may_test s (Some x) v h = (v, h)

-- ---- variables

either_in : (s : Scene) (test : Bool) (st named : St) → InScopes s st.scopes → InScopes s named.scopes → InScopes s (if test then named else st).scopes
either_in s true st named i j = j
either_in s false st named i j = i

entered_in : (s : Scene) (n : Text) (ty : Ty) (st : St) → InScopes s st.scopes → IsKnown s.layouts s.whole ty → IsLocal s (length st.sizes) ty → InScopes s (entered n ty st).scopes
unfolding entered
entered_in s n ty st i known local =
    let l : LocalD = record { number = length st.sizes; ty = ty } in
    let named : St = record { scopes = declare n l st.scopes; sizes = st.sizes; used = st.used; texts = st.texts } in
    either_in s (is_new n st) st named i (in_declared s n l st.scopes i (known, local))

filled_var_sound : (s : Scene) (object : ℕ) (ty : Ty) (i : Option TInitT) → IsLocal s object ty → IsKnown s.layouts s.whole ty → is_whole s.whole ty ≡ true → MayFill s i ty → AreFilled s false (filled_var false object ty i)
filled_var_sound s object ty None local known sized h = tt
filled_var_sound s object ty (Some i) local known sized h = (record { kind = refl; object = local; sized = record { known = known; sized = sized }; filled = h }, tt)

-- the object that the next size makes
local_at : (s : Scene) (sizes : List ℕ) (n words : ℕ) → Begins (sizes ++ n ∷ []) s.locals → n ≡ words → slice_get s.locals (length sizes) ≡ Some words
local_at s sizes n words b e = begins_end sizes s.locals n b ∙ ap Some e

pub variable_sound : (s : Scene) {f : Fn} {sp sq : St} {v : VarT} {xs : List TVarT} → WithinFunction f s → (h : Declares f sp v xs sq) → VariableTold s.local_types h → InScopes s sp.scopes → Reaches sq s → AreFilled s false xs × InScopes s sq.scopes
variable_sound s {f = f} w (good.variable {sp = sp} {sq = sq} {sr = sr} {v = v} {t = t} {i = init} {n = n} h k size) told i r =
    let type_kept = type_keeps h in
    let fill_kept = maybe_fill_keeps k in
    let name_kept = entered_keeps v.name t sq in
    let named : St = entered v.name t sq in
    let size_known = has_size v.span f.layouts f.whole locals_limit sp.used _ t n size in
    let same : sr.sizes ≡ sq.sizes = fill_kept.sizes ∙ name_kept.sizes in
    let words : n ≡ words_of s.layouts t = sym size_known.words ∙ words_later w.grows t size_known.sized in
    let told_here : IsOfType s.local_types (length sq.sizes) t = subst (λ (ns : List ℕ). IsOfType s.local_types (length ns) t) (sym type_kept.sizes) told in
    let here : IsLocal s (length sq.sizes) t = (local_at s sq.sizes n (words_of s.layouts t) (subst (λ (ns : List ℕ). Begins (ns ++ n ∷ []) s.locals) same r.sizes) words, told_here) in
    let local : IsLocal s (length sp.sizes) t = subst (λ (ns : List ℕ). IsLocal s (length ns) t) type_kept.sizes here in
    let texts : Begins sq.texts s.literals = begins_through sq.texts named.texts s.literals name_kept.texts (begins_through named.texts sr.texts s.literals fill_kept.texts r.texts) in
    let typed = type_sound s w h i texts in
    let filled = maybe_fill_sound s w k (entered_in s v.name t sq typed.1 typed.0 here) r.texts typed.0 size_known.sized in
    (filled_var_sound s (length sp.sizes) t init local typed.0 (whole_later w.grows t size_known.sized) filled.0, filled.1)

all_filled : (s : Scene) (xs ys : List TVarT) → AreFilled s false xs → AreFilled s false ys → AreFilled s false (xs ++ ys)
all_filled s [] ys h k = k
all_filled s (x ∷ xs) ys h k = (h.0, all_filled s xs ys h.1 k)

pub variables_sound : (s : Scene) {f : Fn} {sp sq : St} {vs : List VarT} {xs : List TVarT} → WithinFunction f s → (h : AllDeclare f sp vs xs sq) → VariablesTold s.local_types h → InScopes s sp.scopes → Reaches sq s → AreFilled s false xs × InScopes s sq.scopes
variables_sound s w good.no_variables t i r = (tt, i)
variables_sound s w (good.more_variables {sq = sq} {sr = sr} {x = x} {xs = xs} h k) t i r =
    let here = variable_sound s w h t.0 i (reaches_before s sq sr (variables_spend k) r) in
    let later = variables_sound s w k t.1 here.1 r in
    (all_filled s x xs here.0 later.0, later.1)

-- ---- statements

not_so : (test : Bool) → not test ≡ true → test ≡ false
not_so true h = sym h
not_so false h = refl

is_tested : (s : Scene) (p : Span) (x : TExprT) → IsTypedValue s x → demanded p WrongType (is_condition_of x) ≡ Ok tt → IsTest s x
is_tested s p x v h = (v, demanded_gives p WrongType (is_condition_of x) h)

mutual
  pub statement_sound : (s : Scene) {f : Fn} {sp sq : St} {breaks continues : Bool} {a : StmtT} {x : TStmtT} → WithinFunction f s → (h : Statement f sp breaks continues a x sq) → StatementTold s.local_types h → InScopes s sp.scopes → Reaches sq s → IsStatement s x f.gives breaks continues × InScopes s sq.scopes
  statement_sound s w (good.block {sp = sp} {sq = sq} {xs = xs} h) t i r =
      let ends = reaches_in s sq r in
      let body = statements_sound s w h t (in_opened s sp.scopes i) ends in
      ((made_are_objects s sp sq (all_made_in xs) (statements_make h) ends.sizes, body.0), in_closed s sq.scopes body.1)
  statement_sound s w good.empty t i r = (tt, i)
  statement_sound s w (good.variables h) t i r = variables_sound s w h t i r
  statement_sound s w (good.expression h) t i r = value_sound s w h i r.texts
  statement_sound s w (good.if_else {sq = sq} {sr = sr} {ss = ss} {s = p} {x = x} h k l test) t i r =
      let then_ends = reaches_before s sr ss (maybe_statement_spends l) r in
      let test_ends = reaches_before s sq sr (statement_spends k) then_ends in
      let on = value_sound s w h i test_ends.texts in
      let taken = statement_sound s w k t.0 on.1 then_ends in
      let other = maybe_statement_sound s w l t.1 taken.1 r in
      ((is_tested s p x on.0 test, taken.0, other.0), other.1)
  statement_sound s w (good.while {sq = sq} {sr = sr} {s = p} {x = x} h k test) t i r =
      let on = value_sound s w h i (reaches_before s sq sr (statement_spends k) r).texts in
      let body = statement_sound s w k t on.1 r in
      ((is_tested s p x on.0 test, body.0), body.1)
  statement_sound s w (good.do_while {sq = sq} {sr = sr} {s = p} {x = x} h k test) t i r =
      let body = statement_sound s w h t i (reaches_kept s sq sr (value_keeps k) r) in
      let on = value_sound s w k body.1 r.texts in
      ((body.0, is_tested s p x on.0 test), on.1)
  statement_sound s w (good.for {sp = sp} {sq = sq} {sr = sr} {ss = ss} {su = su} {s = p} {x = x} {y = y} {w = z} h k l m test) t i r =
      let all_ends = reaches_in s su r in
      let step_ends = reaches_before s ss su (statement_spends m) all_ends in
      let test_ends = reaches_kept s sr ss (maybe_value_keeps l) step_ends in
      let first_ends = reaches_kept s sq sr (maybe_value_keeps k) test_ends in
      let first = maybe_statement_sound s w h t.0 (in_opened s sp.scopes i) first_ends in
      let on = maybe_value_sound s w k first.1 test_ends.texts in
      let step = maybe_value_sound s w l on.1 step_ends.texts in
      let body = statement_sound s w m t.1 step.1 all_ends in
      ((made_are_objects s sp su (maybe_made_in x ++ made_in z) (for_makes (maybe_statement_makes h) k l (statement_makes m)) all_ends.sizes, first.0, may_test s y on.0 (demanded_gives p WrongType (is_test y) test), step.0, body.0), in_closed s su.scopes body.1)
  statement_sound s w (good.switch {sq = sq} {sr = sr} {s = p} {x = x} {xs = xs} h k test) t i r =
      let all_ends = reaches_in s sr r in
      let on = value_sound s w h i (reaches_before s (opened sq) sr (arms_spend k) all_ends).texts in
      let arms = arms_sound s w refl k t (in_opened s sq.scopes on.1) all_ends in
      ((on.0, demanded_gives p WrongType (is_number (type_of_typed x)) test, made_are_objects s sq sr (arms_made_in xs) (arms_make k) all_ends.sizes, arms.0), in_closed s sr.scopes arms.1)
  statement_sound s w good.return_nothing t i r = (tt, i)
  statement_sound s {f = f} w (good.return_value {s = p} {x = x} h test) t i r =
      let on = value_sound s w h i r.texts in
      ((on.0, demanded_gives p WrongType (converts (type_of_typed x) f.gives) test), on.1)
  statement_sound s w (good.break {breaks = breaks} {s = p} test) t i r = (demanded_gives p BreakOutside breaks test, i)
  statement_sound s w (good.continue {continues = continues} {s = p} test) t i r = (demanded_gives p BreakOutside continues test, i)

  pub maybe_statement_sound : (s : Scene) {f : Fn} {sp sq : St} {breaks continues : Bool} {a : MaybeS} {x : MaybeZ} → WithinFunction f s → (h : MaybeStatement f sp breaks continues a x sq) → MaybeTold s.local_types h → InScopes s sp.scopes → Reaches sq s → MayState s x f.gives breaks continues × InScopes s sq.scopes
  maybe_statement_sound s w good.nothing t i r = (tt, i)
  maybe_statement_sound s w (good.something h) t i r = statement_sound s w h t i r

  pub statements_sound : (s : Scene) {f : Fn} {sp sq : St} {breaks continues : Bool} {a : StmtTs} {x : TStmtTs} → WithinFunction f s → (h : Statements f sp breaks continues a x sq) → StatementsTold s.local_types h → InScopes s sp.scopes → Reaches sq s → AreStatements s x f.gives breaks continues × InScopes s sq.scopes
  statements_sound s w good.no_statements t i r = (tt, i)
  statements_sound s w (good.more_statements {sq = sq} {sr = sr} h k) t i r =
      let here = statement_sound s w h t.0 i (reaches_before s sq sr (statements_spend k) r) in
      let later = statements_sound s w k t.1 here.1 r in
      ((here.0, later.0), later.1)

  -- `break` may stand in an arm of a switch
  arm_sound : (s : Scene) {f : Fn} {sp sq : St} {breaks continues : Bool} {seen : Labels} {a : ArmT} {x : TArmT} → WithinFunction f s → breaks ≡ true → (h : ArmOf f sp breaks continues seen a x sq) → ArmTold s.local_types h → InScopes s sp.scopes → Reaches sq s → IsLabel seen x × IsArm s x f.gives continues × InScopes s sq.scopes
  arm_sound s w e (good.case {seen = seen} {s = p} {k = k} h c test) t i r = (not_so (is_case k seen) (demanded_gives p Twice (not (is_case k seen)) test), tt, (value_sound s w h i r.texts).1)
  arm_sound s w e (good.default {seen = seen} {s = p} test) t i r = (not_so seen.has_default (demanded_gives p Twice (not seen.has_default) test), tt, i)
  arm_sound s {f = f} w e (good.arm_statement {continues = continues} {x = x} h) t i r =
      let here = statement_sound s w h t i r in
      (tt, subst (λ b. IsStatement s x f.gives b continues) e here.0, here.1)

  arms_sound : (s : Scene) {f : Fn} {sp sq : St} {breaks continues : Bool} {seen : Labels} {a : ArmTs} {x : TArmTs} → WithinFunction f s → breaks ≡ true → (h : ArmsOf f sp breaks continues seen a x sq) → ArmsTold s.local_types h → InScopes s sp.scopes → Reaches sq s → AreArms s x f.gives continues seen × InScopes s sq.scopes
  arms_sound s w e good.no_arms t i r = (tt, i)
  arms_sound s w e (good.more_arms {sq = sq} {sr = sr} h k) t i r =
      let here = arm_sound s w e h t.0 i (reaches_before s sq sr (arms_spend k) r) in
      let later = arms_sound s w e k t.1 here.2 r in
      ((here.0, here.1, later.0), later.1)

-- The body of a function, where the objects of the call and the texts of the program begin with those that stand after it.
pub body_sound : (s : Scene) {f : Fn} {sp sq : St} {body : StmtTs} {x : TStmtTs} → WithinFunction f s → (h : Statements f sp false false body x sq) → StatementsTold s.local_types h → InScopes s sp.scopes → Begins sq.sizes s.locals → Begins sq.texts s.literals → AreStatements s x f.gives false false
body_sound s w h t i sizes texts = (statements_sound s w h t i (record { sizes = sizes; texts = texts })).0
