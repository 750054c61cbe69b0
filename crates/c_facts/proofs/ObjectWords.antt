-- Each object of a call has a word at least.
use Rattle.std.proofs.Common.{◌≡◌, ℕ, ◌+◌, ◌*◌, ◌<◌, ◌≤◌, Bool, true, false, not, ◌&&◌, nat_le, List, [], ◌∷◌, ◌++◌, length, Option, Some, Ok, refl, sym, ap, ◌∙◌, subst, subst₂, arith}
use Rattle.std.specs.Prelude.{slice_get}
use Rattle.std.proofs.Math.Nat.{le-mul_of_pos_right}
use Rattle.c_tree.specs.Tree.{ExprT, VarT, StmtT, MaybeS, StmtTs, ArmT, ArmTs}
use Rattle.c_types.specs.Types.{Ty, VoidY, IntY, BoolY, EnumY, StructY, UnionY, PointerY, ArrayY, LayoutT}
use Rattle.c_types.specs.Typed.{TExprT, TVarT, TStmtT, MaybeZ, TStmtTs, TArmT, TArmTs}
use Rattle.c_types.specs.Sizes.{words_of}
use Rattle.c_rules.specs.declared.code.Code.TheVariants.{InfiniteType, TooLarge}
use Rattle.c_types.specs.Kinds.{is_void}
use Rattle.c_rules.specs.Kinds.{is_array}
use Rattle.c_rules.specs.Rules.{judged}
use Rattle.c_rules.specs.Sizes.{is_declared, is_whole, fits, value_limit}
use Rattle.c_check.specs.Reading.{Un, parameter_rule, with_parameter}
use Rattle.c_check.specs.ItemTypes as item
use Rattle.c_check.specs.ItemTypes.{BodyAt, Parameter, Parameters}
use Rattle.c_stmts.specs.State.{Fn, St, opened, left, entered, locals_limit, Labels}
use Rattle.c_stmts.specs.StatementTypes as good
use Rattle.c_stmts.specs.StatementTypes.{ValueIn, Declares, AllDeclare, MaybeValue, Statement, MaybeStatement, Statements, ArmOf, ArmsOf}
use Rattle.c_facts.specs.Sound.{Scene, IsKnown, AllHaveWords}
use Rattle.c_facts.proofs.Within.{Begins, Grows, AreMeant, AreBodies, InScopes, MembersWhole, MembersKnown}
use Rattle.c_facts.proofs.Fronts.{begins_through}
use Rattle.std.proofs.lemmas.Option.{slice_get_within}
use Rattle.c_facts.proofs.Laid.{declared_there}
use Rattle.c_facts.proofs.Scopes.{in_opened}
use Rattle.c_facts.proofs.Stays.{two_demands}
use Rattle.c_facts.proofs.Positive.{HaveWords, size_there, layout_has_words}
use Rattle.c_facts.proofs.Spending.{Keeps, Spends, entered_keeps, type_keeps, maybe_fill_keeps, has_size, value_keeps, maybe_value_keeps, variables_spend, statement_spends, maybe_statement_spends, statements_spend, arms_spend}
use Rattle.c_facts.proofs.ObjectTypes.{VariablesTold, StatementTold, MaybeTold, StatementsTold, ArmTold, ArmsTold}
use Rattle.c_facts.proofs.Statements.{WithinFunction, Reaches, reaches_before, reaches_kept, reaches_in, value_sound, type_sound, variable_sound, statement_sound, maybe_statement_sound}

-- ---- types, while a unit is read

product : (m n : ℕ) → 1 ≤ m → 0 < n → 1 ≤ m * n
product m n h k = let le : m ≤ m * n = le-mul_of_pos_right m k in omega (arith, le, h)

layout_words_then : (layouts : List LayoutT) (whole : List Bool) → HaveWords layouts whole → length whole ≡ length layouts → (k : ℕ) → is_declared whole k ≡ true → 1 ≤ size_there (slice_get layouts k)
layout_words_then layouts whole h e k d =
    let in_whole = slice_get_within whole k true (declared_there whole k d) in
    let l = layout_has_words layouts whole h k (omega (arith, e, in_whole)) d in
    omega (arith, l)

-- a type of which the size is known then, and which the whole program knows, has a word at least
words_then : (s : Scene) (layouts : List LayoutT) (whole : List Bool) → HaveWords layouts whole → length whole ≡ length layouts → (ty : Ty) → IsKnown s.layouts s.whole ty → is_whole whole ty ≡ true → 1 ≤ words_of layouts ty
words_then s layouts whole h e VoidY known w = absurd cc
words_then s layouts whole h e IntY known w = omega arith
words_then s layouts whole h e BoolY known w = omega arith
words_then s layouts whole h e (EnumY number) known w = omega arith
words_then s layouts whole h e (StructY number) known w = layout_words_then layouts whole h e number w
words_then s layouts whole h e (UnionY number) known w = layout_words_then layouts whole h e number w
words_then s layouts whole h e (PointerY to) known w = omega arith
words_then s layouts whole h e (ArrayY of count) known w = product (words_of layouts of) count (words_then s layouts whole h e of known.0 w) known.2

pub all_push : (ns : List ℕ) (n : ℕ) → AllHaveWords ns → 1 ≤ n → AllHaveWords (ns ++ n ∷ [])
all_push [] n all one = (one, tt)
all_push (m ∷ ns) n all one = (all.0, all_push ns n all.1 one)

-- ---- statements

-- the layouts that a function is read under
pub record Worded (f : Fn) : Type 0 where
  pub words : HaveWords f.layouts f.whole
  pub equal : length f.whole ≡ length f.layouts

kept_words : (sp sq : St) → Keeps sp sq → AllHaveWords sp.sizes → AllHaveWords sq.sizes
kept_words sp sq k all = subst AllHaveWords (sym k.sizes) all

value_words : {f : Fn} {sp sq : St} {e : ExprT} {x : TExprT} → ValueIn f sp e x sq → AllHaveWords sp.sizes → AllHaveWords sq.sizes
value_words {sp = sp} {sq = sq} h all = kept_words sp sq (value_keeps h) all

maybe_value_words : {f : Fn} {sp sq : St} {e : Option ExprT} {x : Option TExprT} → MaybeValue f sp e x sq → AllHaveWords sp.sizes → AllHaveWords sq.sizes
maybe_value_words {sp = sp} {sq = sq} h all = kept_words sp sq (maybe_value_keeps h) all

maybe_value_scopes : (s : Scene) {f : Fn} {sp sq : St} {e : Option ExprT} {x : Option TExprT} → WithinFunction f s → MaybeValue f sp e x sq → InScopes s sp.scopes → Begins sq.texts s.literals → InScopes s sq.scopes
maybe_value_scopes s w good.no_value i b = i
maybe_value_scopes s w (good.some_value h) i b = (value_sound s w h i b).1

variable_words : (s : Scene) {f : Fn} {sp sq : St} {v : VarT} {xs : List TVarT} → WithinFunction f s → Worded f → Declares f sp v xs sq → InScopes s sp.scopes → Reaches sq s → AllHaveWords sp.sizes → AllHaveWords sq.sizes
variable_words s {f = f} w wd (good.variable {sp = sp} {sq = sq} {sr = sr} {v = v} {t = t} {n = n} h k size) i r all =
    let fill_kept = maybe_fill_keeps k in
    let name_kept = entered_keeps v.name t sq in
    let named : St = entered v.name t sq in
    let size_known = has_size v.span f.layouts f.whole locals_limit sp.used _ t n size in
    let same : sr.sizes ≡ sp.sizes = fill_kept.sizes ∙ name_kept.sizes ∙ (type_keeps h).sizes in
    let texts : Begins sq.texts s.literals = begins_through sq.texts named.texts s.literals name_kept.texts (begins_through named.texts sr.texts s.literals fill_kept.texts r.texts) in
    let typed = type_sound s w h i texts in
    let some = words_then s f.layouts f.whole wd.words wd.equal t typed.0 size_known.sized in
    let words = size_known.words in
    all_push sr.sizes n (subst AllHaveWords (sym same) all) (omega (arith, some, words))

variables_words : (s : Scene) {f : Fn} {sp sq : St} {vs : List VarT} {xs : List TVarT} → WithinFunction f s → Worded f → (h : AllDeclare f sp vs xs sq) → VariablesTold s.local_types h → InScopes s sp.scopes → Reaches sq s → AllHaveWords sp.sizes → AllHaveWords sq.sizes
variables_words s w wd good.no_variables t i r all = all
variables_words s w wd (good.more_variables {sq = sq} {sr = sr} h k) t i r all =
    let here_ends = reaches_before s sq sr (variables_spend k) r in
    variables_words s w wd k t.1 (variable_sound s w h t.0 i here_ends).1 r (variable_words s w wd h i here_ends all)

-- the scopes behind an arm
arm_scopes : (s : Scene) {f : Fn} {sp sq : St} {breaks continues : Bool} {seen : Labels} {a : ArmT} {x : TArmT} → WithinFunction f s → (h : ArmOf f sp breaks continues seen a x sq) → ArmTold s.local_types h → InScopes s sp.scopes → Reaches sq s → InScopes s sq.scopes
arm_scopes s w (good.case h c test) t i r = (value_sound s w h i r.texts).1
arm_scopes s w (good.default test) t i r = i
arm_scopes s w (good.arm_statement h) t i r = (statement_sound s w h t i r).1

mutual
  pub statement_words : (s : Scene) {f : Fn} {sp sq : St} {breaks continues : Bool} {a : StmtT} {x : TStmtT} → WithinFunction f s → Worded f → (h : Statement f sp breaks continues a x sq) → StatementTold s.local_types h → InScopes s sp.scopes → Reaches sq s → AllHaveWords sp.sizes → AllHaveWords sq.sizes
  statement_words s w wd (good.block {sp = sp} {sq = sq} h) t i r all = statements_words s w wd h t (in_opened s sp.scopes i) (reaches_in s sq r) all
  statement_words s w wd good.empty t i r all = all
  statement_words s w wd (good.variables h) t i r all = variables_words s w wd h t i r all
  statement_words s w wd (good.expression h) t i r all = value_words h all
  statement_words s w wd (good.if_else {sq = sq} {sr = sr} {ss = ss} h k l test) t i r all =
      let then_ends = reaches_before s sr ss (maybe_statement_spends l) r in
      let test_ends = reaches_before s sq sr (statement_spends k) then_ends in
      let on = (value_sound s w h i test_ends.texts).1 in
      maybe_statement_words s w wd l t.1 (statement_sound s w k t.0 on then_ends).1 r (statement_words s w wd k t.0 on then_ends (value_words h all))
  statement_words s w wd (good.while {sq = sq} {sr = sr} h k test) t i r all =
      let on = (value_sound s w h i (reaches_before s sq sr (statement_spends k) r).texts).1 in
      statement_words s w wd k t on r (value_words h all)
  statement_words s w wd (good.do_while {sq = sq} {sr = sr} h k test) t i r all =
      value_words k (statement_words s w wd h t i (reaches_kept s sq sr (value_keeps k) r) all)
  statement_words s w wd (good.for {sp = sp} {sq = sq} {sr = sr} {ss = ss} {su = su} h k l m test) t i r all =
      let all_ends = reaches_in s su r in
      let step_ends = reaches_before s ss su (statement_spends m) all_ends in
      let test_ends = reaches_kept s sr ss (maybe_value_keeps l) step_ends in
      let first_ends = reaches_kept s sq sr (maybe_value_keeps k) test_ends in
      let first = (maybe_statement_sound s w h t.0 (in_opened s sp.scopes i) first_ends).1 in
      let on = maybe_value_scopes s w k first test_ends.texts in
      let step = maybe_value_scopes s w l on step_ends.texts in
      statement_words s w wd m t.1 step all_ends (maybe_value_words l (maybe_value_words k (maybe_statement_words s w wd h t.0 (in_opened s sp.scopes i) first_ends all)))
  statement_words s w wd (good.switch {sq = sq} {sr = sr} h k test) t i r all =
      let all_ends = reaches_in s sr r in
      let on = (value_sound s w h i (reaches_before s (opened sq) sr (arms_spend k) all_ends).texts).1 in
      arms_words s w wd k t (in_opened s sq.scopes on) all_ends (value_words h all)
  statement_words s w wd good.return_nothing t i r all = all
  statement_words s w wd (good.return_value h test) t i r all = value_words h all
  statement_words s w wd (good.break test) t i r all = all
  statement_words s w wd (good.continue test) t i r all = all

  pub maybe_statement_words : (s : Scene) {f : Fn} {sp sq : St} {breaks continues : Bool} {a : MaybeS} {x : MaybeZ} → WithinFunction f s → Worded f → (h : MaybeStatement f sp breaks continues a x sq) → MaybeTold s.local_types h → InScopes s sp.scopes → Reaches sq s → AllHaveWords sp.sizes → AllHaveWords sq.sizes
  maybe_statement_words s w wd good.nothing t i r all = all
  maybe_statement_words s w wd (good.something h) t i r all = statement_words s w wd h t i r all

  pub statements_words : (s : Scene) {f : Fn} {sp sq : St} {breaks continues : Bool} {a : StmtTs} {x : TStmtTs} → WithinFunction f s → Worded f → (h : Statements f sp breaks continues a x sq) → StatementsTold s.local_types h → InScopes s sp.scopes → Reaches sq s → AllHaveWords sp.sizes → AllHaveWords sq.sizes
  statements_words s w wd good.no_statements t i r all = all
  statements_words s w wd (good.more_statements {sq = sq} {sr = sr} h k) t i r all =
      let here_ends = reaches_before s sq sr (statements_spend k) r in
      statements_words s w wd k t.1 (statement_sound s w h t.0 i here_ends).1 r (statement_words s w wd h t.0 i here_ends all)

  pub arm_words : (s : Scene) {f : Fn} {sp sq : St} {breaks continues : Bool} {seen : Labels} {a : ArmT} {x : TArmT} → WithinFunction f s → Worded f → (h : ArmOf f sp breaks continues seen a x sq) → ArmTold s.local_types h → InScopes s sp.scopes → Reaches sq s → AllHaveWords sp.sizes → AllHaveWords sq.sizes
  arm_words s w wd (good.case h c test) t i r all = value_words h all
  arm_words s w wd (good.default test) t i r all = all
  arm_words s w wd (good.arm_statement h) t i r all = statement_words s w wd h t i r all

  pub arms_words : (s : Scene) {f : Fn} {sp sq : St} {breaks continues : Bool} {seen : Labels} {a : ArmTs} {x : TArmTs} → WithinFunction f s → Worded f → (h : ArmsOf f sp breaks continues seen a x sq) → ArmsTold s.local_types h → InScopes s sp.scopes → Reaches sq s → AllHaveWords sp.sizes → AllHaveWords sq.sizes
  arms_words s w wd good.no_arms t i r all = all
  arms_words s w wd (good.more_arms {sq = sq} {sr = sr} h k) t i r all =
      let here_ends = reaches_before s sq sr (arms_spend k) r in
      arms_words s w wd k t.1 (arm_scopes s w h t.0 i here_ends) r (arm_words s w wd h t.0 i here_ends all)

-- the objects of a body
pub body_words_are : (s : Scene) (f : Fn) (sp sq : St) (body : StmtTs) (x : TStmtTs) → Grows f.layouts f.whole s.layouts s.whole → AreMeant s f.names → AreBodies s f.names f.bodies → MembersKnown s → MembersWhole f.layouts f.whole
    → HaveWords f.layouts f.whole → length f.whole ≡ length f.layouts → InScopes s sp.scopes → (g : Statements f sp false false body x sq) → StatementsTold s.local_types g → Begins sq.sizes s.locals → Begins sq.texts s.literals → AllHaveWords sp.sizes → AllHaveWords sq.sizes
body_words_are s f sp sq body x grows names bodies members whole words equal scopes g told sizes texts all =
    statements_words s (record { grows = grows; names = names; bodies = bodies; members = members; whole = whole }) (record { words = words; equal = equal }) g told scopes (record { sizes = sizes; texts = texts }) all

-- ---- parameters

-- a parameter has words: its type is no array, and its size is known
pub plain_words : (layouts : List LayoutT) (whole : List Bool) → HaveWords layouts whole → length whole ≡ length layouts → (ty : Ty) (n : ℕ) → judged (parameter_rule layouts whole ty) ≡ Ok n → 1 ≤ n
unfolding parameter_rule
plain_words layouts whole h e ty n rule = by ty (two_demands (not (is_void ty) && not (is_array ty)) (is_whole whole ty) (fits layouts value_limit ty) (words_of layouts ty) n InfiniteType TooLarge rule)
  where
    by : (ty : Ty) → ((not (is_void ty) && not (is_array ty)) ≡ true) × (is_whole whole ty ≡ true) × (fits layouts value_limit ty ≡ true) × (words_of layouts ty ≡ n) → 1 ≤ n
    by VoidY k = absurd (let v = k.0 in cc)
    by IntY k = omega (arith, k.3)
    by BoolY k = omega (arith, k.3)
    by (EnumY number) k = omega (arith, k.3)
    by (StructY number) k = omega (arith, k.3, layout_words_then layouts whole h e number k.1)
    by (UnionY number) k = omega (arith, k.3, layout_words_then layouts whole h e number k.1)
    by (PointerY to) k = omega (arith, k.3)
    by (ArrayY of count) k = absurd (let v = k.0 in cc)
