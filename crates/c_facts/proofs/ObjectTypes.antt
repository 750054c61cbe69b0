-- The types that a function declares for the objects of a call.
use Rattle.std.proofs.Common.{◌≡◌, ℕ, suc, ◌+◌, Bool, true, List, [], ◌∷◌, ◌++◌, length, map, Option, Some, None, refl, sym, ap, ◌∙◌, subst, subst₂, append_assoc, append-nil, length-append, arith}
use Rattle.c_tree.specs.Tree.{VarT, StmtT, MaybeS, StmtTs, ArmT, ArmTs}
use Rattle.c_types.specs.Types.{Ty, LayoutT}
use Rattle.c_types.specs.Typed.{TVarT, TStmtT, MaybeZ, TStmtTs, TArmT, TArmTs}
use Rattle.c_types.specs.Sizes.{words_of}
use Rattle.c_rules.specs.Sizes.{is_whole}
use Rattle.c_stmts.specs.State.{Fn, St, locals_limit, Labels}
use Rattle.c_stmts.specs.StatementTypes as good
use Rattle.c_stmts.specs.StatementTypes.{Declares, AllDeclare, Statement, MaybeStatement, Statements, ArmOf, ArmsOf}
use Rattle.c_facts.specs.Sound.{IsOfType}
use Rattle.c_facts.proofs.Within.{Grows}
use Rattle.c_facts.proofs.Fronts.{after_front}
use Rattle.c_facts.proofs.Growth.{words_later}
use Rattle.c_facts.proofs.Spending.{entered_keeps, type_keeps, maybe_fill_keeps, has_size, value_keeps, maybe_value_keeps}

-- ---- objects in a row

-- Where types are told, the objects from this number on have these.
abbrev pub AreOfTypes : Option (List Ty) → ℕ → List Ty → Type 0
AreOfTypes o n [] = Unit {0}
AreOfTypes o n (t ∷ ts) = IsOfType o n t × AreOfTypes o (suc n) ts

pub none_told : (n : ℕ) (ts : List Ty) → AreOfTypes None n ts
none_told n [] = tt
none_told n (t ∷ ts) = (tt, none_told (suc n) ts)

-- a part of those that are told
pub part_told : (front ts back : List Ty) → AreOfTypes (Some (front ++ (ts ++ back))) (length front) ts
part_told front [] back = tt
part_told front (t ∷ ts) back =
    let all : (front ++ t ∷ []) ++ (ts ++ back) ≡ front ++ (t ∷ ts ++ back) = append_assoc front (t ∷ []) (ts ++ back) in
    let count : length (front ++ t ∷ []) ≡ suc (length front) = omega (arith, length-append front (t ∷ [])) in
    (after_front front t (ts ++ back), subst₂ (λ us n. AreOfTypes (Some us) n ts) all count (part_told (front ++ t ∷ []) ts back))

pub both_told : (o : Option (List Ty)) (n : ℕ) (ts us : List Ty) → AreOfTypes o n (ts ++ us) → AreOfTypes o n ts × AreOfTypes o (n + length ts) us
both_told o n [] us h =
    let there : n ≡ n + 0 = omega arith in
    (tt, subst (λ k. AreOfTypes o k us) there h)
both_told o n (t ∷ ts) us h =
    let rest = both_told o (suc n) ts us h.1 in
    let there : suc n + length ts ≡ n + suc (length ts) = omega arith in
    ((h.0, rest.0), subst (λ k. AreOfTypes o k us) there rest.1)

-- ---- what a function declares

-- Where types are told, each variable that is declared has its own.
abbrev pub VariableTold : {f : Fn} {sp sq : St} {v : VarT} {xs : List TVarT} → Option (List Ty) → Declares f sp v xs sq → Type 0
VariableTold o (good.variable {sp = sp} {t = t} h k size) = IsOfType o (length sp.sizes) t

abbrev pub VariablesTold : {f : Fn} {sp sq : St} {vs : List VarT} {xs : List TVarT} → Option (List Ty) → AllDeclare f sp vs xs sq → Type 0
VariablesTold o good.no_variables = Unit {0}
VariablesTold o (good.more_variables h k) = VariableTold o h × VariablesTold o k

abbrev mutual
  pub StatementTold : {f : Fn} {sp sq : St} {breaks continues : Bool} {a : StmtT} {x : TStmtT} → Option (List Ty) → Statement f sp breaks continues a x sq → Type 0
  StatementTold o (good.block h) = StatementsTold o h
  StatementTold o good.empty = Unit {0}
  StatementTold o (good.variables h) = VariablesTold o h
  StatementTold o (good.expression h) = Unit {0}
  StatementTold o (good.if_else h k l test) = StatementTold o k × MaybeTold o l
  StatementTold o (good.while h k test) = StatementTold o k
  StatementTold o (good.do_while h k test) = StatementTold o h
  StatementTold o (good.for h k l m test) = MaybeTold o h × StatementTold o m
  StatementTold o (good.switch h k test) = ArmsTold o k
  StatementTold o good.return_nothing = Unit {0}
  StatementTold o (good.return_value h test) = Unit {0}
  StatementTold o (good.break test) = Unit {0}
  StatementTold o (good.continue test) = Unit {0}

  pub MaybeTold : {f : Fn} {sp sq : St} {breaks continues : Bool} {a : MaybeS} {x : MaybeZ} → Option (List Ty) → MaybeStatement f sp breaks continues a x sq → Type 0
  MaybeTold o good.nothing = Unit {0}
  MaybeTold o (good.something h) = StatementTold o h

  pub StatementsTold : {f : Fn} {sp sq : St} {breaks continues : Bool} {a : StmtTs} {x : TStmtTs} → Option (List Ty) → Statements f sp breaks continues a x sq → Type 0
  StatementsTold o good.no_statements = Unit {0}
  StatementsTold o (good.more_statements h k) = StatementTold o h × StatementsTold o k

  pub ArmTold : {f : Fn} {sp sq : St} {breaks continues : Bool} {seen : Labels} {a : ArmT} {x : TArmT} → Option (List Ty) → ArmOf f sp breaks continues seen a x sq → Type 0
  ArmTold o (good.case h c test) = Unit {0}
  ArmTold o (good.default test) = Unit {0}
  ArmTold o (good.arm_statement h) = StatementTold o h

  pub ArmsTold : {f : Fn} {sp sq : St} {breaks continues : Bool} {seen : Labels} {a : ArmTs} {x : TArmTs} → Option (List Ty) → ArmsOf f sp breaks continues seen a x sq → Type 0
  ArmsTold o good.no_arms = Unit {0}
  ArmsTold o (good.more_arms h k) = ArmTold o h × ArmsTold o k

-- ---- the types of what is declared

abbrev pub AllTypesWhole : List Bool → List Ty → Type 0
AllTypesWhole whole [] = Unit {0}
AllTypesWhole whole (t ∷ ts) = (is_whole whole t ≡ true) × AllTypesWhole whole ts

-- The sizes behind a part of a function are those before it and the words of these types; where they are told of the objects from there on, all
-- that the part declares is told.
pub record Declared (layouts : List LayoutT) (whole : List Bool) (before after : List ℕ) (IsTold : Option (List Ty) → Type 0) : Type 0 where
  pub types : List Ty
  pub sizes : after ≡ before ++ map (words_of layouts) types
  pub complete : AllTypesWhole whole types
  pub told : (o : Option (List Ty)) → AreOfTypes o (length before) types → IsTold o

abbrev NoneTold : Option (List Ty) → Type 0
NoneTold o = Unit {0}

declares_none : (layouts : List LayoutT) (whole : List Bool) (before after : List ℕ) → after ≡ before → Declared layouts whole before after NoneTold
declares_none layouts whole before after e = record { types = []; sizes = e ∙ sym (append-nil before); complete = tt; told = λ o h. tt }

all_whole : (whole : List Bool) (ts us : List Ty) → AllTypesWhole whole ts → AllTypesWhole whole us → AllTypesWhole whole (ts ++ us)
all_whole whole [] us h k = k
all_whole whole (t ∷ ts) us h k = (h.0, all_whole whole ts us h.1 k)

pub map_both : (layouts : List LayoutT) (ts us : List Ty) → map (words_of layouts) (ts ++ us) ≡ map (words_of layouts) ts ++ map (words_of layouts) us
map_both layouts [] us = refl
map_both layouts (t ∷ ts) us = ap (λ ns. words_of layouts t ∷ ns) (map_both layouts ts us)

pub map_count : (layouts : List LayoutT) (ts : List Ty) → length (map (words_of layouts) ts) ≡ length ts
map_count layouts [] = refl
map_count layouts (t ∷ ts) = ap suc (map_count layouts ts)

declares_both : (layouts : List LayoutT) (whole : List Bool) (before middle after : List ℕ) (A B : Option (List Ty) → Type 0) → Declared layouts whole before middle A → Declared layouts whole middle after B → Declared layouts whole before after (λ o. A o × B o)
declares_both layouts whole before middle after A B h k = record {
  types = h.types ++ k.types;
  sizes = k.sizes ∙ ap (λ ns. ns ++ map (words_of layouts) k.types) h.sizes ∙ append_assoc before (map (words_of layouts) h.types) (map (words_of layouts) k.types)
      ∙ ap (λ ns. before ++ ns) (sym (map_both layouts h.types k.types));
  complete = all_whole whole h.types k.types h.complete k.complete;
  told = λ o all.
      let parts = both_told o (length before) h.types k.types all in
      (h.told o parts.0, k.told o (subst (λ n. AreOfTypes o n k.types) (sym there) parts.1));
}
  where
    there : length middle ≡ length before + length h.types
    there = omega (arith, ap length h.sizes, length-append before (map (words_of layouts) h.types), map_count layouts h.types)

-- what declares nothing before it, or behind it
behind : (layouts : List LayoutT) (whole : List Bool) (before middle after : List ℕ) (A : Option (List Ty) → Type 0) → middle ≡ before → Declared layouts whole middle after A → Declared layouts whole before after A
behind layouts whole before middle after A e h = subst (λ ns. Declared layouts whole ns after A) e h

ahead : (layouts : List LayoutT) (whole : List Bool) (before middle after : List ℕ) (A : Option (List Ty) → Type 0) → Declared layouts whole before middle A → after ≡ middle → Declared layouts whole before after A
ahead layouts whole before middle after A h e = subst (λ ns. Declared layouts whole before ns A) (sym e) h

variable_declares : {f : Fn} {sp sq : St} {v : VarT} {xs : List TVarT} → (h : Declares f sp v xs sq) → Declared f.layouts f.whole sp.sizes sq.sizes (λ o. VariableTold o h)
variable_declares {f = f} (good.variable {sp = sp} {sq = sq} {sr = sr} {v = v} {t = t} {n = n} h k size) =
    let known = has_size v.span f.layouts f.whole locals_limit sp.used _ t n size in
    let same : sr.sizes ≡ sp.sizes = (maybe_fill_keeps k).sizes ∙ (entered_keeps v.name t sq).sizes ∙ (type_keeps h).sizes in
    record {
      types = t ∷ [];
      sizes = ap (λ ns. ns ++ n ∷ []) same ∙ ap (λ m. sp.sizes ++ m ∷ []) (sym known.words);
      complete = (known.sized, tt);
      told = λ o all. all.0;
    }

variables_declare : {f : Fn} {sp sq : St} {vs : List VarT} {xs : List TVarT} → (h : AllDeclare f sp vs xs sq) → Declared f.layouts f.whole sp.sizes sq.sizes (λ o. VariablesTold o h)
variables_declare {f = f} (good.no_variables {sp = sp}) = declares_none f.layouts f.whole sp.sizes sp.sizes refl
variables_declare {f = f} (good.more_variables {sp = sp} {sq = sq} {sr = sr} h k) = declares_both f.layouts f.whole sp.sizes sq.sizes sr.sizes (λ o. VariableTold o h) (λ o. VariablesTold o k) (variable_declares h) (variables_declare k)

mutual
  pub statement_declares : {f : Fn} {sp sq : St} {breaks continues : Bool} {a : StmtT} {x : TStmtT} → (h : Statement f sp breaks continues a x sq) → Declared f.layouts f.whole sp.sizes sq.sizes (λ o. StatementTold o h)
  statement_declares (good.block h) = statements_declare h
  statement_declares {f = f} (good.empty {sp = sp}) = declares_none f.layouts f.whole sp.sizes sp.sizes refl
  statement_declares (good.variables h) = variables_declare h
  statement_declares {f = f} (good.expression {sp = sp} {sq = sq} h) = declares_none f.layouts f.whole sp.sizes sq.sizes (value_keeps h).sizes
  statement_declares {f = f} (good.if_else {sp = sp} {sq = sq} {sr = sr} {ss = ss} h k l test) =
      behind f.layouts f.whole sp.sizes sq.sizes ss.sizes (λ o. StatementTold o k × MaybeTold o l) (value_keeps h).sizes
      (declares_both f.layouts f.whole sq.sizes sr.sizes ss.sizes (λ o. StatementTold o k) (λ o. MaybeTold o l) (statement_declares k) (maybe_statement_declares l))
  statement_declares {f = f} (good.while {sp = sp} {sq = sq} {sr = sr} h k test) = behind f.layouts f.whole sp.sizes sq.sizes sr.sizes (λ o. StatementTold o k) (value_keeps h).sizes (statement_declares k)
  statement_declares {f = f} (good.do_while {sp = sp} {sq = sq} {sr = sr} h k test) = ahead f.layouts f.whole sp.sizes sq.sizes sr.sizes (λ o. StatementTold o h) (statement_declares h) (value_keeps k).sizes
  statement_declares {f = f} (good.for {sp = sp} {sq = sq} {sr = sr} {ss = ss} {su = su} h k l m test) =
      declares_both f.layouts f.whole sp.sizes sq.sizes su.sizes (λ o. MaybeTold o h) (λ o. StatementTold o m) (maybe_statement_declares h)
      (behind f.layouts f.whole sq.sizes ss.sizes su.sizes (λ o. StatementTold o m) ((maybe_value_keeps l).sizes ∙ (maybe_value_keeps k).sizes) (statement_declares m))
  statement_declares {f = f} (good.switch {sp = sp} {sq = sq} {sr = sr} h k test) = behind f.layouts f.whole sp.sizes sq.sizes sr.sizes (λ o. ArmsTold o k) (value_keeps h).sizes (arms_declare k)
  statement_declares {f = f} (good.return_nothing {sp = sp}) = declares_none f.layouts f.whole sp.sizes sp.sizes refl
  statement_declares {f = f} (good.return_value {sp = sp} {sq = sq} h test) = declares_none f.layouts f.whole sp.sizes sq.sizes (value_keeps h).sizes
  statement_declares {f = f} (good.break {sp = sp} test) = declares_none f.layouts f.whole sp.sizes sp.sizes refl
  statement_declares {f = f} (good.continue {sp = sp} test) = declares_none f.layouts f.whole sp.sizes sp.sizes refl

  pub maybe_statement_declares : {f : Fn} {sp sq : St} {breaks continues : Bool} {a : MaybeS} {x : MaybeZ} → (h : MaybeStatement f sp breaks continues a x sq) → Declared f.layouts f.whole sp.sizes sq.sizes (λ o. MaybeTold o h)
  maybe_statement_declares {f = f} (good.nothing {sp = sp}) = declares_none f.layouts f.whole sp.sizes sp.sizes refl
  maybe_statement_declares (good.something h) = statement_declares h

  pub statements_declare : {f : Fn} {sp sq : St} {breaks continues : Bool} {a : StmtTs} {x : TStmtTs} → (h : Statements f sp breaks continues a x sq) → Declared f.layouts f.whole sp.sizes sq.sizes (λ o. StatementsTold o h)
  statements_declare {f = f} (good.no_statements {sp = sp}) = declares_none f.layouts f.whole sp.sizes sp.sizes refl
  statements_declare {f = f} (good.more_statements {sp = sp} {sq = sq} {sr = sr} h k) =
      declares_both f.layouts f.whole sp.sizes sq.sizes sr.sizes (λ o. StatementTold o h) (λ o. StatementsTold o k) (statement_declares h) (statements_declare k)

  pub arm_declares : {f : Fn} {sp sq : St} {breaks continues : Bool} {seen : Labels} {a : ArmT} {x : TArmT} → (h : ArmOf f sp breaks continues seen a x sq) → Declared f.layouts f.whole sp.sizes sq.sizes (λ o. ArmTold o h)
  arm_declares {f = f} (good.case {sp = sp} {sq = sq} h c test) = declares_none f.layouts f.whole sp.sizes sq.sizes (value_keeps h).sizes
  arm_declares {f = f} (good.default {sp = sp} test) = declares_none f.layouts f.whole sp.sizes sp.sizes refl
  arm_declares (good.arm_statement h) = statement_declares h

  pub arms_declare : {f : Fn} {sp sq : St} {breaks continues : Bool} {seen : Labels} {a : ArmTs} {x : TArmTs} → (h : ArmsOf f sp breaks continues seen a x sq) → Declared f.layouts f.whole sp.sizes sq.sizes (λ o. ArmsTold o h)
  arms_declare {f = f} (good.no_arms {sp = sp}) = declares_none f.layouts f.whole sp.sizes sp.sizes refl
  arms_declare {f = f} (good.more_arms {sp = sp} {sq = sq} {sr = sr} h k) =
      declares_both f.layouts f.whole sp.sizes sq.sizes sr.sizes (λ o. ArmTold o h) (λ o. ArmsTold o k) (arm_declares h) (arms_declare k)

-- ---- in the whole program

-- the words of types that are whole stay
pub words_stay : {layouts later : List LayoutT} {whole all : List Bool} → Grows layouts whole later all → (ts : List Ty) → AllTypesWhole whole ts → map (words_of layouts) ts ≡ map (words_of later) ts
words_stay g [] h = refl
words_stay {layouts = layouts} {later = later} g (t ∷ ts) h = ap (λ n. n ∷ map (words_of layouts) ts) (words_later g t h.0) ∙ ap (λ ns. words_of later t ∷ ns) (words_stay g ts h.1)
