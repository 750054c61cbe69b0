-- The texts have at most so many words, through all that is read.
use Rattle.std.proofs.Common.{◌≡◌, ℕ, ◌+◌, ◌≤◌, Bool, true, false, List, [], ◌∷◌, ◌++◌, length, Option, Result, Ok, Err, refl, sym, ap, subst, arith}
use Rattle.std.specs.Prelude.{nat_le, if◌then◌else◌}
use Rattle.std.proofs.lemmas.Bool.{leb-true}
use Rattle.std.proofs.lemmas.List.Sums.{sum_by_push}
use Rattle.c_tree.specs.declared.span.Span.{Span}
use Rattle.c_tree.specs.Tree.{ExprT, ExprTs, TypeT, InitT, InitTs, VarT, StmtT, MaybeS, StmtTs, ArmT, ArmTs}
use Rattle.c_types.specs.Types.{Ty}
use Rattle.c_types.specs.Typed.{TExprT, TExprTs, TInitT, TInitTs, TVarT, TStmtT, MaybeZ, TStmtTs, TArmT, TArmTs}
use Rattle.c_rules.specs.declared.code.Code.TheVariants.{TooLarge}
use Rattle.c_exprs.specs.Env.{Text, Ctx}
use Rattle.c_exprs.specs.declared.error.Fault.{Fault}
use Rattle.c_exprs.specs.Faults.{at, text_words, text_limit, with_text}
use Rattle.c_exprs.specs.Types as expression
use Rattle.c_exprs.specs.Types.{Types, Values, Used, AllValues, Names}
use Rattle.c_stmts.specs.Slots.{Slots}
use Rattle.c_stmts.specs.State.{Fn, St, Labels, is_new, declare, entered}
use Rattle.c_stmts.specs.InitTypes as filling
use Rattle.c_stmts.specs.InitTypes.{Fills, AllFill}
use Rattle.c_stmts.specs.StatementTypes as statement
use Rattle.c_stmts.specs.StatementTypes.{ValueIn, TypeIn, FillsIn, MaybeFills, Declares, AllDeclare, MaybeValue, Statement, MaybeStatement, Statements, ArmOf, ArmsOf}

pub record AreShort (ts : List Text) : Type 0 where
  pub words : text_words ts ≤ text_limit

pub none_short : AreShort []
none_short = record { words = omega arith }

abbrev numbered_text : ℕ → List Text → Result (ℕ × List Text) Fault
numbered_text k us = Ok (k, us)

abbrev text_if : Bool → ℕ → List Text → Fault → Result (ℕ × List Text) Fault
text_if test k us f = if test then numbered_text k us else Err f

text_fits : (test : Bool) (f : Fault) (j k : ℕ) (us vs : List Text) → text_if test j us f ≡ numbered_text k vs → (test ≡ true) × (us ≡ vs)
text_fits true f j k us vs h =
    let p : ℕ × List Text = (j, us) in
    let q : ℕ × List Text = (k, vs) in
    let e : p ≡ q = cc in
    (refl, ap (λ (z : ℕ × List Text). z.1) e)
text_fits false f j k us vs h = absurd cc

text_short : (s : Span) (ts us : List Text) (t : Text) (k : ℕ) → with_text s ts t ≡ Ok (k, us) → AreShort us
unfolding with_text
text_short s ts us t k h =
    let fits = text_fits (nat_le (text_words ts + (length t + 1)) text_limit) (at s TooLarge) (length ts) k (ts ++ t ∷ []) us h in
    let words = sum_by_push (λ (u : Text). length u + 1) ts t in
    subst AreShort fits.1 (record { words = subst (λ n. n ≤ text_limit) (sym words) (leb-true (text_words ts + (length t + 1)) text_limit fits.0) })

mutual
  pub typed_short : {c : Ctx} {ts us : List Text} {e : ExprT} {x : TExprT} → Types c ts e x us → AreShort ts → AreShort us
  typed_short (expression.name g0) h = h
  typed_short (expression.number) h = h
  typed_short (expression.text {ts = ts} {us = us} {t = t} {s = s} {k = k} g0) h = text_short s ts us t k g0
  typed_short (expression.null) h = h
  typed_short (expression.paren g0) h = typed_short g0 h
  typed_short (expression.unary g0 g1) h = used_short g0 h
  typed_short (expression.binary g0 g1 g2) h = value_short g1 (value_short g0 h)
  typed_short (expression.assign g0 g1 g2) h = value_short g1 (typed_short g0 h)
  typed_short (expression.compound g0 g1 g2) h = value_short g1 (typed_short g0 h)
  typed_short (expression.step g0 g1) h = typed_short g0 h
  typed_short (expression.index g0 g1 g2) h = value_short g1 (value_short g0 h)
  typed_short (expression.member g0 g1) h = typed_short g0 h
  typed_short (expression.arrow g0 g1) h = value_short g0 h
  typed_short (expression.call g0 g1) h = all_short g0 h
  typed_short (expression.cast g0 g1 g2) h = value_short g1 (name_short g0 h)
  typed_short (expression.size_of g0 g1) h = name_short g0 h

  pub value_short : {c : Ctx} {ts us : List Text} {e : ExprT} {x : TExprT} → Values c ts e x us → AreShort ts → AreShort us
  value_short (expression.value g0 g1) h = typed_short g0 h

  pub used_short : {c : Ctx} {ts us : List Text} {kept : Bool} {e : ExprT} {x : TExprT} → Used c ts kept e x us → AreShort ts → AreShort us
  used_short (expression.as_place g0) h = typed_short g0 h
  used_short (expression.by_value g0) h = value_short g0 h

  pub all_short : {c : Ctx} {ts us : List Text} {named : Bool} {es : ExprTs} {xs : TExprTs} → AllValues c ts named es xs us → AreShort ts → AreShort us
  all_short (expression.none) h = h
  all_short (expression.port g0) h = all_short g0 h
  all_short (expression.more g0 g1) h = all_short g1 (value_short g0 h)

  pub name_short : {c : Ctx} {ts us : List Text} {s : Span} {of : TypeT} {ty : Ty} → Names c ts s of ty us → AreShort ts → AreShort us
  name_short (expression.int) h = h
  name_short (expression.bool) h = h
  name_short (expression.void) h = h
  name_short (expression.named g0) h = h
  name_short (expression.pointer g0) h = name_short g0 h
  name_short (expression.array g0 g1 g2 g3) h = name_short g2 (value_short g0 h)

mutual
  pub fill_short : {c : Ctx} {ts us : List Text} {global : Bool} {target : Option Ty} {i : InitT} {x : TInitT} → Fills c ts global target i x us → AreShort ts → AreShort us
  fill_short (filling.one g0 g1) h = value_short g0 h
  fill_short (filling.list g0 g1) h = all_fill_short g0 h

  pub all_fill_short : {c : Ctx} {ts us : List Text} {global : Bool} {slots : Slots} {is : InitTs} {xs : TInitTs} → AllFill c ts global slots is xs us → AreShort ts → AreShort us
  all_fill_short (filling.no_items) h = h
  all_fill_short (filling.more_items g0 g1) h = all_fill_short g1 (fill_short g0 h)

-- ---- statements

either_texts : (test : Bool) (sp sq : St) → sp.texts ≡ sq.texts → (if test then sp else sq).texts ≡ sq.texts
either_texts true sp sq e = e
either_texts false sp sq e = refl

-- a name that is entered changes no texts
entered_texts : (n : Text) (ty : Ty) (sp : St) → (entered n ty sp).texts ≡ sp.texts
unfolding entered
entered_texts n ty sp = either_texts (is_new n sp) (record { scopes = declare n (record { number = length sp.sizes; ty = ty }) sp.scopes; sizes = sp.sizes; used = sp.used; texts = sp.texts }) sp refl

value_in_short : {f : Fn} {sp sq : St} {e : ExprT} {x : TExprT} → ValueIn f sp e x sq → AreShort sp.texts → AreShort sq.texts
value_in_short (statement.value_in g0) h = value_short g0 h

type_in_short : {f : Fn} {sp sq : St} {s : Span} {of : TypeT} {ty : Ty} → TypeIn f sp s of ty sq → AreShort sp.texts → AreShort sq.texts
type_in_short (statement.type_in g0) h = name_short g0 h

fill_in_short : {f : Fn} {sp sq : St} {target : Ty} {i : InitT} {x : TInitT} → FillsIn f sp target i x sq → AreShort sp.texts → AreShort sq.texts
fill_in_short (statement.fill_in g0) h = fill_short g0 h

maybe_fill_short : {f : Fn} {sp sq : St} {target : Ty} {i : Option InitT} {x : Option TInitT} → MaybeFills f sp target i x sq → AreShort sp.texts → AreShort sq.texts
maybe_fill_short (statement.no_init) h = h
maybe_fill_short (statement.init g0) h = fill_in_short g0 h

declares_short : {f : Fn} {sp sq : St} {v : VarT} {xs : List TVarT} → Declares f sp v xs sq → AreShort sp.texts → AreShort sq.texts
declares_short (statement.variable {sq = sq} {v = v} {t = t} g0 g1 g2) h = maybe_fill_short g1 (subst AreShort (sym (entered_texts v.name t sq)) (type_in_short g0 h))

all_declare_short : {f : Fn} {sp sq : St} {vs : List VarT} {xs : List TVarT} → AllDeclare f sp vs xs sq → AreShort sp.texts → AreShort sq.texts
all_declare_short (statement.no_variables) h = h
all_declare_short (statement.more_variables g0 g1) h = all_declare_short g1 (declares_short g0 h)

maybe_value_short : {f : Fn} {sp sq : St} {e : Option ExprT} {x : Option TExprT} → MaybeValue f sp e x sq → AreShort sp.texts → AreShort sq.texts
maybe_value_short (statement.no_value) h = h
maybe_value_short (statement.some_value g0) h = value_in_short g0 h

mutual
  statement_short : {f : Fn} {sp sq : St} {breaks continues : Bool} {a : StmtT} {x : TStmtT} → Statement f sp breaks continues a x sq → AreShort sp.texts → AreShort sq.texts
  statement_short (statement.block g0) h = statements_short g0 h
  statement_short (statement.empty) h = h
  statement_short (statement.variables g0) h = all_declare_short g0 h
  statement_short (statement.expression g0) h = value_in_short g0 h
  statement_short (statement.if_else g0 g1 g2 g3) h = maybe_statement_short g2 (statement_short g1 (value_in_short g0 h))
  statement_short (statement.while g0 g1 g2) h = statement_short g1 (value_in_short g0 h)
  statement_short (statement.do_while g0 g1 g2) h = value_in_short g1 (statement_short g0 h)
  statement_short (statement.for g0 g1 g2 g3 g4) h = statement_short g3 (maybe_value_short g2 (maybe_value_short g1 (maybe_statement_short g0 h)))
  statement_short (statement.switch g0 g1 g2) h = arms_short g1 (value_in_short g0 h)
  statement_short (statement.return_nothing) h = h
  statement_short (statement.return_value g0 g1) h = value_in_short g0 h
  statement_short (statement.break g0) h = h
  statement_short (statement.continue g0) h = h

  maybe_statement_short : {f : Fn} {sp sq : St} {breaks continues : Bool} {a : MaybeS} {x : MaybeZ} → MaybeStatement f sp breaks continues a x sq → AreShort sp.texts → AreShort sq.texts
  maybe_statement_short (statement.nothing) h = h
  maybe_statement_short (statement.something g0) h = statement_short g0 h

  pub statements_short : {f : Fn} {sp sq : St} {breaks continues : Bool} {body : StmtTs} {x : TStmtTs} → Statements f sp breaks continues body x sq → AreShort sp.texts → AreShort sq.texts
  statements_short (statement.no_statements) h = h
  statements_short (statement.more_statements g0 g1) h = statements_short g1 (statement_short g0 h)

  arm_short : {f : Fn} {sp sq : St} {breaks continues : Bool} {seen : Labels} {a : ArmT} {x : TArmT} → ArmOf f sp breaks continues seen a x sq → AreShort sp.texts → AreShort sq.texts
  arm_short (statement.case g0 g1 g2) h = value_in_short g0 h
  arm_short (statement.default g0) h = h
  arm_short (statement.arm_statement g0) h = statement_short g0 h

  arms_short : {f : Fn} {sp sq : St} {breaks continues : Bool} {seen : Labels} {all : ArmTs} {xs : TArmTs} → ArmsOf f sp breaks continues seen all xs sq → AreShort sp.texts → AreShort sq.texts
  arms_short (statement.no_arms) h = h
  arms_short (statement.more_arms g0 g1) h = arms_short g1 (arm_short g0 h)
