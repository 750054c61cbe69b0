-- How many objects statements make: at most one for each of their nodes.
use Rattle.std.proofs.Common.{arith, zero, suc, drop, map, ◌≡◌, ◌≤◌, ◌+◌, ℕ, Bool, true, false, List, [], ◌∷◌, length, length-append, Option, Ok, refl, ap, ◌∙◌, subst, if◌then◌else◌}
use Rattle.c_tree.specs.declared.span.Span.{Span}
use Rattle.c_tree.specs.Tree.{ExprT, TypeT, InitT, VarT, StmtT, MaybeS, StmtTs, MoreS, ArmT, ArmTs, MoreA}
use Rattle.c_tree.specs.Count.{vars_nodes, stmt_nodes, maybe_nodes, stmts_nodes, arm_nodes, arms_nodes}
use Rattle.c_tree.specs.View.{stmt, stmts, arm as arm_of, arms as arms_of}
use Rattle.c_tree.specs.declared.statement.Stmt.{Stmt}
use Rattle.c_tree.specs.declared.statement.Arm.{Arm}
use Rattle.c_types.specs.Types.{Ty}
use Rattle.c_types.specs.Typed.{TExprT, TInitT, TVarT, TStmtT, MaybeZ, TStmtTs, TArmT, TArmTs}
use Rattle.c_stmts.specs.State.{Fn, St, is_new, declare, entered, Labels}
use Rattle.c_stmts.specs.StatementTyping.{statement, maybe_statement, statements, arm, declared}
use Rattle.c_stmts.specs.StatementTypes as good
use Rattle.c_stmts.specs.StatementTypes.{ValueIn, TypeIn, MaybeFills, Declares, AllDeclare, MaybeValue, Statement, MaybeStatement, Statements, ArmOf, ArmsOf}
use Rattle.c_stmts.proofs.StatementExact.{DeclaresOut, declared_outcome, StatementOut, statement_outcome, MaybeStatementOut, maybe_statement_outcome, ArmOfOut, arm_outcome}

-- the objects of a call so far
abbrev pub objects : St → ℕ
objects sp = length sp.sizes

value_makes : {f : Fn} {sp sq : St} {e : ExprT} {x : TExprT} → ValueIn f sp e x sq → sq.sizes ≡ sp.sizes
value_makes (good.value_in g) = refl

maybe_value_makes : {f : Fn} {sp sq : St} {o : Option ExprT} {x : Option TExprT} → MaybeValue f sp o x sq → sq.sizes ≡ sp.sizes
maybe_value_makes good.no_value = refl
maybe_value_makes (good.some_value g) = value_makes g

type_makes : {f : Fn} {sp sq : St} {s : Span} {of : TypeT} {t : Ty} → TypeIn f sp s of t sq → sq.sizes ≡ sp.sizes
type_makes (good.type_in g) = refl

fill_makes : {f : Fn} {sp sq : St} {t : Ty} {o : Option InitT} {x : Option TInitT} → MaybeFills f sp t o x sq → sq.sizes ≡ sp.sizes
fill_makes good.no_init = refl
fill_makes (good.init (good.fill_in g)) = refl

entered_makes : (n : List ℕ) (t : Ty) (sp : St) → (entered n t sp).sizes ≡ sp.sizes
unfolding entered
entered_makes n t sp = by (is_new n sp)
  where
    by : (b : Bool) → (if b then record { scopes = declare n (record { number = length sp.sizes; ty = t }) sp.scopes; sizes = sp.sizes; used = sp.used; texts = sp.texts } else sp).sizes ≡ sp.sizes
    by true = refl
    by false = refl

variable_makes : {f : Fn} {sp sq : St} {v : VarT} {x : List TVarT} → Declares f sp v x sq → objects sq ≡ objects sp + 1
variable_makes (good.variable {sp = sp} {sq = sq} {sr = sr} {v = v} {t = t} {n = n} g0 g1 g2) =
    let same : sr.sizes ≡ sp.sizes = fill_makes g1 ∙ entered_makes v.name t sq ∙ type_makes g0 in
    omega (arith, length-append sr.sizes (n ∷ []), ap (λ (ns : List ℕ). length ns) same)

variables_make : {f : Fn} {sp sq : St} {vs : List VarT} {x : List TVarT} → AllDeclare f sp vs x sq → objects sq ≤ objects sp + vars_nodes vs
variables_make good.no_variables = omega arith
variables_make (good.more_variables g gs) = omega (arith, variable_makes g, variables_make gs)

by_value : {f : Fn} {sp sq : St} {e : ExprT} {x : TExprT} → ValueIn f sp e x sq → objects sq ≡ objects sp
by_value g = ap (λ (ns : List ℕ). length ns) (value_makes g)

by_maybe_value : {f : Fn} {sp sq : St} {o : Option ExprT} {x : Option TExprT} → MaybeValue f sp o x sq → objects sq ≡ objects sp
by_maybe_value g = ap (λ (ns : List ℕ). length ns) (maybe_value_makes g)

mutual
  statement_makes : {f : Fn} {sp sq : St} {breaks continues : Bool} {a : StmtT} {x : TStmtT} → Statement f sp breaks continues a x sq → objects sq ≤ objects sp + stmt_nodes a
  statement_makes (good.block g) = omega (arith, statements_make g)
  statement_makes good.empty = omega arith
  statement_makes (good.variables g) = omega (arith, variables_make g)
  statement_makes (good.expression g) = omega (arith, by_value g)
  statement_makes (good.if_else g0 g1 g2 g3) = omega (arith, by_value g0, statement_makes g1, maybe_statement_makes g2)
  statement_makes (good.while g0 g1 g2) = omega (arith, by_value g0, statement_makes g1)
  statement_makes (good.do_while g0 g1 g2) = omega (arith, statement_makes g0, by_value g1)
  statement_makes (good.for g0 g1 g2 g3 g4) = omega (arith, maybe_statement_makes g0, by_maybe_value g1, by_maybe_value g2, statement_makes g3)
  statement_makes (good.switch g0 g1 g2) = omega (arith, by_value g0, arms_make g1)
  statement_makes good.return_nothing = omega arith
  statement_makes (good.return_value g0 g1) = omega (arith, by_value g0)
  statement_makes (good.break g) = omega arith
  statement_makes (good.continue g) = omega arith

  maybe_statement_makes : {f : Fn} {sp sq : St} {breaks continues : Bool} {m : MaybeS} {x : MaybeZ} → MaybeStatement f sp breaks continues m x sq → objects sq ≤ objects sp + maybe_nodes m
  maybe_statement_makes good.nothing = omega arith
  maybe_statement_makes (good.something g) = statement_makes g

  statements_make : {f : Fn} {sp sq : St} {breaks continues : Bool} {all : StmtTs} {x : TStmtTs} → Statements f sp breaks continues all x sq → objects sq ≤ objects sp + stmts_nodes all
  statements_make good.no_statements = omega arith
  statements_make (good.more_statements g gs) = omega (arith, statement_makes g, statements_make gs)

  arm_makes : {f : Fn} {sp sq : St} {breaks continues : Bool} {seen : Labels} {a : ArmT} {x : TArmT} → ArmOf f sp breaks continues seen a x sq → objects sq ≤ objects sp + arm_nodes a
  arm_makes (good.case g0 g1 g2) = omega (arith, by_value g0)
  arm_makes (good.default g) = omega arith
  arm_makes (good.arm_statement g) = statement_makes g

  arms_make : {f : Fn} {sp sq : St} {breaks continues : Bool} {seen : Labels} {all : ArmTs} {x : TArmTs} → ArmsOf f sp breaks continues seen all x sq → objects sq ≤ objects sp + arms_nodes all
  arms_make good.no_arms = omega arith
  arms_make (good.more_arms g gs) = omega (arith, arm_makes g, arms_make gs)

-- ---- the same from the typing function

pub variable_counts : (f : Fn) (sp sq : St) (v : VarT) (x : List TVarT) → declared f sp v ≡ Ok (x, sq) → objects sq ≡ objects sp + 1
variable_counts f sp sq v x e = variable_makes (subst (DeclaresOut f sp v) e (declared_outcome f sp v))

pub statement_counts : (f : Fn) (sp sq : St) (breaks continues : Bool) (a : StmtT) (x : TStmtT) → statement f sp breaks continues a ≡ Ok (x, sq) → objects sq ≤ objects sp + stmt_nodes a
statement_counts f sp sq breaks continues a x e = statement_makes (subst (StatementOut f sp breaks continues a) e (statement_outcome f sp breaks continues a))

pub maybe_statement_counts : (f : Fn) (sp sq : St) (breaks continues : Bool) (m : MaybeS) (x : MaybeZ) → maybe_statement f sp breaks continues m ≡ Ok (x, sq) → objects sq ≤ objects sp + maybe_nodes m
maybe_statement_counts f sp sq breaks continues m x e = maybe_statement_makes (subst (MaybeStatementOut f sp breaks continues m) e (maybe_statement_outcome f sp breaks continues m))

pub arm_counts : (f : Fn) (sp sq : St) (breaks continues : Bool) (seen : Labels) (a : ArmT) (x : TArmT) → arm f sp breaks continues seen a ≡ Ok (x, sq) → objects sq ≤ objects sp + arm_nodes a
arm_counts f sp sq breaks continues seen a x e = arm_makes (subst (ArmOfOut f sp breaks continues seen a) e (arm_outcome f sp breaks continues seen a))

-- ---- what is left for those behind one

pub variables_left : (f : Fn) (sp sq : St) (v : VarT) (rest : List VarT) (x : List TVarT) (most : ℕ) → declared f sp v ≡ Ok (x, sq) → objects sp + vars_nodes (v ∷ rest) ≤ most → objects sq + vars_nodes rest ≤ most
variables_left f sp sq v rest x most e h = omega (arith, h, variable_counts f sp sq v x e)

pub statements_left : (f : Fn) (sp sq : St) (breaks continues : Bool) (a : StmtT) (rest : StmtTs) (x : TStmtT) (most : ℕ) → statement f sp breaks continues a ≡ Ok (x, sq) → objects sp + stmts_nodes (MoreS a rest) ≤ most → objects sq + stmts_nodes rest ≤ most
statements_left f sp sq breaks continues a rest x most e h = omega (arith, h, statement_counts f sp sq breaks continues a x e)

pub arms_left : (f : Fn) (sp sq : St) (breaks continues : Bool) (seen : Labels) (a : ArmT) (rest : ArmTs) (x : TArmT) (most : ℕ) → arm f sp breaks continues seen a ≡ Ok (x, sq) → objects sp + arms_nodes (MoreA a rest) ≤ most → objects sq + arms_nodes rest ≤ most
arms_left f sp sq breaks continues seen a rest x most e h = omega (arith, h, arm_counts f sp sq breaks continues seen a x e)

-- ---- lists in memory

pub statements_within : (i : ℕ) (xs : List Stmt) → stmts_nodes (stmts (map stmt (drop i xs))) ≤ stmts_nodes (stmts (map stmt xs))
statements_within zero xs = omega arith
statements_within (suc i) [] = omega arith
statements_within (suc i) (x ∷ xs) = let e = statements_within i xs in omega (arith, e)

pub arms_within : (i : ℕ) (xs : List Arm) → arms_nodes (arms_of (map arm_of (drop i xs))) ≤ arms_nodes (arms_of (map arm_of xs))
arms_within zero xs = omega arith
arms_within (suc i) [] = omega arith
arms_within (suc i) (x ∷ xs) = let e = arms_within i xs in omega (arith, e)
