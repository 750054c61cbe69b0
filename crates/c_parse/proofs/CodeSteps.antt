-- The equations of the readers above expressions, with the room as the code has it, and the views of what they build.
use Rattle.std.proofs.Common.{◌≡◌, ℕ, zero, suc, ◌-◌, ◌<◌, true, false, List, Option, option_map, Ok, map, refl, arith, rules}
use Rattle.std.specs.Prelude.{◌||◌}
use Rattle.std.specs.Global.{Box}
use Rattle.kit_base.specs.declared.seq.Seq.{Seq}
use Rattle.c_tree.specs.declared.span.Span.{Span}
use Rattle.c_tree.specs.declared.expression.Expr.{Expr}
use Rattle.c_tree.specs.declared.variable.Init.{Init, One, List as ListOf, the_lemmas as init_lemmas}
use Rattle.c_tree.specs.declared.variable.Var.{Var}
use Rattle.c_tree.specs.declared.statement.Stmt.{Stmt, Block, Empty, Vars, Do, Switch, While, Return, Break, Continue, the_lemmas as stmt_lemmas}
use Rattle.c_tree.specs.declared.statement.Arm.{Arm, Case, Default, Stmt as InArm, the_lemmas as arm_lemmas}
use Rattle.c_tree.specs.Tree as t
use Rattle.c_tree.specs.View.{expr, init, inits, var, stmt, stmts, arm, arms}
use Rattle.c_parse.specs.Tok.{Tok}
use Rattle.c_parse.specs.Scope.{Context}
use Rattle.c_parse.specs.inner.View.{boxed_stmt}
use Rattle.c_parse.specs.inner.Reader.{◌>>=◌, no_room, at_open_brace, semicolon}
use Rattle.c_parse.specs.inner.Leads.{begins_expr, begins_type, begins_stmt, stmt_at, arm_at, is_some_arm}
use Rattle.c_parse.specs.inner.Reading.{type_read}
use Rattle.c_parse.specs.inner.ReadingLists.{separated}
use Rattle.c_parse.specs.inner.ReadingDeclarations.{init_by, init_at, field, vars_at, member_at, param_at}
use Rattle.c_parse.specs.inner.ReadingDeclarations as r
use Rattle.c_parse.specs.inner.ReadingStatements.{first_by, first_at, bodies, arm_with, stmt_read, arm_read}
use Rattle.c_parse.specs.inner.ReadingParts.{stmt_parts}
use Rattle.c_parse.proofs.Parts.{parts_are}

pub init_step : (c : Context) (n : ℕ) (ts : List Tok) → 0 < n → init_at c n ts ≡ init_by c (n - 1) (λ us. init_at c (n - 1) us) ts (at_open_brace ts)
unfolding init_at
init_step c zero ts h = absurd (omega arith)
init_step c (suc n) ts h = let e : suc n - 1 ≡ n = omega arith in rw e refl

pub init_none : (c : Context) (ts : List Tok) → init_at c 0 ts ≡ no_room (at_open_brace ts || begins_expr c ts) ts
unfolding init_at
init_none c ts = refl

pub vars_step : (c : Context) (n : ℕ) (ts : List Tok) → 0 < n → vars_at c n ts ≡ (type_read c (n - 1) ts >>= λ y. separated (r.var c (n - 1) y.0) y.1)
unfolding vars_at
vars_step c zero ts h = absurd (omega arith)
vars_step c (suc n) ts h = let e : suc n - 1 ≡ n = omega arith in rw e refl

pub vars_none : (c : Context) (ts : List Tok) → vars_at c 0 ts ≡ no_room (begins_type c ts) ts
unfolding vars_at
vars_none c ts = refl

pub member_step : (c : Context) (n : ℕ) (ts : List Tok) → 0 < n → member_at c n ts ≡ (type_read c (n - 1) ts >>= λ y. (separated (field c y.0) y.1 >>= λ vs. (semicolon vs.1 >>= λ rest. Ok (vs.0, rest))))
unfolding member_at
member_step c zero ts h = absurd (omega arith)
member_step c (suc n) ts h = let e : suc n - 1 ≡ n = omega arith in rw e refl

pub member_none : (c : Context) (ts : List Tok) → member_at c 0 ts ≡ no_room (begins_type c ts) ts
unfolding member_at
member_none c ts = refl

pub param_step : (c : Context) (n : ℕ) (ts : List Tok) → 0 < n → param_at c n ts ≡ (type_read c (n - 1) ts >>= λ y. field c y.0 y.1)
unfolding param_at
param_step c zero ts h = absurd (omega arith)
param_step c (suc n) ts h = let e : suc n - 1 ≡ n = omega arith in rw e refl

pub param_none : (c : Context) (ts : List Tok) → param_at c 0 ts ≡ no_room (begins_type c ts) ts
unfolding param_at
param_none c ts = refl

pub first_step : (c : Context) (n : ℕ) (ts : List Tok) → 0 < n → first_at c n ts ≡ first_by c (n - 1) ts (begins_type c ts) (begins_expr c ts)
unfolding first_at
first_step c zero ts h = absurd (omega arith)
first_step c (suc n) ts h = let e : suc n - 1 ≡ n = omega arith in rw e refl

pub stmt_step : (c : Context) (n : ℕ) (ts : List Tok) → 0 < n → stmt_read c n ts ≡ stmt_parts c (n - 1) (bodies c (n - 1)) ts (stmt_at c ts)
unfolding bodies
stmt_step c zero ts h = absurd (omega arith)
stmt_step c (suc n) ts h = let e : suc n - 1 ≡ n = omega arith in rw e (parts_are c n (bodies c n) ts (stmt_at c ts))

pub stmt_none : (c : Context) (ts : List Tok) → stmt_read c 0 ts ≡ no_room (begins_stmt c ts) ts
unfolding bodies
stmt_none c ts = refl

pub arm_step : (c : Context) (n : ℕ) (ts : List Tok) → 0 < n → arm_read c n ts ≡ arm_with c (n - 1) (bodies c (n - 1)) ts
unfolding bodies
arm_step c zero ts h = absurd (omega arith)
arm_step c (suc n) ts h = let e : suc n - 1 ≡ n = omega arith in rw e refl

pub arm_none : (c : Context) (ts : List Tok) → arm_read c 0 ts ≡ no_room (is_some_arm (arm_at ts) || begins_stmt c ts) ts
unfolding bodies
arm_none c ts = refl

pub view-One : (e : Expr) → init (One e) ≡ t.OneI (expr e)
view-One e = search (rules, init_lemmas)

pub view-List : (l : Seq Init) (sp : Span) → init (ListOf l sp) ≡ t.ListI (inits (map init l)) sp
view-List l sp = search (rules, init_lemmas)

pub view-Block : (l : Seq Stmt) (sp : Span) → stmt (Block l sp) ≡ t.BlockS (stmts (map stmt l)) sp
view-Block l sp = search (rules, stmt_lemmas)

pub view-Switch : (e : Expr) (l : Seq Arm) (sp : Span) → stmt (Switch e l sp) ≡ t.SwitchS (expr e) (arms (map arm l)) sp
view-Switch e l sp = search (rules, stmt_lemmas)

pub view-Vars : (l : Seq Var) (sp : Span) → stmt (Vars l sp) ≡ t.VarsS (map var l) sp
view-Vars l sp = search (rules, stmt_lemmas)

pub view-Do : (e : Expr) → stmt (Do e) ≡ t.DoS (expr e)
view-Do e = search (rules, stmt_lemmas)

pub view-Empty : (sp : Span) → stmt (Empty sp) ≡ t.EmptyS sp
view-Empty sp = search (rules, stmt_lemmas)

pub view-While : (e : Expr) (b : Box Stmt) (sp : Span) → stmt (While e b sp) ≡ t.WhileS (expr e) (boxed_stmt b) sp
view-While e b sp = search (rules, stmt_lemmas)

pub view-Return : (e : Option Expr) (sp : Span) → stmt (Return e sp) ≡ t.ReturnS (option_map expr e) sp
view-Return e sp = search (rules, stmt_lemmas)

pub view-Break : (sp : Span) → stmt (Break sp) ≡ t.BreakS sp
view-Break sp = search (rules, stmt_lemmas)

pub view-Continue : (sp : Span) → stmt (Continue sp) ≡ t.ContinueS sp
view-Continue sp = search (rules, stmt_lemmas)

pub view-Case : (e : Expr) (sp : Span) → arm (Case e sp) ≡ t.CaseA (expr e) sp
view-Case e sp = search (rules, arm_lemmas)

pub view-Default : (sp : Span) → arm (Default sp) ≡ t.DefaultA sp
view-Default sp = search (rules, arm_lemmas)

pub view-Stmt : (s : Stmt) → arm (InArm s) ≡ t.StmtA (stmt s)
view-Stmt s = search (rules, arm_lemmas)

pub ruleset declaration_steps = (init_step, init_none, vars_step, vars_none, member_step, member_none, param_step, param_none, view-One, view-List)

pub ruleset statement_steps = (first_step, stmt_step, stmt_none, arm_step, arm_none, view-Block, view-Switch, view-Vars, view-Do, view-Empty, view-While, view-Return, view-Break, view-Continue, view-Case, view-Default, view-Stmt)

pub first_none_type : (c : Context) (ts : List Tok) → begins_type c ts ≡ true → first_at c 0 ts ≡ no_room true ts
unfolding first_at
first_none_type c ts a = rw a refl

pub first_none_expr : (c : Context) (ts : List Tok) → begins_type c ts ≡ false → begins_expr c ts ≡ true → first_at c 0 ts ≡ no_room true ts
unfolding first_at
first_none_expr c ts a b = rw (a, b) refl

pub first_neither : (c : Context) (n : ℕ) (ts : List Tok) → begins_type c ts ≡ false → begins_expr c ts ≡ false → first_at c n ts ≡ Ok (t.NoneS, ts)
unfolding first_at
first_neither c zero ts a b = rw (a, b) refl
first_neither c (suc n) ts a b = rw (a, b) refl
