-- The readers' equations, with the room and the level as the code has them.
use Rattle.std.proofs.Common.{◌≡◌, ℕ, zero, suc, ◌+◌, ◌-◌, ◌<◌, ◌≤◌, List, Ok, Err, refl, subst, ◌∙◌, arith, rules}
use Rattle.std.proofs.lemmas.Bool.{le-ltb}
use Rattle.kit_base.specs.declared.failure.Failure.{Failure}
use Rattle.kit_base.specs.declared.failure.Failure.TheVariants as errors
use Rattle.kit_base.specs.Gives.{Fails}
use Rattle.c_tree.specs.declared.expression.Expr.{SizeOf}
use Rattle.c_tree.specs.declared.expression.TypeTree.{TypeTree}
use Rattle.c_tree.specs.declared.expression.Expr.{the_lemmas}
use Rattle.c_tree.specs.declared.span.Span.{Span}
use Rattle.c_tree.specs.Tree.{TypeT, ExprT, SizeOfE}
use Rattle.c_tree.specs.View.{expr, type}
use Rattle.c_parse.specs.declared.fault.Fault.{Fault}
use Rattle.c_tree.specs.Depth.{type_depth}
use Rattle.c_parse.specs.Tok.{Tok}
use Rattle.c_parse.specs.Scope.{Context}
use Rattle.c_parse.specs.inner.Reader.{◌>>=◌, deep, no_room, loop}
use Rattle.c_parse.specs.inner.Leads.{begins_expr, begins_type}
use Rattle.c_parse.specs.inner.Reading.{unary_with, operator_turn, level_with, assigner_behind, assign_by, type_with, run_with, readers, level_at, expr_at, type_read, run_at}

pub expr_step : (c : Context) (r : ℕ) (ts : List Tok) → 0 < r → expr_at c r ts ≡ (level_at c r 10 ts >>= λ a. assign_by c (readers c (r - 1)) r ts a.0 a.1 (assigner_behind a.0 a.1))
unfolding readers
expr_step c zero ts h = absurd (omega arith)
expr_step c (suc r) ts h = let e : suc r - 1 ≡ r = omega arith in rw e refl

pub expr_none : (c : Context) (ts : List Tok) → expr_at c 0 ts ≡ no_room (begins_expr c ts) ts
unfolding readers
expr_none c ts = refl

pub level_none : (c : Context) (k : ℕ) (ts : List Tok) → level_at c 0 k ts ≡ no_room (begins_expr c ts) ts
unfolding readers
level_none c k ts = refl

pub unary_step : (c : Context) (r : ℕ) (ts : List Tok) → 0 < r → level_at c r 0 ts ≡ unary_with c (readers c (r - 1)) r ts
unfolding readers level_with
unary_step c zero ts h = absurd (omega arith)
unary_step c (suc r) ts h = let e : suc r - 1 ≡ r = omega arith in rw e refl

pub level_step : (c : Context) (r k : ℕ) (ts : List Tok) → 0 < r → 0 < k → level_at c r k ts ≡ (level_at c r (k - 1) ts >>= λ a. loop (operator_turn c (readers c (r - 1)) r (k - 1) ts) a.0 a.1)
unfolding readers level_with
level_step c zero k ts h j = absurd (omega arith)
level_step c (suc r) zero ts h j = absurd (omega arith)
level_step c (suc r) (suc k) ts h j = let e : suc r - 1 ≡ r = omega arith in let f : suc k - 1 ≡ k = omega arith in rw (e, f) refl

pub type_step : (c : Context) (r : ℕ) (ts : List Tok) → 0 < r → type_read c r ts ≡ type_with c (readers c (r - 1)) r ts
unfolding readers
type_step c zero ts h = absurd (omega arith)
type_step c (suc r) ts h = let e : suc r - 1 ≡ r = omega arith in rw e refl

pub type_none : (c : Context) (ts : List Tok) → type_read c 0 ts ≡ no_room (begins_type c ts) ts
unfolding readers
type_none c ts = refl

pub run_step : (c : Context) (r : ℕ) (a : TypeT) (ts : List Tok) → 0 < r → run_at c r a ts ≡ run_with (readers c (r - 1)) r a ts
unfolding readers
run_step c zero a ts h = absurd (omega arith)
run_step c (suc r) a ts h = let e : suc r - 1 ≡ r = omega arith in rw e refl

-- where the element is as deep as the room
pub run_none : (c : Context) (r : ℕ) (a : TypeT) (ts : List Tok) → r ≤ type_depth a → run_at c r a ts ≡ deep ts
unfolding readers
run_none c zero a ts h = refl
run_none c (suc r) a ts h = rw (le-ltb _ _ h) refl

pub view-SizeOf : (y : TypeTree) (sp : Span) → expr (SizeOf y sp) ≡ SizeOfE (type y) sp
view-SizeOf y sp = search (rules, the_lemmas)

pub ruleset reader_steps = (expr_step, expr_none, level_none, unary_step, type_step, type_none, run_step, run_none, view-SizeOf)

-- a level is what the operators above the level below it leave
pub level_next : (c : Context) (r k : ℕ) (ts rest : List Tok) (a : ExprT) → 0 < r → level_at c r k ts ≡ Ok (a, rest) → level_at c r (suc k) ts ≡ loop (operator_turn c (readers c (r - 1)) r k ts) a rest
level_next c r k ts rest a h e = let f : suc k - 1 ≡ k = omega arith in level_step c r (suc k) ts h (omega arith) ∙ rw (f, e) refl

-- where a level fails, so do those above it
pub level_fails : (c : Context) (r k : ℕ) (ts : List Tok) (d : Fault) → 0 < r → (more : ℕ) → level_at c r k ts ≡ Err d → level_at c r (k + more) ts ≡ Err d
level_fails c r k ts d h zero e = let f : k + 0 ≡ k = omega arith in rw f e
level_fails c r k ts d h (suc more) e =
    let f : k + suc more ≡ suc (k + more) = omega arith in
    let g : suc (k + more) - 1 ≡ k + more = omega arith in
    let below = level_fails c r k ts d h more e in
    rw f (level_step c r (suc (k + more)) ts h (omega arith) ∙ rw (g, below) refl)

pub levels_fail : (c : Context) (r k j : ℕ) (ts rest : List Tok) (a : ExprT) (e : Failure Fault) → 0 < r → k < j → level_at c r k ts ≡ Ok (a, rest) → Fails e (loop (operator_turn c (readers c (r - 1)) r k ts) a rest) → Fails e (level_at c r j ts)
levels_fail c r k j ts rest a errors.Memory h le is bad = tt
levels_fail c r k j ts rest a (errors.Cause d) h le is bad =
    let f : suc k + (j - suc k) ≡ j = omega arith in
    subst (λ (i : ℕ). level_at c r i ts ≡ Err d) f (level_fails c r (suc k) ts d h (j - suc k) (level_next c r k ts rest a h is ∙ bad))

pub first_fails : (c : Context) (r k : ℕ) (ts : List Tok) (e : Failure Fault) → 0 < r → Fails e (level_at c r 0 ts) → Fails e (level_at c r k ts)
first_fails c r k ts errors.Memory h bad = tt
first_fails c r k ts (errors.Cause d) h bad = let f : 0 + k ≡ k = omega arith in subst (λ (i : ℕ). level_at c r i ts ≡ Err d) f (level_fails c r 0 ts d h k bad)
