use Rattle.std.proofs.Common.{rules, ◌≡◌, map, ℕ, suc, ◌-◌, true, false, [], ◌∷◌, ◌++◌, arith, subst}
use Rattle.std.proofs.lemmas.Result.{err_from_is_err_and}
use Rattle.std.proofs.lemmas.List.{map_push}
use Rattle.c_parse.specs.inner.Reader.{at_comma, behind}
use Rattle.c_parse.specs.inner.ReadingDeclarations.{vars_at}
use Rattle.c_parse.specs.Tok.{toks}
use Rattle.c_parse.specs.inner.View.{context}
use Rattle.c_tree.specs.View.{type, var}
use Rattle.c_parse.proofs.Less.{var_less}
use Rattle.c_parse.proofs.Turns.{behind_up}
use Rattle.c_parse.proofs.VarLoops.{VarsGo, vars_start, vars_end, vars_fail, vars_turn}
use Rattle.c_parse.proofs.declaration.variables.Goals as goal

pub variables-init : goal.variables-init
variables-init c =
    let one : suc (c.args.room - 1) ≡ c.args.room = omega arith in
    let found : map var c.push.new.self.items ≡ var c.in_ok-first.first ∷ [] = search rules in
    let start = vars_start (context c.args.scope.now) (c.args.room - 1) (toks c.args.tokens.now) (toks c.in_ok-ty.rest.now) (toks c.in_ok-first.rest.now) (type c.in_ok-ty.ty) (var c.in_ok-first.first) (map var c.push.new.self.items) (omega arith) c.in_ok-ty.ensures.gives c.in_ok-first.ensures.gives found in
    subst (λ (k : ℕ). VarsGo (context c.args.scope.now) (c.args.room - 1) (toks c.args.tokens.now) (map var c.push.new.self.items) (toks c.in_ok-first.rest.now) (vars_at (context c.args.scope.now) k (toks c.args.tokens.now))) one start

pub returns-in_err-next : goal.returns-in_err-next
returns-in_err-next c =
    let some : at_comma (toks c.variables.rest.now) ≡ true = grind arith in
    let bad = rw c.behind.ensures at c.in_err-next.ensures.gives in
    let p = err_from_is_err_and c.from_residual-in_err-next.result c.from_residual-in_err-next.ensures.1 in
    record { gives = rw (p.1, p.2) (vars_fail _ _ _ _ _ _ c.variables.invariant c.in_err-next.field-0.0 (type c.in_ok-ty-2.ty) (toks c.in_ok-ty-2._behind_type.now) some c.in_ok-ty-2.ensures.gives bad) }

pub variables-smaller : goal.variables-smaller
variables-smaller c =
    let good = rw c.behind.ensures at c.in_ok-next.ensures.gives in
    omega (arith, var_less (context c.args.scope.now) (c.args.room - 1) (type c.in_ok-ty-2.ty) (behind (toks c.variables.rest.now)) (var c.in_ok-next.next, toks c.in_ok-next.after.now) good, behind_up (toks c.variables.rest.now))

pub variables-preserved : goal.variables-preserved
variables-preserved c =
    let some : at_comma (toks c.variables.rest.now) ≡ true = grind arith in
    let good = rw c.behind.ensures at c.in_ok-next.ensures.gives in
    let pushed : map var c.push-in-variables.new.self.items ≡ map var c.variables.found.items ++ (var c.in_ok-next.next ∷ []) = rw c.in_ok-push-2.ensures.items (map_push var c.variables.found.items c.in_ok-next.next) in
    rw pushed (vars_turn _ _ _ _ _ _ c.variables.invariant (type c.in_ok-ty-2.ty) (toks c.in_ok-ty-2._behind_type.now) (var c.in_ok-next.next) (toks c.in_ok-next.after.now) some c.in_ok-ty-2.ensures.gives good)

pub returns : goal.returns
returns c =
    let none : at_comma (toks c.variables.rest.now) ≡ false = grind arith in
    record { gives = rw c.from_vec.ensures (vars_end _ _ _ _ _ _ c.variables.invariant none) }
