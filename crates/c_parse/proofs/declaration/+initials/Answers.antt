use Rattle.std.proofs.Common.{◌≡◌, map, ◌-◌, ◌<◌, length, true, false, [], ◌∷◌, ◌++◌, arith}
use Rattle.std.proofs.lemmas.Result.{err_from_is_err_and}
use Rattle.std.proofs.lemmas.List.{map_push}
use Rattle.c_parse.specs.inner.Reader.{at_more, at_open_brace, behind}
use Rattle.c_parse.specs.inner.ReadingDeclarations.{init_at}
use Rattle.c_parse.specs.Tok.{toks}
use Rattle.c_parse.specs.inner.View.{context}
use Rattle.c_tree.specs.View.{init}
use Rattle.c_parse.proofs.Loops.{goes_end, goes_fail, goes_turn}
use Rattle.c_parse.proofs.ListTurns.{more_end, more_fail, more_ok}
use Rattle.c_parse.proofs.Less.{init_less}
use Rattle.c_parse.proofs.Turns.{behind_up}
use Rattle.c_parse.proofs.CodeSteps.{view-List}
use Rattle.c_parse.proofs.InitLoops.{inits_fail, inits_unended, inits_ok}
use Rattle.c_parse.proofs.declaration.+initials.Goals as goal

pub returns-in_err-next : goal.returns-in_err-next
returns-in_err-next t c =
    let opens : at_open_brace (toks c.args.tokens.now) ≡ true = grind arith in
    let some : at_more (toks c.initials.rest.now) ≡ true = grind arith in
    let bad = rw c.behind-in-initials.ensures at c.in_err-next.ensures.gives in
    let turned = more_fail (λ us. init_at (context c.args.scope.now) (c.args.room - 1) us) (map init c.initials.found.items) (toks c.initials.rest.now) c.in_err-next.field-0.0 some bad in
    let p = err_from_is_err_and c.from_residual-in_err-next.result c.from_residual-in_err-next.ensures.1 in
    record { gives = rw (p.1, p.2) (inits_fail (context c.args.scope.now) c.args.room (toks c.args.tokens.now) (omega arith) opens c.in_err-next.field-0.0 (goes_fail _ _ _ _ c.initials.invariant c.in_err-next.field-0.0 turned)) }

pub initials-smaller : goal.initials-smaller
initials-smaller t c =
    let good = rw c.behind-in-initials.ensures at c.in_ok-next.ensures.gives in
    omega (arith, init_less (context c.args.scope.now) (c.args.room - 1) (behind (toks c.initials.rest.now)) (init c.in_ok-next.next, toks c.in_ok-next.after.now) good, behind_up (toks c.initials.rest.now))

pub initials-preserved : goal.initials-preserved
initials-preserved t c =
    let some : at_more (toks c.initials.rest.now) ≡ true = grind arith in
    let good = rw c.behind-in-initials.ensures at c.in_ok-next.ensures.gives in
    let fewer : length (toks c.in_ok-next.after.now) < length (toks c.initials.rest.now) = omega (arith, init_less (context c.args.scope.now) (c.args.room - 1) (behind (toks c.initials.rest.now)) (init c.in_ok-next.next, toks c.in_ok-next.after.now) good, behind_up (toks c.initials.rest.now)) in
    let turned = more_ok (λ us. init_at (context c.args.scope.now) (c.args.room - 1) us) (map init c.initials.found.items) (toks c.initials.rest.now) (init c.in_ok-next.next, toks c.in_ok-next.after.now) some good in
    let next = goes_turn _ _ _ _ c.initials.invariant _ _ turned fewer in
    let pushed : map init c.push-in-initials.new.self.items ≡ map init c.initials.found.items ++ (init c.in_ok-next.next ∷ []) = rw c.in_ok-push-2.ensures.items (map_push init c.initials.found.items c.in_ok-next.next) in
    rw pushed next

pub returns-in_err-rest : goal.returns-in_err-rest
returns-in_err-rest t c =
    let opens : at_open_brace (toks c.args.tokens.now) ≡ true = grind arith in
    let none : at_more (toks c.initials.rest.now) ≡ false = grind arith in
    let total = goes_end _ _ _ _ c.initials.invariant (more_end (λ us. init_at (context c.args.scope.now) (c.args.room - 1) us) (map init c.initials.found.items) (toks c.initials.rest.now) none) in
    let p = err_from_is_err_and c.from_residual-in_err-rest.result c.from_residual-in_err-rest.ensures.1 in
    record { gives = rw (p.1, p.2) (inits_unended (context c.args.scope.now) c.args.room (toks c.args.tokens.now) (omega arith) opens c.in_err-rest.field-0.0 _ _ total c.in_err-rest.ensures) }

pub returns : goal.returns
returns t c =
    let opens : at_open_brace (toks c.args.tokens.now) ≡ true = grind arith in
    let none : at_more (toks c.initials.rest.now) ≡ false = grind arith in
    let total = goes_end _ _ _ _ c.initials.invariant (more_end (λ us. init_at (context c.args.scope.now) (c.args.room - 1) us) (map init c.initials.found.items) (toks c.initials.rest.now) none) in
    record { gives = rw (view-List c.from_vec.result c.span.result, c.from_vec.ensures, c.span.ensures) (inits_ok (context c.args.scope.now) c.args.room (toks c.args.tokens.now) (omega arith) opens _ _ _ total c.in_ok-rest.ensures) }
