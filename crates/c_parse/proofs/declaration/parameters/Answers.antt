use Rattle.std.proofs.Common.{◌≡◌, map, ◌<◌, length, true, false, [], ◌∷◌, ◌++◌, arith, ◌∙◌}
use Rattle.std.proofs.lemmas.Result.{err_from_is_err_and}
use Rattle.std.proofs.lemmas.List.{map_push}
use Rattle.c_parse.specs.inner.ReadingDeclarations as reading
use Rattle.c_parse.specs.inner.Reader.{at_comma, at_close_paren}
use Rattle.c_parse.specs.Tok.{toks}
use Rattle.c_parse.specs.inner.View.{context}
use Rattle.c_tree.specs.View.{var}
use Rattle.c_parse.proofs.Loops.{goes_end, goes_fail, goes_turn}
use Rattle.c_parse.proofs.ListTurns.{comma_end, comma_fail, comma_ok}
use Rattle.c_parse.proofs.Less.{param_less}
use Rattle.c_parse.proofs.Turns.{behind_up}
use Rattle.c_parse.proofs.MemberLoops.{params_list, params_fail}
use Rattle.c_parse.proofs.declaration.parameters.Goals as goal

pub returns-in_err-next : goal.returns-in_err-next
returns-in_err-next c =
    let closes : at_close_paren (toks c.args.tokens.now) ≡ false = grind arith in
    let void : reading.at_void (toks c.args.tokens.now) ≡ false = grind arith in
    let some : at_comma (toks c.parameters.rest.now) ≡ true = grind arith in
    let bad = rw c.behind-in-parameters.ensures at c.in_err-next.ensures.gives in
    let turned = comma_fail (reading.param_at (context c.args.scope.now) c.args.room) (map var c.parameters.found.items) (toks c.parameters.rest.now) c.in_err-next.field-0.0 some bad in
    let p = err_from_is_err_and c.from_residual-in_err-next.result c.from_residual-in_err-next.ensures.1 in
    record { gives = rw (p.1, p.2) (params_fail (context c.args.scope.now) c.args.room (toks c.args.tokens.now) c.in_err-next.field-0.0 closes void (goes_fail _ _ _ _ c.parameters.invariant c.in_err-next.field-0.0 turned)) }

pub parameters-smaller : goal.parameters-smaller
parameters-smaller c =
    let good = rw c.behind-in-parameters.ensures at c.in_ok-next.ensures.gives in
    omega (arith, param_less _ _ _ _ good, behind_up (toks c.parameters.rest.now))

pub parameters-preserved : goal.parameters-preserved
parameters-preserved c =
    let some : at_comma (toks c.parameters.rest.now) ≡ true = grind arith in
    let good = rw c.behind-in-parameters.ensures at c.in_ok-next.ensures.gives in
    let fewer : length (toks c.in_ok-next.after.now) < length (toks c.parameters.rest.now) = omega (arith, param_less _ _ _ _ good, behind_up (toks c.parameters.rest.now)) in
    let turned = comma_ok (reading.param_at (context c.args.scope.now) c.args.room) (map var c.parameters.found.items) (toks c.parameters.rest.now) _ some good in
    let next = goes_turn _ _ _ _ c.parameters.invariant _ _ turned fewer in
    let pushed : map var c.push-in-parameters.new.self.items ≡ map var c.parameters.found.items ++ (var c.in_ok-next.next ∷ []) = rw c.in_ok-push-2.ensures.items (map_push var c.parameters.found.items c.in_ok-next.next) in
    rw pushed next

pub returns : goal.returns
returns c =
    let closes : at_close_paren (toks c.args.tokens.now) ≡ false = grind arith in
    let void : reading.at_void (toks c.args.tokens.now) ≡ false = grind arith in
    let none : at_comma (toks c.parameters.rest.now) ≡ false = grind arith in
    let total = goes_end _ _ _ _ c.parameters.invariant (comma_end (reading.param_at (context c.args.scope.now) c.args.room) (map var c.parameters.found.items) (toks c.parameters.rest.now) none) in
    record { gives = rw c.from_vec-2.ensures (params_list (context c.args.scope.now) c.args.room (toks c.args.tokens.now) closes void ∙ total) }
