use Rattle.std.proofs.Common.{◌≡◌, map, option_map, ℕ, ◌<◌, length, true, false, List, [], ◌∷◌, ◌++◌, Option, arith}
use Rattle.std.proofs.lemmas.Result.{err_from_is_err_and}
use Rattle.std.proofs.lemmas.List.{map_push}
use Rattle.c_parse.specs.inner.ReadingDeclarations as reading
use Rattle.c_parse.specs.inner.Reader.{at_more, behind}
use Rattle.c_parse.specs.Tok.{toks}
use Rattle.c_parse.specs.inner.View.{context}
use Rattle.c_tree.specs.Tree.{ExprT}
use Rattle.c_tree.specs.View.{expr}
use Rattle.c_parse.proofs.Loops.{goes_end, goes_fail, goes_turn}
use Rattle.c_parse.proofs.ListTurns.{more_end, more_fail, more_ok}
use Rattle.c_parse.proofs.Less.{value_less}
use Rattle.c_parse.proofs.Turns.{behind_up}
use Rattle.c_parse.proofs.declaration.values.Goals as goal

pub returns-in_err-next : goal.returns-in_err-next
returns-in_err-next c =
    let some : at_more (toks c.values.rest.now) ≡ true = grind arith in
    let bad = rw c.behind.ensures at c.in_err-next.ensures.gives in
    let turned = more_fail (reading.value (context c.args.scope.now) c.args.room) (map (λ v. (v.0, option_map expr v.1)) c.values.found.items) (toks c.values.rest.now) c.in_err-next.field-0.0 some bad in
    let p = err_from_is_err_and c.from_residual-in_err-next.result c.from_residual-in_err-next.ensures.1 in
    record { gives = rw (p.1, p.2) (goes_fail _ _ _ _ c.values.invariant c.in_err-next.field-0.0 turned) }

pub values-smaller : goal.values-smaller
values-smaller c =
    let good = rw c.behind.ensures at c.in_ok-next.ensures.gives in
    omega (arith, value_less (context c.args.scope.now) c.args.room (behind (toks c.values.rest.now)) ((c.in_ok-next.next.0, option_map expr c.in_ok-next.next.1), toks c.in_ok-next.after.now) good, behind_up (toks c.values.rest.now))

pub values-preserved : goal.values-preserved
values-preserved c =
    let some : at_more (toks c.values.rest.now) ≡ true = grind arith in
    let good = rw c.behind.ensures at c.in_ok-next.ensures.gives in
    let fewer : length (toks c.in_ok-next.after.now) < length (toks c.values.rest.now) = omega (arith, value_less (context c.args.scope.now) c.args.room (behind (toks c.values.rest.now)) ((c.in_ok-next.next.0, option_map expr c.in_ok-next.next.1), toks c.in_ok-next.after.now) good, behind_up (toks c.values.rest.now)) in
    let turned = more_ok (reading.value (context c.args.scope.now) c.args.room) (map (λ v. (v.0, option_map expr v.1)) c.values.found.items) (toks c.values.rest.now) ((c.in_ok-next.next.0, option_map expr c.in_ok-next.next.1), toks c.in_ok-next.after.now) some good in
    let next = goes_turn _ _ _ _ c.values.invariant _ _ turned fewer in
    let pushed : map {B = List ℕ × Option ExprT} (λ v. (v.0, option_map expr v.1)) c.push-in-values.new.self.items ≡ map {B = List ℕ × Option ExprT} (λ v. (v.0, option_map expr v.1)) c.values.found.items ++ ((c.in_ok-next.next.0, option_map expr c.in_ok-next.next.1) ∷ []) = rw c.in_ok-push-2.ensures.items (map_push _ c.values.found.items c.in_ok-next.next) in
    rw pushed next

pub returns : goal.returns
returns c =
    let none : at_more (toks c.values.rest.now) ≡ false = grind arith in
    let total = goes_end _ _ _ _ c.values.invariant (more_end (reading.value (context c.args.scope.now) c.args.room) (map (λ v. (v.0, option_map expr v.1)) c.values.found.items) (toks c.values.rest.now) none) in
    record { gives = rw c.from_vec.ensures total }
