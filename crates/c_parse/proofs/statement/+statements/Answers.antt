use Rattle.std.proofs.Common.{◌≡◌, map, true, false, [], ◌∷◌, ◌++◌, arith}
use Rattle.std.proofs.lemmas.Result.{err_from_is_err_and}
use Rattle.std.proofs.lemmas.List.{map_push}
use Rattle.c_parse.specs.inner.Reader.{at_close_brace}
use Rattle.c_parse.specs.inner.ReadingStatements.{bodies}
use Rattle.c_parse.specs.Tok.{toks}
use Rattle.c_parse.specs.inner.View.{context}
use Rattle.c_tree.specs.View.{arm, stmt}
use Rattle.c_parse.proofs.Loops.{goes_end, goes_fail, goes_turn}
use Rattle.c_parse.proofs.ListTurns.{brace_end, brace_fail, brace_ok}
use Rattle.c_parse.proofs.Less.{stmt_less, arm_less}
use Rattle.c_parse.proofs.statement.+statements.Goals as goal

pub arms-returns-in_err-next : goal.arms-returns-in_err-next
arms-returns-in_err-next t c =
    let more : at_close_brace (toks c.arms.rest.now) ≡ false = grind arith in
    let turned = brace_fail (bodies (context c.args.scope.now) c.args.room).arm (map arm c.arms.found.items) (toks c.arms.rest.now) c.in_err-next.field-0.0 more c.in_err-next.ensures.gives in
    let p = err_from_is_err_and c.from_residual.result c.from_residual.ensures.1 in
    record { gives = rw (p.1, p.2) (goes_fail _ _ _ _ c.arms.invariant c.in_err-next.field-0.0 turned) }

pub arms-arms-smaller : goal.arms-arms-smaller
arms-arms-smaller t c = omega (arith, arm_less (context c.args.scope.now) c.args.room (toks c.arms.rest.now) (arm c.in_ok-next.next, toks c.in_ok-next.after.now) c.in_ok-next.ensures.gives)

pub arms-arms-preserved : goal.arms-arms-preserved
arms-arms-preserved t c =
    let more : at_close_brace (toks c.arms.rest.now) ≡ false = grind arith in
    let fewer = arm_less (context c.args.scope.now) c.args.room (toks c.arms.rest.now) (arm c.in_ok-next.next, toks c.in_ok-next.after.now) c.in_ok-next.ensures.gives in
    let turned = brace_ok (bodies (context c.args.scope.now) c.args.room).arm (map arm c.arms.found.items) (toks c.arms.rest.now) (arm c.in_ok-next.next, toks c.in_ok-next.after.now) more c.in_ok-next.ensures.gives in
    let next = goes_turn _ _ _ _ c.arms.invariant _ _ turned fewer in
    let pushed : map arm c.push.new.self.items ≡ map arm c.arms.found.items ++ (arm c.in_ok-next.next ∷ []) = rw c.in_ok-push.ensures.items (map_push arm c.arms.found.items c.in_ok-next.next) in
    rw pushed next

pub arms-returns : goal.arms-returns
arms-returns t c =
    let none : at_close_brace (toks c.arms.rest.now) ≡ true = grind arith in
    let total = goes_end _ _ _ _ c.arms.invariant (brace_end (bodies (context c.args.scope.now) c.args.room).arm (map arm c.arms.found.items) (toks c.arms.rest.now) none) in
    record { gives = rw c.from_vec.ensures total }

pub statements-returns-in_err-next : goal.statements-returns-in_err-next
statements-returns-in_err-next t c =
    let more : at_close_brace (toks c.statements.rest.now) ≡ false = grind arith in
    let turned = brace_fail (bodies (context c.args.scope.now) c.args.room).stmt (map stmt c.statements.found.items) (toks c.statements.rest.now) c.in_err-next.field-0.0 more c.in_err-next.ensures.gives in
    let p = err_from_is_err_and c.from_residual.result c.from_residual.ensures.1 in
    record { gives = rw (p.1, p.2) (goes_fail _ _ _ _ c.statements.invariant c.in_err-next.field-0.0 turned) }

pub statements-statements-smaller : goal.statements-statements-smaller
statements-statements-smaller t c = omega (arith, stmt_less (context c.args.scope.now) c.args.room (toks c.statements.rest.now) (stmt c.in_ok-next.next, toks c.in_ok-next.after.now) c.in_ok-next.ensures.gives)

pub statements-statements-preserved : goal.statements-statements-preserved
statements-statements-preserved t c =
    let more : at_close_brace (toks c.statements.rest.now) ≡ false = grind arith in
    let fewer = stmt_less (context c.args.scope.now) c.args.room (toks c.statements.rest.now) (stmt c.in_ok-next.next, toks c.in_ok-next.after.now) c.in_ok-next.ensures.gives in
    let turned = brace_ok (bodies (context c.args.scope.now) c.args.room).stmt (map stmt c.statements.found.items) (toks c.statements.rest.now) (stmt c.in_ok-next.next, toks c.in_ok-next.after.now) more c.in_ok-next.ensures.gives in
    let next = goes_turn _ _ _ _ c.statements.invariant _ _ turned fewer in
    let pushed : map stmt c.push.new.self.items ≡ map stmt c.statements.found.items ++ (stmt c.in_ok-next.next ∷ []) = rw c.in_ok-push.ensures.items (map_push stmt c.statements.found.items c.in_ok-next.next) in
    rw pushed next

pub statements-returns : goal.statements-returns
statements-returns t c =
    let none : at_close_brace (toks c.statements.rest.now) ≡ true = grind arith in
    let total = goes_end _ _ _ _ c.statements.invariant (brace_end (bodies (context c.args.scope.now) c.args.room).stmt (map stmt c.statements.found.items) (toks c.statements.rest.now) none) in
    record { gives = rw c.from_vec.ensures total }
