use Rattle.std.proofs.Common.{◌≡◌, ◌≤◌, ◌<◌, ◌-◌, map, suc, ◌+◌, length, true, false, [], ◌∷◌, ◌++◌, Some, None, refl, sym, ap, ◌∙◌, arith}
use Rattle.std.proofs.lemmas.Result.{err_from_is_err_and}
use Rattle.std.proofs.lemmas.List.{map_push}
use Rattle.c_parse.specs.declared.lead.TypeMark.TheVariants as type_mark
use Rattle.c_parse.specs.Tok.{toks}
use Rattle.c_parse.specs.inner.Reader.{at_comma, at_close_paren, behind}
use Rattle.c_parse.specs.inner.Leads.{suffix_at, type_mark_at}
use Rattle.c_parse.specs.inner.View.{context}
use Rattle.c_parse.specs.inner.Reading.{operator_at, is_some_suffix, readers}
use Rattle.c_tree.specs.View.{expr, type}
use Rattle.c_tree.specs.Depth.{expr_depth, type_depth}
use Rattle.c_parse.proofs.FrontsRead.{star-is, bracket-is}
use Rattle.c_parse.proofs.Loops.{goes_end, goes_fail, goes_turn, fails_on}
use Rattle.c_parse.proofs.Steps.{first_fails, levels_fail, level_next, run_step}
use Rattle.c_parse.proofs.Sizes.{expr_shorter, level_shorter, run_shorter}
use Rattle.c_parse.proofs.Soundness.{expr_derived, level_derived, run_derived}
use Rattle.c_parse.proofs.Turns.{behind_up, at_next, operator_end, operator_deep, operator_fail, operator_ok, suffix_end, suffix_deep, suffix_fail, suffix_ok, marks_end, star_deep, star_ok, run_fail, run_ok, exprs_push, arguments_fail, arguments_unclosed, arguments_ok, suffix_shorter}
use Rattle.c_parse.proofs.expression.+expressions.Goals as goal

pub arguments-returns-in_err-next-clause-gives : goal.arguments-returns-in_err-next-clause-gives
arguments-returns-in_err-next-clause-gives t c =
    let opens : at_close_paren (toks c.args.tokens.now) ≡ false = grind arith in
    let some : at_comma (toks c.arguments.rest.now) ≡ true = grind arith in
    let bad = rw c.behind-in-arguments.ensures at c.in_err-next.ensures.gives in
    let p = err_from_is_err_and c.from_residual-in_err-next.result c.from_residual-in_err-next.ensures.1 in
    rw (p.1, p.2) (arguments_fail (readers (context c.args.scope.now) c.args.room) (toks c.args.tokens.now) opens c.in_err-next.field-0.0 (goes_fail _ _ _ _ c.arguments.invariant.goes c.in_err-next.field-0.0 (rw some (fails_on _ _ _ bad))))

pub arguments-arguments-smaller : goal.arguments-arguments-smaller
arguments-arguments-smaller t c =
    let good = rw c.behind-in-arguments.ensures at c.in_ok-next.ensures.gives in
    omega (arith, expr_shorter (expr_derived _ _ _ _ good).derived, behind_up (toks c.arguments.rest.now))

pub arguments-arguments-preserved : goal.arguments-arguments-preserved
arguments-arguments-preserved t c =
    let some : at_comma (toks c.arguments.rest.now) ≡ true = grind arith in
    let good = rw c.behind-in-arguments.ensures at c.in_ok-next.ensures.gives in
    let less = expr_shorter (expr_derived _ _ _ _ good).derived in
    let next = goes_turn _ _ _ _ c.arguments.invariant.goes _ _ (rw (some, good) refl) (omega (arith, less, behind_up (toks c.arguments.rest.now))) in
    let pushed : map expr c.push-in-arguments.new.self.items ≡ map expr c.arguments.found.items ++ (expr c.in_ok-next.next ∷ []) = rw c.in_ok-push-2.ensures.items (map_push expr c.arguments.found.items c.in_ok-next.next) in
    let deep = c.max-depth.ensures in
    record {
      goes = rw pushed next;
      depth = rw pushed (omega (arith, deep, exprs_push (map expr c.arguments.found.items) (expr c.in_ok-next.next), c.arguments.invariant.depth, c.in_ok-next.ensures.depth));
      fits = omega (arith, deep, c.arguments.invariant.fits, c.in_ok-next.ensures.fits);
    }

pub arguments-returns-in_err-rest-clause-gives : goal.arguments-returns-in_err-rest-clause-gives
arguments-returns-in_err-rest-clause-gives t c =
    let opens : at_close_paren (toks c.args.tokens.now) ≡ false = grind arith in
    let none : at_comma (toks c.arguments.rest.now) ≡ false = grind arith in
    let total = goes_end _ _ _ _ c.arguments.invariant.goes (rw none refl) in
    let p = err_from_is_err_and c.from_residual-in_err-rest.result c.from_residual-in_err-rest.ensures.1 in
    rw (p.1, p.2) (arguments_unclosed (readers (context c.args.scope.now) c.args.room) (toks c.args.tokens.now) opens c.in_err-rest.field-0.0 _ _ total c.in_err-rest.ensures)

pub arguments-returns-clause-gives : goal.arguments-returns-clause-gives
arguments-returns-clause-gives t c =
    let opens : at_close_paren (toks c.args.tokens.now) ≡ false = grind arith in
    let none : at_comma (toks c.arguments.rest.now) ≡ false = grind arith in
    let total = goes_end _ _ _ _ c.arguments.invariant.goes (rw none refl) in
    rw c.from_vec-2.ensures (arguments_ok (readers (context c.args.scope.now) c.args.room) (toks c.args.tokens.now) opens _ _ _ total c.in_ok-rest.ensures)

pub level-returns-in_err-left-clause-gives : goal.level-returns-in_err-left-clause-gives
level-returns-in_err-left-clause-gives t c =
    let p = err_from_is_err_and c.from_residual.result c.from_residual.ensures.1 in
    rw (p.1, p.2) (first_fails _ _ _ _ c.in_err-left.field-0.0 (omega arith) c.in_err-left.ensures.gives)

pub level-returns-in_err-tree-clause-gives : goal.level-returns-in_err-tree-clause-gives
level-returns-in_err-tree-clause-gives t c =
    let p = err_from_is_err_and c.from_residual-in_err-tree.result c.from_residual-in_err-tree.ensures.1 in
    rw (p.1, p.2) (levels_fail _ _ _ _ _ _ _ c.in_err-tree.field-0.0 (omega arith) (omega arith) c.levels.invariant.gives c.in_err-tree.ensures.gives)

pub level-levels-preserved : goal.level-levels-preserved
level-levels-preserved t c =
    let one : c.levels.reached + 1 ≡ suc c.levels.reached = omega arith in
    record {
      below = omega arith;
      gives = rw one (level_next _ _ _ _ _ _ (omega arith) c.levels.invariant.gives ∙ c.in_ok-tree.ensures.gives);
      depth = c.in_ok-tree.ensures.depth;
      fits = c.in_ok-tree.ensures.fits;
    }

pub operators-returns-in_err-fitting-clause-gives : goal.operators-returns-in_err-fitting-clause-gives
operators-returns-in_err-fitting-clause-gives t c =
    let found : operator_at (c.args.k + 1) (toks c.operators.rest.now) ≡ Some c.in-Some.op = grind arith in
    let deep = rw c.in_err-fitting.ensures.err at c.raised.ensures.deep in
    let full : c.args.room ≤ expr_depth (expr c.operators.left) = omega (arith, c.operators.invariant.depth, deep.0) in
    let turned = operator_deep (context c.args.scope.now) (readers (context c.args.scope.now) (c.args.room - 1)) c.args.room c.args.k (toks c.args.begun.now.from.now) (expr c.operators.left) (toks c.operators.rest.now) c.in-Some.op c.in_err-fitting.field-0.0 (at_next c.args.k (toks c.operators.rest.now) _ found) full deep.1 in
    let p = err_from_is_err_and c.from_residual.result c.from_residual.ensures.1 in
    rw (p.1, p.2) (goes_fail _ _ _ _ c.operators.invariant.goes c.in_err-fitting.field-0.0 turned)

pub operators-returns-in_err-kept-clause-gives : goal.operators-returns-in_err-kept-clause-gives
operators-returns-in_err-kept-clause-gives t c =
    let found : operator_at (c.args.k + 1) (toks c.operators.rest.now) ≡ Some c.in-Some.op = grind arith in
    let fits = rw c.in_ok-fitting.ensures.ok.1 at c.raised.ensures.fits in
    let less : expr_depth (expr c.operators.left) < c.args.room = omega (arith, c.operators.invariant.depth, fits) in
    let bad = rw c.in_err-kept.ensures.err at c.level-found.ensures.gives in
    let failed = rw c.behind.ensures at bad in
    let turned = operator_fail (context c.args.scope.now) (readers (context c.args.scope.now) (c.args.room - 1)) c.args.room c.args.k (toks c.args.begun.now.from.now) (expr c.operators.left) (toks c.operators.rest.now) c.in-Some.op c.in_err-kept.field-0.0 (at_next c.args.k (toks c.operators.rest.now) _ found) less failed in
    let p = err_from_is_err_and c.from_residual-in_err-kept.result c.from_residual-in_err-kept.ensures.1 in
    rw (p.1, p.2) (goes_fail _ _ _ _ c.operators.invariant.goes c.in_err-kept.field-0.0 turned)

pub operators-operators-smaller : goal.operators-operators-smaller
operators-operators-smaller t c =
    let read = rw c.in_ok-kept.ensures.ok.1 at c.level-found.ensures.gives in
    let good = rw c.behind.ensures at read in
    omega (arith, level_shorter (level_derived _ _ _ _ _ good).derived, behind_up (toks c.operators.rest.now))

pub operators-operators-preserved : goal.operators-operators-preserved
operators-operators-preserved t c =
    let found : operator_at (c.args.k + 1) (toks c.operators.rest.now) ≡ Some c.in-Some.op = grind arith in
    let fits = rw c.in_ok-fitting.ensures.ok.1 at c.raised.ensures.fits in
    let less : expr_depth (expr c.operators.left) < c.args.room = omega (arith, c.operators.invariant.depth, fits) in
    let read = rw c.in_ok-kept.ensures.ok.1 at c.level-found.ensures.gives in
    let good = rw c.behind.ensures at read in
    let right_depth = rw c.in_ok-kept.ensures.ok.1 at c.level-found.ensures.depth in
    let right_fits = rw c.in_ok-kept.ensures.ok.1 at c.level-found.ensures.fits in
    let shorter = level_shorter (level_derived _ _ _ _ _ good).derived in
    let fewer : length (toks c.in_ok-kept.after.now) < length (toks c.operators.rest.now) = omega (arith, shorter, behind_up (toks c.operators.rest.now)) in
    let turned = operator_ok (context c.args.scope.now) (readers (context c.args.scope.now) (c.args.room - 1)) c.args.room c.args.k (toks c.args.begun.now.from.now) (expr c.operators.left) (toks c.operators.rest.now) c.in-Some.op _ _ (at_next c.args.k (toks c.operators.rest.now) _ found) less good in
    let next = goes_turn _ _ _ _ c.operators.invariant.goes _ _ turned fewer in
    let same : c.in_ok-kept.kept ≡ c.operators.left = c.in_ok-kept.ensures.ok.0 ∙ c.in_ok-fitting.ensures.ok.0 in
    let tree = rw same at c.in_ok-left.ensures.made in
    let placed = c.span.ensures in
    let deep = c.max-depth.ensures in
    record {
      goes = rw (tree, placed) next;
      depth = rw tree (omega (arith, deep, c.operators.invariant.depth, right_depth));
      fits = omega (arith, deep, c.operators.invariant.fits, right_fits, fits);
    }

pub operators-returns-clause-gives : goal.operators-returns-clause-gives
operators-returns-clause-gives t c =
    let none : operator_at (c.args.k + 1) (toks c.operators.rest.now) ≡ None = grind arith in
    goes_end _ _ _ _ c.operators.invariant.goes (operator_end (context c.args.scope.now) (readers (context c.args.scope.now) (c.args.room - 1)) c.args.room c.args.k (toks c.args.begun.now.from.now) (expr c.operators.left) (toks c.operators.rest.now) (at_next c.args.k (toks c.operators.rest.now) _ none))

pub postfix-returns-in_err-fitting-clause-gives : goal.postfix-returns-in_err-fitting-clause-gives
postfix-returns-in_err-fitting-clause-gives t c =
    let some : is_some_suffix (suffix_at (toks c.suffixes.rest.now)) ≡ true = grind arith in
    let deep = rw c.in_err-fitting.ensures.err at c.raised.ensures.deep in
    let full : c.args.room ≤ expr_depth (expr c.suffixes.left) = omega (arith, c.suffixes.invariant.depth, deep.0) in
    let turned = suffix_deep (context c.args.scope.now) (readers (context c.args.scope.now) (c.args.room - 1)) c.args.room (toks c.args.tokens.now) (expr c.suffixes.left) (toks c.suffixes.rest.now) c.in_err-fitting.field-0.0 some full deep.1 in
    let p = err_from_is_err_and c.from_residual-in_err-fitting.result c.from_residual-in_err-fitting.ensures.1 in
    rw (p.1, p.2) (goes_fail _ _ _ _ c.suffixes.invariant.goes c.in_err-fitting.field-0.0 turned)

pub postfix-returns-in_err-tree-clause-gives : goal.postfix-returns-in_err-tree-clause-gives
postfix-returns-in_err-tree-clause-gives t c =
    let some : is_some_suffix (suffix_at (toks c.suffixes.rest.now)) ≡ true = grind arith in
    let fits = rw c.in_ok-fitting.ensures.ok.1 at c.raised.ensures.fits in
    let less : expr_depth (expr c.suffixes.left) < c.args.room = omega (arith, c.suffixes.invariant.depth, fits) in
    let bad = rw c.in_ok-fitting.ensures.ok.0 at c.in_err-tree.ensures.gives in
    let turned = suffix_fail (context c.args.scope.now) (readers (context c.args.scope.now) (c.args.room - 1)) c.args.room (toks c.args.tokens.now) (expr c.suffixes.left) (toks c.suffixes.rest.now) c.in_err-tree.field-0.0 some less bad in
    let p = err_from_is_err_and c.from_residual-in_err-tree.result c.from_residual-in_err-tree.ensures.1 in
    rw (p.1, p.2) (goes_fail _ _ _ _ c.suffixes.invariant.goes c.in_err-tree.field-0.0 turned)

pub postfix-suffixes-smaller : goal.postfix-suffixes-smaller
postfix-suffixes-smaller t c =
    let good = rw c.in_ok-fitting.ensures.ok.0 at c.in_ok-tree.ensures.gives in
    omega (arith, suffix_shorter (context c.args.scope.now) (c.args.room - 1) (toks c.args.tokens.now) (expr c.suffixes.left) (toks c.suffixes.rest.now) _ (suffix_at (toks c.suffixes.rest.now)) refl good)

pub postfix-suffixes-preserved : goal.postfix-suffixes-preserved
postfix-suffixes-preserved t c =
    let some : is_some_suffix (suffix_at (toks c.suffixes.rest.now)) ≡ true = grind arith in
    let fits = rw c.in_ok-fitting.ensures.ok.1 at c.raised.ensures.fits in
    let less : expr_depth (expr c.suffixes.left) < c.args.room = omega (arith, c.suffixes.invariant.depth, fits) in
    let good = rw c.in_ok-fitting.ensures.ok.0 at c.in_ok-tree.ensures.gives in
    let fewer = suffix_shorter (context c.args.scope.now) (c.args.room - 1) (toks c.args.tokens.now) (expr c.suffixes.left) (toks c.suffixes.rest.now) _ (suffix_at (toks c.suffixes.rest.now)) refl good in
    let turned = suffix_ok (context c.args.scope.now) (readers (context c.args.scope.now) (c.args.room - 1)) c.args.room (toks c.args.tokens.now) (expr c.suffixes.left) (toks c.suffixes.rest.now) _ some less good in
    record {
      goes = goes_turn _ _ _ _ c.suffixes.invariant.goes _ _ turned fewer;
      depth = c.in_ok-tree.ensures.depth;
      fits = c.in_ok-tree.ensures.fits;
    }

pub postfix-returns-clause-gives : goal.postfix-returns-clause-gives
postfix-returns-clause-gives t c =
    let none : is_some_suffix (suffix_at (toks c.suffixes.rest.now)) ≡ false = grind arith in
    goes_end _ _ _ _ c.suffixes.invariant.goes (suffix_end (context c.args.scope.now) (readers (context c.args.scope.now) (c.args.room - 1)) c.args.room (toks c.args.tokens.now) (expr c.suffixes.left) (toks c.suffixes.rest.now) none)

pub type_tree-returns-in_err-fitting-in-Star-clause-gives : goal.type_tree-returns-in_err-fitting-in-Star-clause-gives
type_tree-returns-in_err-fitting-in-Star-clause-gives t c =
    let some : type_mark_at (toks c.marks.rest.now) ≡ type_mark.Star = sym c.in-Star.ensures in
    let deep = rw c.in_err-fitting-in-Star.ensures.err at c.raised.ensures.deep in
    let full : c.args.room ≤ type_depth (type c.marks.ty) = omega (arith, c.marks.invariant.depth, deep.0) in
    let turned = star_deep (readers (context c.args.scope.now) (c.args.room - 1)) c.args.room (type c.marks.ty) (toks c.marks.rest.now) c.in_err-fitting-in-Star.field-0.0 some full deep.1 in
    let p = err_from_is_err_and c.from_residual-in_err-fitting-in-Star.result c.from_residual-in_err-fitting-in-Star.ensures.1 in
    rw (p.1, p.2) (goes_fail _ _ _ _ c.marks.invariant.goes c.in_err-fitting-in-Star.field-0.0 turned)

pub type_tree-marks-preserved-in-Star : goal.type_tree-marks-preserved-in-Star
type_tree-marks-preserved-in-Star t c =
    let some : type_mark_at (toks c.marks.rest.now) ≡ type_mark.Star = sym c.in-Star.ensures in
    let fits = rw c.in_ok-fitting-in-Star.ensures.ok.1 at c.raised.ensures.fits in
    let less : type_depth (type c.marks.ty) < c.args.room = omega (arith, c.marks.invariant.depth, fits) in
    let fewer : length (behind (toks c.marks.rest.now)) < length (toks c.marks.rest.now) = omega (arith, ap length (star-is (toks c.marks.rest.now) some)) in
    let next = goes_turn _ _ _ _ c.marks.invariant.goes _ _ (star_ok (readers (context c.args.scope.now) (c.args.room - 1)) c.args.room (type c.marks.ty) (toks c.marks.rest.now) some less) fewer in
    let tree = rw c.in_ok-fitting-in-Star.ensures.ok.0 at c.in_ok-ty-in-Star.ensures.made in
    record {
      goes = rw (tree, c.behind-rest.ensures) next;
      depth = rw tree (omega (arith, c.marks.invariant.depth));
      fits = omega (arith, fits);
    }

pub type_tree-returns-in_err-array-in-Bracket-clause-gives : goal.type_tree-returns-in_err-array-in-Bracket-clause-gives
type_tree-returns-in_err-array-in-Bracket-clause-gives t c =
    let some : type_mark_at (toks c.marks.rest.now) ≡ type_mark.Bracket = sym c.in-Bracket.ensures in
    let failed = rw (run_step (context c.args.scope.now) c.args.room (type c.marks.ty) (toks c.marks.rest.now) (omega arith)) at c.in_err-array-in-Bracket.ensures.gives in
    let turned = run_fail (readers (context c.args.scope.now) (c.args.room - 1)) c.args.room (type c.marks.ty) (toks c.marks.rest.now) c.in_err-array-in-Bracket.field-0.0 some failed in
    let p = err_from_is_err_and c.from_residual-in_err-array-in-Bracket.result c.from_residual-in_err-array-in-Bracket.ensures.1 in
    rw (p.1, p.2) (goes_fail _ _ _ _ c.marks.invariant.goes c.in_err-array-in-Bracket.field-0.0 turned)

pub type_tree-marks-smaller : goal.type_tree-marks-smaller
type_tree-marks-smaller t c =
    let some : type_mark_at (toks c.marks.rest.now) ≡ type_mark.Bracket = sym c.in-Bracket.ensures in
    omega (arith, run_shorter (run_derived _ _ _ _ _ (bracket-is (toks c.marks.rest.now) some) c.in_ok-array-in-Bracket.ensures.gives).derived.run)

pub type_tree-marks-preserved : goal.type_tree-marks-preserved
type_tree-marks-preserved t c =
    let some : type_mark_at (toks c.marks.rest.now) ≡ type_mark.Bracket = sym c.in-Bracket.ensures in
    let fewer = run_shorter (run_derived _ _ _ _ _ (bracket-is (toks c.marks.rest.now) some) c.in_ok-array-in-Bracket.ensures.gives).derived.run in
    let good = rw (run_step (context c.args.scope.now) c.args.room (type c.marks.ty) (toks c.marks.rest.now) (omega arith)) at c.in_ok-array-in-Bracket.ensures.gives in
    record {
      goes = goes_turn _ _ _ _ c.marks.invariant.goes _ _ (run_ok (readers (context c.args.scope.now) (c.args.room - 1)) c.args.room (type c.marks.ty) (toks c.marks.rest.now) _ some good) fewer;
      depth = c.in_ok-array-in-Bracket.ensures.depth;
      fits = c.in_ok-array-in-Bracket.ensures.fits;
    }

pub type_tree-returns-in-Nothing-clause-gives : goal.type_tree-returns-in-Nothing-clause-gives
type_tree-returns-in-Nothing-clause-gives t c =
    let none : type_mark_at (toks c.marks.rest.now) ≡ type_mark.Nothing = sym c.in-Nothing.ensures in
    goes_end _ _ _ _ c.marks.invariant.goes (marks_end (readers (context c.args.scope.now) (c.args.room - 1)) c.args.room (type c.marks.ty) (toks c.marks.rest.now) none)
