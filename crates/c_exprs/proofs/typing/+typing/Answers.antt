use Rattle.std.proofs.Common.{arith, ◌≡◌, ◌+◌, ◌++◌, ◌∷◌, [], map, drop, ◌∙◌, sym, refl, add-one, Ok}
use Rattle.std.proofs.lemmas.List.{map_push, drop_all}
use Rattle.std.proofs.Math.Seq.{drop-cons}
use Rattle.std.proofs.Math.ListN.{get_or}
use Rattle.c_tree.specs.declared.expression.Expr.{Expr}
use Rattle.c_tree.specs.View.{expr, exprs}
use Rattle.c_types.specs.View.{texpr}
use Rattle.c_exprs.specs.View.{ctx}
use Rattle.c_exprs.proofs.Fronts.{before-push, before-end}
use Rattle.c_exprs.proofs.typing.+typing.Goals as goal

pub all_valued-loop-e-preserved : goal.all_valued-loop-e-preserved
all_valued-loop-e-preserved t c =
    let i = c.loop-e.e-index in
    let es = c.args.es.now in
    let e : Expr = c.e-item.result in
    let here : get_or es i e ≡ e = grind arith in
    let split : drop i es ≡ e ∷ drop (i + 1) es = rw (add-one, drop-cons es i e (omega arith), here) refl in
    let pushed : map texpr c.push.new.self.items ≡ map texpr c.loop-e.found.items ++ texpr c.in_ok-x.x ∷ [] = rw c.in_ok-push.ensures.items (map_push texpr c.loop-e.found.items c.in_ok-x.x) in
    let context = ctx c.args.globals.now c.args.scopes.now in
    let on = before-push context (map texpr c.loop-e.found.items) c.loop-e.texts c.valued.new.texts (expr e) (exprs (map expr (drop (i + 1) es))) (texpr c.in_ok-x.x) c.in_ok-x.ensures in
    let rest = rw (split, c.if-named.false) at c.loop-e.invariant in
    rw (pushed, c.if-named.false) (on ∙ rest)

pub all_valued-returns : goal.all_valued-returns
all_valued-returns t c =
    let none = drop_all c.loop-e.e-index c.args.es.now c.loop-e-test.false in
    let rest = rw none at c.loop-e.invariant in
    sym rest ∙ before-end (map texpr c.loop-e.found.items) c.loop-e.texts
