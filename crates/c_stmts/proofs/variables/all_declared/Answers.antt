use Rattle.std.proofs.Common.{arith, ◌≡◌, ◌+◌, ◌∷◌, map, drop, refl, ◌∙◌, add-one}
use Rattle.std.proofs.Math.Seq.{drop-cons}
use Rattle.std.proofs.Math.ListN.{get_or}
use Rattle.c_tree.specs.View.{var}
use Rattle.c_tree.specs.declared.variable.Var.{Var}
use Rattle.c_types.specs.View.{tvar}
use Rattle.c_stmts.specs.View.{st, fn_of}
use Rattle.c_stmts.proofs.Counted.{variables_left}
use Rattle.c_stmts.proofs.VarFronts.{before-push}
use Rattle.c_stmts.proofs.variables.all_declared.Goals as goal

pub loop-v-preserved : goal.loop-v-preserved
loop-v-preserved c =
    let i = c.loop-v.v-index in
    let all = c.args.vs.now in
    let e : Var = c.v-item.result in
    let here : get_or all i e ≡ e = grind arith in
    let split : drop i all ≡ e ∷ drop (i + 1) all = rw (add-one, drop-cons all i e (omega arith), here) refl in
    let was = rw split at c.loop-v.invariant.0 in
    let room = rw split at c.loop-v.invariant.1 in
    let f = fn_of c.args.globals.now c.args.gives.now in
    let on = before-push f (map tvar c.loop-v.found.items) (st c.loop-v.state) (st c.declared.new.state) (var e) (map var (drop (i + 1) all)) _ c.in_ok-x.ensures in
    (rw c.in_ok-keep.ensures (on ∙ was), variables_left f (st c.loop-v.state) (st c.declared.new.state) (var e) (map var (drop (i + 1) all)) _ _ c.in_ok-x.ensures room)
