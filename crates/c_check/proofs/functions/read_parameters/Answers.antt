use Rattle.std.proofs.Common.{arith, ◌≡◌, ◌+◌, ◌++◌, ◌∷◌, [], map, drop, refl, ◌∙◌, add-one}
use Rattle.std.proofs.lemmas.List.{map_push}
use Rattle.std.proofs.Math.Seq.{drop-cons}
use Rattle.std.proofs.Math.ListN.{get_or}
use Rattle.c_tree.specs.View.{var}
use Rattle.c_tree.specs.declared.variable.Var.{Var}
use Rattle.c_types.specs.View.{ctype}
use Rattle.c_check.specs.View.{un}
use Rattle.c_check.proofs.Counted.{parameter_pushed, parameters_left}
use Rattle.c_check.proofs.functions.read_parameters.Goals as goal

pub loop-v-preserved : goal.loop-v-preserved
loop-v-preserved c =
    let i = c.loop-v.v-index in
    let all = c.args.all.now in
    let e : Var = c.v-item.result in
    let here : get_or all i e ≡ e = grind arith in
    let split : drop i all ≡ e ∷ drop (i + 1) all = rw (add-one, drop-cons all i e (omega arith), here) refl in
    let was = rw split at c.loop-v.invariant.0 in
    let room = rw split at c.loop-v.invariant.1 in
    let pushed : map ctype c.push.new.self.items ≡ map ctype c.loop-v.found.items ++ ctype c.in_ok-ty.ty ∷ [] = rw c.in_ok-push.ensures.items (map_push ctype c.loop-v.found.items c.in_ok-ty.ty) in
    let on = parameter_pushed (un c.loop-v.reading) (un c.read_parameter.new.reading) (var e) (map var (drop (i + 1) all)) (map ctype c.loop-v.found.items) (ctype c.in_ok-ty.ty) c.in_ok-ty.ensures in
    (rw pushed (on ∙ was), parameters_left (un c.loop-v.reading) (un c.read_parameter.new.reading) (var e) (map var (drop (i + 1) all)) (ctype c.in_ok-ty.ty) _ c.in_ok-ty.ensures room)
