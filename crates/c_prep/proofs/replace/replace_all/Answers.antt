use Rattle.std.proofs.lemmas.Result.{err_from_is_err_and}
use Rattle.c_prep.proofs.Unwinding.{all_refused, all_next, all_done}
use Rattle.c_prep.proofs.replace.replace_all.Goals as goal

pub returns-in_err-replace_one : goal.returns-in_err-replace_one
returns-in_err-replace_one c =
    let p = err_from_is_err_and c.from_residual.result c.from_residual.ensures.1 in
    rw (p.1, p.2) (all_refused c.args.macros.now c.each.rest.now c.each.out _ c.each.invariant c.in-Some.token.now c.in-Some.after.now c.in_err-replace_one.field-0.0 c.in-Some.ensures.cases.0 c.in_err-replace_one.ensures)

pub each-preserved : goal.each-preserved
each-preserved c = all_next c.args.macros.now c.each.rest.now c.each.out _ c.each.invariant c.in-Some.token.now c.in-Some.after.now c.replace_one.new.out c.in-Some.ensures.cases.0 c.in_ok-replace_one.ensures

pub returns : goal.returns
returns c = all_done c.args.macros.now c.each.rest.now c.each.out _ c.each.invariant c.in_default.ensures.cases
