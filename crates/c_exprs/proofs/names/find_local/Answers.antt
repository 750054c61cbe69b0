use Rattle.std.proofs.Common.{rules, ◌≡◌, ◌∙◌, Some, None, option_map, sym, ap}
use Rattle.c_exprs.specs.Env.{find}
use Rattle.c_exprs.specs.View.{scope, local}
use Rattle.c_exprs.proofs.Maps.{has_it, lacks_it}
use Rattle.c_exprs.proofs.names.find_local.Goals as goal

pub returns-in-Some-find : goal.returns-in-Some-find
returns-in-Some-find c =
    let h : find c.args.name.now (scope c.in-Some.scope.now) ≡ Some (local c.in-Some-find.local.now) = sym c.find.ensures.found ∙ ap (option_map (λ l. local l.now)) c.in-Some-find.is in
    record { found = sym (has_it c.args.name.now c.out.rest.now c.in-Some.around.now c.in-Some.scope.now c.in-Some.ensures.cases.0 (local c.in-Some-find.local.now) h) ∙ c.out.invariant }

pub out-preserved : goal.out-preserved
out-preserved c =
    let none : c.find.result ≡ None = search rules in
    let h : find c.args.name.now (scope c.in-Some.scope.now) ≡ None = sym c.find.ensures.found ∙ ap (option_map (λ l. local l.now)) none in
    lacks_it c.args.name.now c.out.rest.now c.in-Some.around.now c.in-Some.scope.now c.in-Some.ensures.cases.0 h ∙ c.out.invariant
