use Rattle.std.proofs.Common.{rules, ◌≡◌, sym, subst}
use Rattle.std.specs.Prelude.{Ok, Err}
use Rattle.kit_core.specs.Generating.{functions_due}
use Rattle.kit_core.proofs.Generates.{GenCarries, behind_front, front_cut, without_number}
use Rattle.kit_core.proofs.generating.gen_command.Goals as goal

pub returns-in_err-functions-clause-told : goal.returns-in_err-functions-clause-told
returns-in_err-functions-clause-told g c =
    let is : c.from_residual.result ≡ Err c.in_err-functions.field-0.0 = search rules in
    subst (GenCarries c.args.number.now c.args.project.now c.args.cart.now c.args.map.now (g.F.Reads.held c.args.files.now) (g.F.Reads.held c.args.files.now)) (sym is)
    (without_number c.args.number.now c.args.project.now c.args.cart.now c.args.map.now c.in_err-functions.field-0.0 (g.F.Reads.held c.args.files.now) c.in_err-functions.ensures.given)

pub returns-in_err-write_sources-clause-told : goal.returns-in_err-write_sources-clause-told
returns-in_err-write_sources-clause-told g c =
    let is : c.from_residual-in_err-write_sources.result ≡ Err c.in_err-write_sources.field-0.0 = search rules in
    let number : functions_due c.args.number.now ≡ Ok c.in_ok-functions.functions = search rules in
    subst (GenCarries c.args.number.now c.args.project.now c.args.cart.now c.args.map.now (g.F.Reads.held c.args.files.now) (g.F.Reads.held c.write_sources.new.files)) (sym is)
    (front_cut c.args.number.now c.args.project.now c.args.cart.now c.args.map.now c.in_ok-functions.functions number c.in_err-write_sources.field-0.0
    (g.F.Reads.held c.args.files.now) (g.F.Reads.held c.write_sources.new.files) c.in_err-write_sources.ensures.err)

pub returns-clause-told : goal.returns-clause-told
returns-clause-told g c =
    let number : functions_due c.args.number.now ≡ Ok c.in_ok-functions.functions = search rules in
    behind_front c.args.number.now c.args.project.now c.args.cart.now c.args.map.now c.in_ok-functions.functions number c.build_made.result
    (g.F.Reads.held c.args.files.now) (g.F.Reads.held c.write_sources.new.files) (g.F.Reads.held c.build_made.new.files) c.in_ok-write_sources.ensures.ok c.build_made.ensures.told
