use Rattle.std.proofs.Common.{rules}
use Rattle.std.specs.Prelude.{IfErr}
use Rattle.kit_base.specs.Effects.{written_file}
use Rattle.project_text.specs.MapText.{map_text}
use Rattle.kit_tools.specs.Carrying.{IsCut}
use Rattle.kit_tools.proofs.Cutting.{in_first_if, in_second_if}
use Rattle.kit_core.proofs.building.write_made.Goals as goal

pub returns-in_err-write_named-clause-err : goal.returns-in_err-write_named-clause-err
returns-in_err-write_named-clause-err g c =
    let cut : IfErr c.from_residual.result (λ e. IsCut e (written_file c.args.cart.now c.args.built.now.cart) (g.F.Reads.held c.args.files.now) (g.F.Reads.held c.write_named.new.files)) = search rules in
    in_first_if c.from_residual.result (written_file c.args.cart.now c.args.built.now.cart) (written_file c.args.map.now (map_text c.args.built.now.map)) _ _ cut

pub returns-clause-err : goal.returns-clause-err
returns-clause-err g c =
    let cut : IfErr c.write_named-2.result (λ e. IsCut e (written_file c.args.map.now (map_text c.args.built.now.map)) (g.F.Reads.held c.write_named.new.files) (g.F.Reads.held c.write_named-2.new.files)) = search rules in
    in_second_if c.write_named-2.result (written_file c.args.cart.now c.args.built.now.cart) (written_file c.args.map.now (map_text c.args.built.now.map)) _
    (g.F.Reads.held c.write_named.new.files) _ (search rules) cut
