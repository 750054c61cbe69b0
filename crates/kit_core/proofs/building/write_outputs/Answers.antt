use Rattle.std.proofs.Common.{rules, ◌≡◌}
use Rattle.std.specs.Prelude.{IfErr}
use Rattle.kit_base.specs.Effects.{written_file}
use Rattle.kit_base.specs.declared.failure.Failure.TheVariants as failures
use Rattle.project_text.specs.MapText.{map_text}
use Rattle.kit_tools.proofs.Cutting.{not_begun_if}
use Rattle.kit_core.proofs.building.write_outputs.Goals as goal

pub returns-in_err-outputs-clause-err : goal.returns-in_err-outputs-clause-err
returns-in_err-outputs-clause-err g c =
    let memory : IfErr c.from_residual.result (λ e. e ≡ failures.Memory) = search rules in
    not_begun_if c.from_residual.result c.args.cart.now c.args.built.now.cart (written_file c.args.map.now (map_text c.args.built.now.map)) _ memory
