use Rattle.std.proofs.Common.{rules, ◌≡◌, ◌++◌}
use Rattle.std.specs.Prelude.{IfErr}
use Rattle.kit_base.specs.Effects.{written_file}
use Rattle.kit_base.specs.declared.failure.Failure.TheVariants as failures
use Rattle.asm_items.specs.Written.{written}
use Rattle.project_text.specs.MapText.{map_text}
use Rattle.kit_tools.specs.Carrying.{IsCut}
use Rattle.kit_tools.proofs.Cutting.{in_first_if, in_second_if, not_begun_if}
use Rattle.kit_core.specs.Due.{outputs_of}
use Rattle.kit_core.proofs.bounding.write_three.Goals as goal

pub returns-in_err-outputs-clause-err : goal.returns-in_err-outputs-clause-err
returns-in_err-outputs-clause-err g c =
    let memory : IfErr c.from_residual.result (λ e. e ≡ failures.Memory) = search rules in
    not_begun_if c.from_residual.result c.args.cart.now c.args.built.now.cart (written_file c.args.map.now (map_text c.args.built.now.map) ++ written_file c.args.text.now (written c.args.built.now.items)) _ memory

pub returns-in_err-text_name-clause-err : goal.returns-in_err-text_name-clause-err
returns-in_err-text_name-clause-err g c =
    let memory : IfErr c.from_residual-in_err-text_name.result (λ e. e ≡ failures.Memory) = search rules in
    not_begun_if c.from_residual-in_err-text_name.result c.args.cart.now c.args.built.now.cart (written_file c.args.map.now (map_text c.args.built.now.map) ++ written_file c.args.text.now (written c.args.built.now.items)) _ memory

pub returns-in_err-assembly-clause-err : goal.returns-in_err-assembly-clause-err
returns-in_err-assembly-clause-err g c =
    let memory : IfErr c.from_residual-in_err-assembly.result (λ e. e ≡ failures.Memory) = search rules in
    not_begun_if c.from_residual-in_err-assembly.result c.args.cart.now c.args.built.now.cart (written_file c.args.map.now (map_text c.args.built.now.map) ++ written_file c.args.text.now (written c.args.built.now.items)) _ memory

pub returns-in_err-write_made-clause-err : goal.returns-in_err-write_made-clause-err
returns-in_err-write_made-clause-err g c =
    let cut : IfErr c.from_residual-in_err-write_made.result (λ e. IsCut e (outputs_of c.args.cart.now c.args.map.now c.args.built.now) (g.F.Reads.held c.args.files.now) (g.F.Reads.held c.write_made.new.files)) = search rules in
    in_first_if c.from_residual-in_err-write_made.result (outputs_of c.args.cart.now c.args.map.now c.args.built.now) (written_file c.args.text.now (written c.args.built.now.items)) _ _ cut

pub returns-clause-err : goal.returns-clause-err
returns-clause-err g c =
    let cut : IfErr c.write_named.result (λ e. IsCut e (written_file c.args.text.now (written c.args.built.now.items)) (g.F.Reads.held c.write_made.new.files) (g.F.Reads.held c.write_named.new.files)) = search rules in
    in_second_if c.write_named.result (outputs_of c.args.cart.now c.args.map.now c.args.built.now) (written_file c.args.text.now (written c.args.built.now.items)) _
    (g.F.Reads.held c.write_made.new.files) _ (search rules) cut
