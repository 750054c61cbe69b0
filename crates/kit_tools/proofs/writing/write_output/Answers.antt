use Rattle.std.proofs.Common.{rules, ◌≡◌, []}
use Rattle.std.specs.Prelude.{IfErr}
use Rattle.kit_base.specs.declared.failure.Failure.TheVariants as failures
use Rattle.kit_tools.proofs.Cutting.{not_begun_if}
use Rattle.kit_tools.proofs.writing.write_output.Goals as goal

pub returns-in_err-own-clause-err : goal.returns-in_err-own-clause-err
returns-in_err-own-clause-err g c =
    let memory : IfErr c.from_residual.result (λ e. e ≡ failures.Memory) = search rules in
    not_begun_if c.from_residual.result c.args.name.now c.args.bytes.now [] _ memory
