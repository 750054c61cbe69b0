use Rattle.std.proofs.Common.{rules, ◌≡◌}
use Rattle.std.specs.Prelude.{IfErr}
use Rattle.kit_base.specs.Effects.{written_file}
use Rattle.kit_base.specs.declared.failure.Failure.TheVariants as failures
use Rattle.gen_source.specs.Source.{project_text, source_text}
use Rattle.kit_tools.proofs.Cutting.{not_begun_if}
use Rattle.kit_words.specs.Forms.{source_name}
use Rattle.kit_core.proofs.generating.write_sources.Goals as goal

pub returns-in_err-source-clause-err : goal.returns-in_err-source-clause-err
returns-in_err-source-clause-err g c =
    let memory : IfErr c.from_residual.result (λ e. e ≡ failures.Memory) = search rules in
    not_begun_if c.from_residual.result c.args.project.now project_text (written_file source_name (source_text c.args.functions)) _ memory

pub returns-in_err-project_name-clause-err : goal.returns-in_err-project_name-clause-err
returns-in_err-project_name-clause-err g c =
    let memory : IfErr c.from_residual-in_err-project_name.result (λ e. e ≡ failures.Memory) = search rules in
    not_begun_if c.from_residual-in_err-project_name.result c.args.project.now project_text (written_file source_name (source_text c.args.functions)) _ memory
