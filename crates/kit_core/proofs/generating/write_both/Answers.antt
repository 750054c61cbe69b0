use Rattle.std.proofs.Common.{rules}
use Rattle.std.specs.Prelude.{IfErr}
use Rattle.kit_base.specs.Effects.{written_file}
use Rattle.gen_source.specs.Source.{project_text}
use Rattle.kit_tools.specs.Carrying.{IsCut}
use Rattle.kit_tools.proofs.Cutting.{in_first_if}
use Rattle.kit_words.specs.Forms.{source_name}
use Rattle.kit_core.proofs.generating.write_both.Goals as goal

pub returns-in_err-write_named-clause-err : goal.returns-in_err-write_named-clause-err
returns-in_err-write_named-clause-err g c =
    let cut : IfErr c.from_residual.result (λ e. IsCut e (written_file c.args.project.now project_text) (g.F.Reads.held c.args.files.now) (g.F.Reads.held c.write_named.new.files)) = search rules in
    in_first_if c.from_residual.result (written_file c.args.project.now project_text) (written_file source_name c.args.source.now) _ _ cut
