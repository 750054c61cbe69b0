use Rattle.build_core.proofs.Fronting.{check_told, check_refuses}
use Rattle.build_core.proofs.checking.check_sources.Goals as goal

pub returns-in-Ok-clause-told : goal.returns-in-Ok-clause-told
returns-in-Ok-clause-told g c = check_told c.args.project.now (g.F.Reads.held c.args.files.now) c.in-Ok.checked c.in-Ok.ensures.told

pub returns-in-Err-clause-accepts : goal.returns-in-Err-clause-accepts
returns-in-Err-clause-accepts g c = check_refuses c.args.project.now (g.F.Reads.held c.args.files.now) c.in-Err.refusal c.in-Err.ensures.accepts
