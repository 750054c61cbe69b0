use Rattle.build_core.proofs.Projects.{source_is_text}
use Rattle.build_core.specs.declared.checked.Checked.{Checked}
use Rattle.build_core.specs.Reached.{IsReadToCheck}
use Rattle.build_core.proofs.Failing.{check_fails, project_fails}
use Rattle.build_core.proofs.Fronting.{front_told, front_refused, front_accepts, front_rejects, front_kinds}
use Rattle.build_core.proofs.fronts.front.Goals as goal

pub read_source-requires : goal.read_source-requires
read_source-requires g c = source_is_text c.args.project.now c.in-Ok.parts c.in-Ok.ensures.found

pub returns-in-Ok-clause-told : goal.returns-in-Ok-clause-told
returns-in-Ok-clause-told g c = front_told c.args.project.now (g.F.Reads.held c.args.files.now) c.in-Ok.parts c.read_source.result c.in-Ok.ensures.found c.read_source.ensures.told

pub returns-in-Err-clause-told : goal.returns-in-Err-clause-told
returns-in-Err-clause-told g c = front_refused c.args.project.now (g.F.Reads.held c.args.files.now) c.in-Err.refusal c.in-Err.ensures.told

pub returns-in-Ok-clause-accepts : goal.returns-in-Ok-clause-accepts
returns-in-Ok-clause-accepts g c = front_accepts c.args.project.now (g.F.Reads.held c.args.files.now) c.in-Ok.parts c.read_source.result c.in-Ok.ensures.found c.read_source.ensures.accepts

pub returns-in-Err-clause-accepts : goal.returns-in-Err-clause-accepts
returns-in-Err-clause-accepts g c = front_rejects c.args.project.now (g.F.Reads.held c.args.files.now) c.in-Err.refusal c.in-Err.ensures.told

pub returns-in-Ok-clause-kinds : goal.returns-in-Ok-clause-kinds
returns-in-Ok-clause-kinds g c = front_kinds c.args.project.now c.in-Ok.parts c.read_source.result c.in-Ok.ensures.found c.read_source.ensures.kinds

pub returns-in-Ok-clause-reached : goal.returns-in-Ok-clause-reached
returns-in-Ok-clause-reached g c = check_fails c.args.project.now c.in-Ok.parts c.in-Ok.ensures.found (g.F.Reads.held c.args.files.now) c.read_source.result c.read_source.ensures.reached

pub returns-in-Err-clause-reached : goal.returns-in-Err-clause-reached
returns-in-Err-clause-reached g c = project_fails c.args.project.now Checked (λ m. IsReadToCheck m c.args.project.now) (g.F.Reads.held c.args.files.now) c.in-Err.refusal c.in-Err.ensures.content
