use Rattle.build_core.proofs.InOrder.{built_told, built_mid, built_reached, built_kinds, built_causes, unchecked_told, unchecked_reached, unchecked_kinds}
use Rattle.build_core.proofs.building.build.Goals as goal

pub returns-in-Ok-clause-told : goal.returns-in-Ok-clause-told
returns-in-Ok-clause-told g c =
    built_told c.args.project.now c.in-Ok.checked c.build_from.result (g.F.Reads.held c.args.files.now) (g.F.Reads.held c.front.new.files) c.in-Ok.ensures.told c.in-Ok.ensures.held c.build_from.ensures.told

pub returns-in-Ok-clause-mid : goal.returns-in-Ok-clause-mid
returns-in-Ok-clause-mid g c =
    built_mid c.args.project.now c.in-Ok.checked c.build_from.result (g.F.Reads.held c.args.files.now) (g.F.Reads.held c.front.new.files) c.in-Ok.ensures.told c.in-Ok.ensures.held c.build_from.ensures.mid

pub returns-in-Ok-clause-reached : goal.returns-in-Ok-clause-reached
returns-in-Ok-clause-reached g c =
    built_reached c.args.project.now c.in-Ok.checked (g.F.Reads.held c.args.files.now) (g.F.Reads.held c.front.new.files) c.build_from.result c.in-Ok.ensures.told c.in-Ok.ensures.held c.build_from.ensures.reached

pub returns-in-Ok-clause-kinds : goal.returns-in-Ok-clause-kinds
returns-in-Ok-clause-kinds g c = built_kinds c.args.project.now c.build_from.result c.build_from.ensures.kinds

pub returns-in-Ok-clause-causes : goal.returns-in-Ok-clause-causes
returns-in-Ok-clause-causes g c = built_causes c.args.project.now c.in-Ok.checked c.build_from.result _ _ _ c.in-Ok.ensures.causes c.build_from.ensures.causes

pub returns-in-Err-clause-told : goal.returns-in-Err-clause-told
returns-in-Err-clause-told g c = unchecked_told c.args.project.now c.in-Err.refusal (g.F.Reads.held c.args.files.now) c.in-Err.ensures.told

pub returns-in-Err-clause-reached : goal.returns-in-Err-clause-reached
returns-in-Err-clause-reached g c = unchecked_reached c.args.project.now (g.F.Reads.held c.args.files.now) c.in-Err.refusal c.in-Err.ensures.reached

pub returns-in-Err-clause-kinds : goal.returns-in-Err-clause-kinds
returns-in-Err-clause-kinds g c = unchecked_kinds c.args.project.now c.in-Err.refusal c.in-Err.ensures.kinds
