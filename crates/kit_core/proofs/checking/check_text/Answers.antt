use Rattle.std.proofs.Common.{rules, ◌≡◌}
use Rattle.kit_core.specs.Due.{unbuilt}
use Rattle.build_core.specs.Reached.{IsReadToCheck}
use Rattle.kit_core.proofs.Checks.{text_refused}
use Rattle.kit_core.proofs.Reached.{text_reached}
use Rattle.kit_core.proofs.Unbuilt.{text_causes}
use Rattle.kit_core.proofs.checking.check_text.Goals as goal

pub returns-clause-told : goal.returns-clause-told
returns-clause-told g c =
    let is : c.unbuilt.result ≡ unbuilt c.args.project.now c.in-Err.error = search rules in
    text_refused c.args.project.now c.args.text.now (g.F.Reads.held c.args.files.now) c.in-Err.error c.unbuilt.result is c.in-Err.ensures.told

pub returns-clause-reached : goal.returns-clause-reached
returns-clause-reached g c =
    let is : c.unbuilt.result ≡ unbuilt c.args.project.now c.in-Err.error = search rules in
    text_reached (λ m. IsReadToCheck m c.args.text.now) c.args.project.now (g.F.Reads.held c.args.files.now) c.in-Err.error c.unbuilt.result is c.in-Err.ensures.reached

pub returns-clause-causes : goal.returns-clause-causes
returns-clause-causes g c =
    let is : c.unbuilt.result ≡ unbuilt c.args.project.now c.in-Err.error = search rules in
    text_causes _ (Unit {0}) c.args.project.now (λ n. ⊥) ⊥ (λ n h. h) c.in-Err.error c.unbuilt.result _ _ is c.in-Err.ensures.causes
