use Rattle.std.proofs.Common.{rules, ◌≡◌}
use Rattle.kit_core.specs.Due.{unbuilt}
use Rattle.build_core.specs.Reached.{IsReadToBuild}
use Rattle.kit_core.proofs.Builds.{text_refused}
use Rattle.kit_core.proofs.Reached.{text_reached}
use Rattle.build_core.specs.Causes.{CanBeTooLarge, IsCartridgeTooLarge}
use Rattle.kit_core.specs.declared.following.Watchable.{Watchable}
use Rattle.kit_core.proofs.Unbuilt.{text_causes}
use Rattle.kit_core.proofs.following.build_watchable.Goals as goal

pub returns-in_ok-name-in-Err-clause-told : goal.returns-in_ok-name-in-Err-clause-told
returns-in_ok-name-in-Err-clause-told g c =
    let is : c.unbuilt.result ≡ unbuilt c.args.project.now c.in-Err.error = search rules in
    text_refused c.args.project.now c.args.text.now (g.F.Reads.held c.args.files.now) c.in-Err.error c.unbuilt.result is c.in-Err.ensures.told

pub returns-in_ok-name-in-Err-clause-reached : goal.returns-in_ok-name-in-Err-clause-reached
returns-in_ok-name-in-Err-clause-reached g c =
    let is : c.unbuilt.result ≡ unbuilt c.args.project.now c.in-Err.error = search rules in
    text_reached (λ m. IsReadToBuild m c.args.text.now) c.args.project.now (g.F.Reads.held c.args.files.now) c.in-Err.error c.unbuilt.result is c.in-Err.ensures.reached

pub returns-in_ok-name-in-Err-clause-causes : goal.returns-in_ok-name-in-Err-clause-causes
returns-in_ok-name-in-Err-clause-causes g c =
    let is : c.unbuilt.result ≡ unbuilt c.args.project.now c.in-Err.error = search rules in
    text_causes Watchable Watchable c.args.project.now (IsCartridgeTooLarge c.args.text.now) (CanBeTooLarge c.args.text.now) (λ n h. h.1) c.in-Err.error c.unbuilt.result _ _ is c.in-Err.ensures.causes
