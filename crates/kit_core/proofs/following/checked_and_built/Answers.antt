use Rattle.std.specs.Prelude.{Err}
use Rattle.build_core.specs.Reached.{IsReadToBuild}
use Rattle.build_core.proofs.InOrder.{built_reached, built_told, unchecked_told}
use Rattle.kit_core.proofs.Followed.{watched_reached}
use Rattle.kit_core.proofs.following.checked_and_built.Goals as goal

pub returns-in-Err-build_from-clause-told : goal.returns-in-Err-build_from-clause-told
returns-in-Err-build_from-clause-told g c =
    built_told c.args.text.now c.in-Ok.checked (Err c.in-Err-build_from.refusal) (g.F.Reads.held c.args.files.now) (g.F.Reads.held c.front.new.files) c.in-Ok.ensures.told c.in-Ok.ensures.held c.in-Err-build_from.ensures.told

pub returns-in-Err-build_from-clause-reached : goal.returns-in-Err-build_from-clause-reached
returns-in-Err-build_from-clause-reached g c =
    watched_reached (λ m. IsReadToBuild m c.args.text.now) (g.F.Reads.held c.args.files.now) c.in-Err-build_from.refusal
    (built_reached c.args.text.now c.in-Ok.checked (g.F.Reads.held c.args.files.now) (g.F.Reads.held c.front.new.files) (Err c.in-Err-build_from.refusal) c.in-Ok.ensures.told c.in-Ok.ensures.held c.in-Err-build_from.ensures.reached)

pub returns-in-Err-clause-told : goal.returns-in-Err-clause-told
returns-in-Err-clause-told g c = unchecked_told c.args.text.now c.in-Err.refusal (g.F.Reads.held c.args.files.now) c.in-Err.ensures.told
