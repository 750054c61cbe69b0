use Rattle.build_core.proofs.Either.{one_accepted, accepted_or_rejected}
use Rattle.build_core.proofs.laws.projects_are_accepted_or_rejected.Goals as goal

pub returns-clause-either : goal.returns-clause-either
returns-clause-either c = accepted_or_rejected

pub returns-clause-one : goal.returns-clause-one
returns-clause-one c = one_accepted
