use Rattle.build_core.proofs.Refused.{built_or_refused}
use Rattle.build_core.proofs.laws.builds_are_due_or_refused.Goals as goal

pub returns : goal.returns
returns c = record { either = built_or_refused }
