use Rattle.kit_core.proofs.Leaving.{runs_left}
use Rattle.kit_core.proofs.laws.runs_leave_fronts.Goals as goal

pub returns : goal.returns
returns c = runs_left
