use Rattle.v32_isa.proofs.Steps.{nested_fewer}
use Rattle.v32_isa.proofs.laws.nested_runs_are_closed.Goals as goal

pub returns : goal.returns
returns c = nested_fewer
