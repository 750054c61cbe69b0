use Rattle.cpu_core.proofs.Outcomes.{run_of_step}
use Rattle.cpu_core.proofs.laws.steps_make_runs.Goals as goal

pub returns : goal.returns
returns c = run_of_step
