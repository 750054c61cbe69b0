use Rattle.v32_console.proofs.Histories.{history, run_of_history, operations_go_on, moments}
use Rattle.v32_console.proofs.laws.histories_are_of_the_run.Goals as goal

pub returns : goal.returns
returns c = record { history = history; operations = run_of_history; next_one = operations_go_on; moments = moments }
