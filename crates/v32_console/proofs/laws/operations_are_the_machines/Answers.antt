use Rattle.v32_console.proofs.Operations.{machine_same}
use Rattle.v32_console.proofs.laws.operations_are_the_machines.Goals as goal

pub returns : goal.returns
returns c = record { machine = machine_same }
