use Rattle.v32_console.proofs.Frames.{runs_are_of_instructions}
use Rattle.v32_console.proofs.laws.runs_are_of_instructions.Goals as goal

pub returns : goal.returns
returns c = record { runs = runs_are_of_instructions }
