use Rattle.output_laws.proofs.Outputs.{outputs_whole, outputs_fronts}
use Rattle.output_laws.proofs.laws.outputs_are_their_bytes.Goals as goal

pub returns : goal.returns
returns c = record { whole = outputs_whole; fronts = outputs_fronts }
