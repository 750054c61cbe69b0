use Rattle.output_laws.proofs.Begun.{begun_fronts}
use Rattle.output_laws.proofs.Outputs.{outputs_files}
use Rattle.output_laws.proofs.laws.begun_effects_are_fronts.Goals as goal

pub returns : goal.returns
returns c = record { begun = begun_fronts; runs = outputs_files }
