use Rattle.run_laws.proofs.Backward.{meant, decodable}
use Rattle.run_laws.proofs.laws.steps_are_meant.Goals as goal

pub returns : goal.returns
returns c = record { meant = meant; decodable = decodable }
