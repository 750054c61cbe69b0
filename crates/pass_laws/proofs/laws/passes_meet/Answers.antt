use Rattle.pass_laws.proofs.Together.{meet}
use Rattle.pass_laws.proofs.laws.passes_meet.Goals as goal

pub returns : goal.returns
returns c = meet
