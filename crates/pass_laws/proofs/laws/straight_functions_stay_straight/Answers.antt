use Rattle.pass_laws.proofs.Together.{stays}
use Rattle.pass_laws.proofs.laws.straight_functions_stay_straight.Goals as goal

pub returns : goal.returns
returns c = stays
