use Rattle.cycle_bound.proofs.Telling.{one_bound}
use Rattle.cycle_bound.proofs.laws.functions_have_one_bound.Goals as goal

pub returns : goal.returns
returns c = one_bound
