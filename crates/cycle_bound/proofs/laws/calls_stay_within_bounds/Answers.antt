use Rattle.cycle_bound.proofs.Staying.{stay_within}
use Rattle.cycle_bound.proofs.laws.calls_stay_within_bounds.Goals as goal

pub returns : goal.returns
returns c = λ items words labels ok readable placed few times globals meaning agrees names bs exact. stay_within items words labels ok readable placed few times globals meaning agrees names bs exact
