use Rattle.cycle_bound.proofs.Forwards.{has_number}
use Rattle.cycle_bound.proofs.laws.items_that_go_on_have_a_number.Goals as goal

pub returns : goal.returns
returns c = λ items before own rest ok e end g. has_number items ok rest own before e end g
