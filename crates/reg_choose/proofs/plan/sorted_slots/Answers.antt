use Rattle.std.proofs.Common.{length, ap, ◌∙◌}
use Rattle.std.proofs.lemmas.List.Sorted.{IsNonDecreasingBy-from_sort, length_permutation}
use Rattle.reg_choose.specs.inner.Holding.{below}
use Rattle.reg_choose.proofs.Planned.{below_order}
use Rattle.reg_choose.proofs.plan.sorted_slots.Goals as goal

pub returns-clause-rises : goal.returns-clause-rises
returns-clause-rises c = IsNonDecreasingBy-from_sort (λ x. x) _ c.in_ok-sort.ensures.sorted

pub returns-clause-is : goal.returns-clause-is
returns-clause-is c = λ k. below_order k c.in_ok-found.found.items c.sort.new.self.items c.sort.ensures.permutation ∙ ap (below k) c.in_ok-found.ensures

pub returns-clause-len : goal.returns-clause-len
returns-clause-len c = length_permutation c.in_ok-found.found.items c.sort.new.self.items c.sort.ensures.permutation ∙ ap length c.in_ok-found.ensures
