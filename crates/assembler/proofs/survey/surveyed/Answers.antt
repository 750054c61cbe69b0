use Rattle.std.proofs.Common.{◌+◌, arith}
use Rattle.assembler.proofs.Walking.{collect_on, collect_done, twice_on, twice_done}
use Rattle.assembler.proofs.survey.surveyed.Goals as goal

pub each-preserved : goal.each-preserved
each-preserved c = record {
  number = omega (arith, c.in-Some.ensures.cases.1, c.each.invariant.number);
  address = omega (arith, c.item_size-address.ensures.range, c.each.invariant.address);
  labels = collect_on _ _ c.in-Some.item.now c.each.address c.item_size-address.result c.each.survey.labels c.take.new.self.labels _ c.in-Some.ensures.cases.0 c.item_size-address.ensures.value c.in_ok-take.ensures.labels c.each.invariant.labels;
  twice = twice_on _ _ c.in-Some.item.now (c.each.number + 1) c.each.address c.each.survey.labels c.take.new.self.labels _ c.each.survey.twice c.take.new.self.twice c.in-Some.ensures.cases.0 c.in_ok-take.ensures.labels c.in_ok-take.ensures.twice c.each.invariant.twice;
}

pub returns-clause-labels : goal.returns-clause-labels
returns-clause-labels c = collect_done _ c.each.address _ _ c.in_default.ensures.cases c.each.invariant.labels

pub returns-clause-twice : goal.returns-clause-twice
returns-clause-twice c = twice_done _ _ _ c.each.survey.twice _ c.in_default.ensures.cases c.each.invariant.twice
