use Rattle.std.proofs.Common.{rules, ltb}
use Rattle.std.proofs.lemmas.List.Sorted.{IsPartitionPoint-from_clause, IsPartitionedBy-ltb}
use Rattle.reg_choose.proofs.Planned.{point_below}
use Rattle.reg_choose.proofs.plan.rank.Goals as goal

pub returns-clause-is : goal.returns-clause-is
returns-clause-is c = point_below c.args.sorted.now c.args.slot c.partition_point.result c.partition_point.ensures.bound (IsPartitionPoint-from_clause (λ y. ltb y c.args.slot) c.args.sorted.now c.partition_point.result c.partition_point.ensures.partitioned (IsPartitionedBy-ltb (λ y. y) c.args.sorted.now c.args.slot c.requires.rises) (λ a r q k. search rules))
