use Rattle.std.proofs.Common.{◌+◌}
use Rattle.assembler.specs.Faults.{unknown_from}
use Rattle.assembler.proofs.Walking.{unknown_here}
use Rattle.assembler.proofs.naming.first_unknown.Goals as goal

pub returns-then-not-is_known : goal.returns-then-not-is_known
returns-then-not-is_known c = unknown_here _ _ _ (c.each.number + 1) c.args.labels.now (unknown_from 1 c.args.labels.now c.args.items.now) c.in-Some.ensures.cases.0 c.if-not-is_known.ensures c.each.invariant.unknown
