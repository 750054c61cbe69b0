use Rattle.std.proofs.Common.{◌≡◌, ◌+◌, drop}
use Rattle.mid_code.specs.Functions.{nodes}
use Rattle.mid_code.specs.Spans.{places}
use Rattle.reg_choose.proofs.gather.+count.Given as goal

abbrev pub invariant-behind_nodes-loop-n : goal.invariant-behind_nodes-loop-n
invariant-behind_nodes-loop-n l = l.place + places (nodes (drop l.n-index l.ns)) ≡ l.first + places (nodes l.ns)
