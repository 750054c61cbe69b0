use Rattle.std.proofs.Common.{◌≡◌, ◌+◌, drop, map}
use Rattle.c_tree.specs.View.{item, unit}
use Rattle.c_tree.specs.Count.{unit_nodes}
use Rattle.c_tree.proofs.count.nodes.Given as goal

abbrev pub invariant-loop-i : goal.invariant-loop-i
invariant-loop-i l = l.n + unit_nodes (map item (drop l.i-index l.i-items)) ≡ unit_nodes (unit l.u)
