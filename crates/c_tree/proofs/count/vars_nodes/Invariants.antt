use Rattle.std.proofs.Common.{◌≡◌, ◌+◌, drop, map}
use Rattle.c_tree.specs.View.{var}
use Rattle.c_tree.specs.Count.{vars_nodes}
use Rattle.c_tree.proofs.count.vars_nodes.Given as goal

abbrev pub invariant-loop-v : goal.invariant-loop-v
invariant-loop-v l = l.n + vars_nodes (map var (drop l.v-index l.vs)) ≡ vars_nodes (map var l.vs)
