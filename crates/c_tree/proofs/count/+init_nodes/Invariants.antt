use Rattle.std.proofs.Common.{◌≡◌, ◌+◌, drop, map}
use Rattle.c_tree.specs.View.{init, inits}
use Rattle.c_tree.specs.Count.{init_nodes, inits_nodes}
use Rattle.c_tree.proofs.count.+init_nodes.Given as goal

abbrev pub invariant-loop-a : goal.invariant-loop-a
invariant-loop-a l = l.n + inits_nodes (inits (map init (drop l.a-index l.a-items))) ≡ init_nodes (init l.i)
