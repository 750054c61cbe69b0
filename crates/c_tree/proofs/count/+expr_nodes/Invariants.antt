use Rattle.std.proofs.Common.{◌≡◌, ◌+◌, drop, map}
use Rattle.c_tree.specs.View.{expr, exprs}
use Rattle.c_tree.specs.Count.{expr_nodes, exprs_nodes}
use Rattle.c_tree.proofs.count.+expr_nodes.Given as goal

abbrev pub invariant-loop-a : goal.invariant-loop-a
invariant-loop-a l = l.n + exprs_nodes (exprs (map expr (drop l.a-index l.a-items))) ≡ expr_nodes (expr l.e)
