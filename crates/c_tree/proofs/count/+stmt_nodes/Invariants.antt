use Rattle.std.proofs.Common.{◌≡◌, ◌+◌, drop, map}
use Rattle.c_tree.specs.View.{stmt, stmts, arm, arms}
use Rattle.c_tree.specs.Count.{stmt_nodes, stmts_nodes, arms_nodes}
use Rattle.c_tree.proofs.count.+stmt_nodes.Given as goal

abbrev pub invariant-stmt_nodes-loop-s : goal.invariant-stmt_nodes-loop-s
invariant-stmt_nodes-loop-s l = l.n + stmts_nodes (stmts (map stmt (drop l.s-index l.s-items))) ≡ stmt_nodes (stmt l.fn.s)

abbrev pub invariant-stmt_nodes-loop-a : goal.invariant-stmt_nodes-loop-a
invariant-stmt_nodes-loop-a l = l.n + arms_nodes (arms (map arm (drop l.a-index l.a-items))) ≡ stmt_nodes (stmt l.s)
