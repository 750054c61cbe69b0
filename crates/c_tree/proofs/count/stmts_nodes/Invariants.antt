use Rattle.std.proofs.Common.{◌≡◌, ◌+◌, drop, map}
use Rattle.c_tree.specs.View.{stmt, stmts}
use Rattle.c_tree.specs.Count.{stmts_nodes}
use Rattle.c_tree.proofs.count.stmts_nodes.Given as goal

abbrev pub invariant-loop-s : goal.invariant-loop-s
invariant-loop-s l = l.n + stmts_nodes (stmts (map stmt (drop l.s-index l.body))) ≡ stmts_nodes (stmts (map stmt l.body))
