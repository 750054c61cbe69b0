use Rattle.std.proofs.Common.{◌≡◌, drop, map, max}
use Rattle.c_tree.specs.View.{stmt, stmts}
use Rattle.c_tree.specs.Depth.{stmts_depth}
use Rattle.c_tree.proofs.depths.stmts_depth.Given as goal

abbrev pub invariant-loop-s : goal.invariant-loop-s
invariant-loop-s l = max l.deepest (stmts_depth (stmts (map stmt (drop l.s-index l.body)))) ≡ stmts_depth (stmts (map stmt l.body))
