use Rattle.std.proofs.Common.{◌≡◌, ◌+◌, drop, map, max}
use Rattle.c_tree.specs.View.{stmt, stmts, arm, arms}
use Rattle.c_tree.specs.Depth.{stmt_depth, stmts_depth, arms_depth}
use Rattle.c_tree.proofs.depths.+stmt_depth.Given as goal

abbrev pub invariant-stmt_depth-loop-s : goal.invariant-stmt_depth-loop-s
invariant-stmt_depth-loop-s l = max l.deepest (stmts_depth (stmts (map stmt (drop l.s-index l.s-items)))) + 1 ≡ stmt_depth (stmt l.fn.s)

abbrev pub invariant-stmt_depth-loop-a : goal.invariant-stmt_depth-loop-a
invariant-stmt_depth-loop-a l = max l.deepest (arms_depth (arms (map arm (drop l.a-index l.a-items)))) + 1 ≡ stmt_depth (stmt l.s)
