use Rattle.std.proofs.Common.{◌≡◌, ◌+◌, drop, map, max}
use Rattle.c_tree.specs.View.{expr, exprs}
use Rattle.c_tree.specs.Depth.{expr_depth, exprs_depth}
use Rattle.c_tree.proofs.depths.+expr_depth.Given as goal

abbrev pub invariant-expr_depth-loop-a : goal.invariant-expr_depth-loop-a
invariant-expr_depth-loop-a l = max l.deepest (exprs_depth (exprs (map expr (drop l.a-index l.a-items)))) + 1 ≡ expr_depth (expr l.e)
