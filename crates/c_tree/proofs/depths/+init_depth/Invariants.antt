use Rattle.std.proofs.Common.{◌≡◌, ◌+◌, drop, map, max}
use Rattle.c_tree.specs.View.{init, inits}
use Rattle.c_tree.specs.Depth.{init_depth, inits_depth}
use Rattle.c_tree.proofs.depths.+init_depth.Given as goal

abbrev pub invariant-loop-a : goal.invariant-loop-a
invariant-loop-a l = max l.deepest (inits_depth (inits (map init (drop l.a-index l.a-items)))) + 1 ≡ init_depth (init l.i)
