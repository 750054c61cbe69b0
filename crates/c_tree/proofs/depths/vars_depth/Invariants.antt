use Rattle.std.proofs.Common.{◌≡◌, drop, map, max}
use Rattle.c_tree.specs.View.{var}
use Rattle.c_tree.specs.Depth.{vars_depth}
use Rattle.c_tree.proofs.depths.vars_depth.Given as goal

abbrev pub invariant-loop-v : goal.invariant-loop-v
invariant-loop-v l = max l.deepest (vars_depth (map var (drop l.v-index l.vs))) ≡ vars_depth (map var l.vs)
