use Rattle.std.proofs.Common.{◌≡◌, drop, map, max, option_map}
use Rattle.c_tree.specs.View.{expr}
use Rattle.c_tree.specs.Depth.{values_depth}
use Rattle.c_tree.proofs.depths.values_depth.Given as goal

abbrev pub invariant-loop-v : goal.invariant-loop-v
invariant-loop-v l = max l.deepest (values_depth (map (λ v. (v.0, option_map expr v.1)) (drop l.v-index l.values))) ≡ values_depth (map (λ v. (v.0, option_map expr v.1)) l.values)
