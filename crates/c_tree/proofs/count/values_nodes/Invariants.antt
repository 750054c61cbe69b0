use Rattle.std.proofs.Common.{◌≡◌, ◌+◌, drop, map, option_map}
use Rattle.c_tree.specs.View.{expr}
use Rattle.c_tree.specs.Count.{values_nodes}
use Rattle.c_tree.proofs.count.values_nodes.Given as goal

abbrev pub invariant-loop-v : goal.invariant-loop-v
invariant-loop-v l = l.n + values_nodes (map (λ v. (v.0, option_map expr v.1)) (drop l.v-index l.values)) ≡ values_nodes (map (λ v. (v.0, option_map expr v.1)) l.values)
