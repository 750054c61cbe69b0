use Rattle.std.proofs.Common.{◌≡◌, drop, map, max}
use Rattle.c_tree.specs.View.{item, unit}
use Rattle.c_tree.specs.Depth.{unit_depth}
use Rattle.c_tree.proofs.depths.depth.Given as goal

abbrev pub invariant-loop-i : goal.invariant-loop-i
invariant-loop-i l = max l.deepest (unit_depth (map item (drop l.i-index l.i-items))) ≡ unit_depth (unit l.u)
