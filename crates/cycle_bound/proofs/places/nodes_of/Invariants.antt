use Rattle.std.proofs.Common.{◌≡◌, length, map, take}
use Rattle.cycle_bound.specs.inner.Places.{node_of, place_in}
use Rattle.cycle_bound.proofs.places.nodes_of.Given as goal

abbrev pub invariant-loop-item : goal.invariant-loop-item
invariant-loop-item l = l.nodes.items ≡ map (node_of (place_in l.labels (length l.items))) (take l.item-index l.items)
