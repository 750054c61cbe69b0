use Rattle.std.proofs.Common.{◌≡◌, ℕ, ◌<◌, ◌≤◌, ◌+◌, length, drop, map}
use Rattle.mid_code.specs.Live.{is_live}
use Rattle.mid_code.specs.Functions.{nodes, node, listed}
use Rattle.mid_live.specs.Sets.{on, room}
use Rattle.mid_live.specs.Labels.{labels_of}
use Rattle.mid_live.specs.Heads.{list_loops}
use Rattle.mid_live.proofs.walk.+walk.Given as goal

abbrev pub invariant-before_nodes-loop-i : goal.invariant-before_nodes-loop-i
invariant-before_nodes-loop-i l = (l.i ≤ length l.ns) × (length l.s ≡ length l.initial.s) × (l.after ≡ list_loops (listed (map node (drop l.i l.ns))) + l.next) × ((y : ℕ) → y < room l.s → on l.s y ≡ is_live y (labels_of y l.m) (nodes (drop l.i l.ns)) (on l.initial.s y))

abbrev pub decreases-before_nodes-loop-i : goal.decreases-before_nodes-loop-i
decreases-before_nodes-loop-i l = l.i
