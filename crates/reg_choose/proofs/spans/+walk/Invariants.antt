use Rattle.std.proofs.Common.{◌≡◌, ℕ, ◌+◌, ◌<◌, ◌≤◌, length, drop, map, false}
use Rattle.mid_code.specs.Live.{is_live}
use Rattle.mid_code.specs.Functions.{nodes, node, listed}
use Rattle.mid_code.specs.Spans.{places}
use Rattle.mid_live.specs.Sets.{on, room}
use Rattle.mid_live.specs.Labels.{labels_of}
use Rattle.mid_live.specs.Heads.{list_loops}
use Rattle.reg_choose.specs.inner.Sparse.{sparse}
use Rattle.reg_choose.specs.inner.Seen.{seen}
use Rattle.reg_choose.proofs.spans.+walk.Given as goal

abbrev pub invariant-walk_nodes-loop-i : goal.invariant-walk_nodes-loop-i
invariant-walk_nodes-loop-i l = record {
  bound : l.i ≤ length l.ns;
  len : length l.sets.live ≡ length l.initial.sets.live;
  trails_len : length l.trails ≡ length l.initial.trails;
  crossed_len : length l.sets.crossed ≡ length l.initial.sets.crossed;
  live : (y : ℕ) → y < room l.sets.live → on l.sets.live y ≡ is_live y (labels_of y l.m) (nodes (drop l.i l.ns)) (on l.initial.sets.live y);
  next : l.next ≡ list_loops (listed (map node (drop l.i l.ns))) + l.initial.next;
  place : l.first + places (nodes (drop l.i l.ns)) ≡ l.place;
  trails : (y : ℕ) → y < length l.trails → seen l.trails l.sets.crossed y ≡ sparse y (labels_of y l.m) (nodes (drop l.i l.ns)) (on l.initial.sets.live y) false l.first (seen l.initial.trails l.initial.sets.crossed y);
}

abbrev pub decreases-walk_nodes-loop-i : goal.decreases-walk_nodes-loop-i
decreases-walk_nodes-loop-i l = l.i
