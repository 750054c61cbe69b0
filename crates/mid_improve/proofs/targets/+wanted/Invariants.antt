use Rattle.std.proofs.Common.{◌≡◌, ℕ, ◌+◌, ◌<◌, ◌≤◌, map, length, drop}
use Rattle.mid_code.specs.Live.{is_live}
use Rattle.mid_code.specs.Functions.{node, nodes, listed}
use Rattle.mid_live.specs.Sets.{on, room}
use Rattle.mid_live.specs.Labels.{labels_of}
use Rattle.mid_live.specs.Heads.{list_loops}
use Rattle.mid_improve.specs.inner.Wanted.{list_wanted}
use Rattle.mid_improve.proofs.targets.+wanted.Given as goal

abbrev pub invariant-walk_nodes-loop-i : goal.invariant-walk_nodes-loop-i
invariant-walk_nodes-loop-i l = record {
  bound : l.i ≤ length l.ns;
  len : length l.s ≡ length l.initial.s;
  next : l.next ≡ list_loops (listed (map node (drop l.i l.ns))) + l.initial.next;
  is : (y : ℕ) → y < room l.s → on l.s y ≡ is_live y (labels_of y l.m) (nodes (drop l.i l.ns)) (on l.initial.s y);
  wanted : l.fine ≡ list_wanted l.count (λ y. labels_of y l.m) (listed (map node (drop l.i l.ns))) (on l.initial.s);
}

abbrev pub decreases-walk_nodes-loop-i : goal.decreases-walk_nodes-loop-i
decreases-walk_nodes-loop-i l = l.i
