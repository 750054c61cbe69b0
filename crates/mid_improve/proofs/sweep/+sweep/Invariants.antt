use Rattle.std.proofs.Common.{◌≡◌, ℕ, ◌+◌, ◌-◌, ◌<◌, ◌≤◌, map, length, drop, get_or}
use Rattle.mid_code.specs.declared.node.Node.{Node}
use Rattle.mid_code.specs.Functions.{node, listed}
use Rattle.mid_live.specs.Sets.{on}
use Rattle.mid_live.specs.Labels.{labels_of}
use Rattle.mid_live.specs.Heads.{list_loops, NodeTold}
use Rattle.mid_improve.specs.inner.SweepListed.{list_left, list_swept}
use Rattle.mid_improve.proofs.sweep.+sweep.Given as goal

abbrev pub invariant-sweep_nodes-loop-i : goal.invariant-sweep_nodes-loop-i
invariant-sweep_nodes-loop-i l = record {
  bound : l.i ≤ l.from;
  within : l.from ≤ length l.ns;
  same : length l.ns ≡ length l.initial.ns;
  unvisited : (k : ℕ) (d : Node ℕ) → k < l.i → get_or l.ns k d ≡ get_or l.initial.ns k d;
  len : length l.s ≡ length l.initial.s;
  told : (d : Node ℕ) → 0 < l.i → NodeTold (length l.s) l.by.heads.now l.next (node (get_or l.ns (l.i - 1) d));
  next : l.next ≡ list_loops (listed (map node (drop l.i l.initial.ns))) + l.initial.next;
  is : (y : ℕ) → y < l.by.count → on l.s y ≡ list_left l.by.count (λ y. labels_of y l.m) (listed (map node (drop l.i l.initial.ns))) (on l.initial.s) y;
  nodes : map node (drop l.from l.ns) ≡ list_swept l.by.count (λ y. labels_of y l.m) (listed (map node (drop l.i l.initial.ns))) (on l.initial.s);
}

abbrev pub decreases-sweep_nodes-loop-i : goal.decreases-sweep_nodes-loop-i
decreases-sweep_nodes-loop-i l = l.i
