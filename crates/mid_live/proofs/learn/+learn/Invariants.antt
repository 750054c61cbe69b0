use Rattle.std.proofs.Common.{◌≡◌, ◌+◌, ◌≤◌, length, drop, take, map}
use Rattle.mid_code.specs.Functions.{nodes, node, listed}
use Rattle.mid_live.specs.Heads.{list_loops, ListTold}
use Rattle.mid_live.specs.inner.Loops.{Inside}
use Rattle.mid_live.proofs.learn.+learn.Given as goal

abbrev pub invariant-learn_nodes-loop-i : goal.invariant-learn_nodes-loop-i
invariant-learn_nodes-loop-i l = record {
  bound : l.i ≤ length l.ns;
  len : length l.s ≡ length l.initial.s;
  more : take (length l.initial.heads.items) l.heads.items ≡ l.initial.heads.items;
  count : length l.heads.items ≡ list_loops (listed (map node (drop l.i l.ns))) + length l.initial.heads.items;
  told : ListTold (length l.initial.s) l.heads.items (length l.initial.heads.items) (listed (map node (drop l.i l.ns)));
  inside : Inside l.far (nodes (drop l.i l.ns));
}

abbrev pub decreases-learn_nodes-loop-i : goal.decreases-learn_nodes-loop-i
decreases-learn_nodes-loop-i l = l.i
