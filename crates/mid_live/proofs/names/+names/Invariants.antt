use Rattle.std.proofs.Common.{◌≡◌, ℕ, ◌<◌, ◌≤◌, ◌+◌, ◌||◌, length, drop, map}
use Rattle.mid_code.specs.Functions.{nodes, node, listed}
use Rattle.mid_live.specs.Sets.{on, room}
use Rattle.mid_live.specs.Heads.{named, list_loops}
use Rattle.mid_live.proofs.names.+names.Given as goal

abbrev pub invariant-name_nodes-loop-i : goal.invariant-name_nodes-loop-i
invariant-name_nodes-loop-i l = record {
  bound : l.i ≤ length l.ns;
  len : length l.s ≡ length l.initial.s;
  next : l.after ≡ list_loops (listed (map node (drop l.i l.ns))) + l.next;
  is : (y : ℕ) → y < room l.s → on l.s y ≡ (named (nodes (drop l.i l.ns)) y || on l.initial.s y);
}

abbrev pub decreases-name_nodes-loop-i : goal.decreases-name_nodes-loop-i
decreases-name_nodes-loop-i l = l.i
