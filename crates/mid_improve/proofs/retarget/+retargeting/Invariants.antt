use Rattle.std.proofs.Common.{◌≡◌, ◌++◌, ℕ, ◌≤◌, None, map, take, drop, length, get_or}
use Rattle.mid_code.specs.declared.node.Node.{Node}
use Rattle.mid_code.specs.Functions.{node, listed}
use Rattle.mid_improve.specs.inner.RetargetListed.{list_retargeted}
use Rattle.mid_improve.proofs.retarget.+retargeting.Given as goal

abbrev pub invariant-retarget_nodes-loop-i : goal.invariant-retarget_nodes-loop-i
invariant-retarget_nodes-loop-i l = record {
  found : map node (take l.i l.ns) ++ list_retargeted l.turn (listed (map node (drop l.i l.ns))) ≡ list_retargeted None (listed (map node l.initial.ns));
  len : length l.ns ≡ length l.initial.ns;
  unvisited : (k : ℕ) (d : Node ℕ) → l.i ≤ k → get_or l.ns k d ≡ get_or l.initial.ns k d;
}
