use Rattle.std.proofs.Common.{◌≡◌, ◌++◌, ℕ, ◌≤◌, map, drop, take, length, get_or}
use Rattle.mid_code.specs.declared.node.Node.{Node}
use Rattle.mid_code.specs.Functions.{node, listed}
use Rattle.mid_improve.specs.inner.Facts.{none_known}
use Rattle.mid_improve.specs.inner.ForwardListed.{list_forwarded}
use Rattle.mid_improve.specs.inner.Tables.{facts}
use Rattle.mid_improve.proofs.forward.+forward.Given as goal

abbrev pub invariant-forward_nodes-loop-i : goal.invariant-forward_nodes-loop-i
invariant-forward_nodes-loop-i l = record {
  forward : map node (take l.i l.ns) ++ list_forwarded (facts l.table) (listed (map node (drop l.i l.ns))) ≡ list_forwarded none_known (listed (map node l.initial.ns));
  len : length l.ns ≡ length l.initial.ns;
  unvisited : (k : ℕ) (d : Node ℕ) → l.i ≤ k → get_or l.ns k d ≡ get_or l.initial.ns k d;
}
