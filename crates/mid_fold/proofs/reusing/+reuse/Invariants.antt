use Rattle.std.proofs.Common.{◌≡◌, ◌++◌, ℕ, ◌≤◌, map, drop, take, length, get_or}
use Rattle.mid_code.specs.declared.node.Node.{Node}
use Rattle.mid_code.specs.Functions.{node, listed}
use Rattle.mid_fold.specs.inner.ReusingListed.{seen, list_reused}
use Rattle.mid_fold.proofs.reusing.+reuse.Given as goal

abbrev pub invariant-reuse_nodes-loop-i : goal.invariant-reuse_nodes-loop-i
invariant-reuse_nodes-loop-i l = record {
  reused : map node (take l.i l.ns) ++ list_reused (seen l.known) (listed (map node (drop l.i l.ns))) ≡ list_reused (seen l.initial.known) (listed (map node l.initial.ns));
  len : length l.ns ≡ length l.initial.ns;
  unvisited : (k : ℕ) (d : Node ℕ) → l.i ≤ k → get_or l.ns k d ≡ get_or l.initial.ns k d;
}
