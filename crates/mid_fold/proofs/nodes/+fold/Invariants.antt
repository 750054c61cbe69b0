use Rattle.std.proofs.Common.{◌≡◌, ◌++◌, ℕ, ◌≤◌, map, drop, take, length, get_or}
use Rattle.mid_code.specs.declared.node.Node.{Node}
use Rattle.mid_code.specs.Functions.{node, listed}
use Rattle.mid_fold.specs.inner.Listed.{list_folded}
use Rattle.mid_fold.proofs.nodes.+fold.Given as goal

abbrev pub invariant-fold_nodes-loop-i : goal.invariant-fold_nodes-loop-i
invariant-fold_nodes-loop-i l = record {
  folded : map node (take l.i l.ns) ++ list_folded l.words.items (listed (map node (drop l.i l.ns))) ≡ list_folded l.initial.words.items (listed (map node l.initial.ns));
  len : length l.ns ≡ length l.initial.ns;
  unvisited : (k : ℕ) (d : Node ℕ) → l.i ≤ k → get_or l.ns k d ≡ get_or l.initial.ns k d;
}
