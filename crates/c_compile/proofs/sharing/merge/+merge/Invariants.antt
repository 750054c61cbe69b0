use Rattle.std.proofs.Common.{◌≤◌, length}
use Rattle.c_compile.proofs.sharing.merge.+merge.Given as goal

abbrev pub invariant-merge_nodes-loop-i : goal.invariant-merge_nodes-loop-i
invariant-merge_nodes-loop-i l = l.i ≤ length l.ns

abbrev pub decreases-merge_nodes-loop-i : goal.decreases-merge_nodes-loop-i
decreases-merge_nodes-loop-i l = l.i
