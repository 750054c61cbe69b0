use Rattle.std.proofs.Common.{◌≤◌, length}
use Rattle.c_compile.proofs.sharing.immediates.+counting.Given as goal

abbrev pub invariant-count_nodes-loop-i : goal.invariant-count_nodes-loop-i
invariant-count_nodes-loop-i l = l.i ≤ length l.ns

abbrev pub decreases-count_nodes-loop-i : goal.decreases-count_nodes-loop-i
decreases-count_nodes-loop-i l = l.i
