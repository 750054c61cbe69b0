use Rattle.std.proofs.Common.{◌≤◌, length, drop}
use Rattle.mid_code.specs.Functions.{nodes}
use Rattle.mid_code.specs.View.{code}
use Rattle.tool_mid_code.specs.Fine.{Fine}
use Rattle.tool_mid_code.proofs.fine.+fine.Given as goal

abbrev pub invariant-is_fine-loop-i : goal.invariant-is_fine-loop-i
invariant-is_fine-loop-i l = (l.i ≤ length l.ns) × Fine (code l.of) l.temps l.locals (nodes (drop l.i l.ns))

abbrev pub decreases-is_fine-loop-i : goal.decreases-is_fine-loop-i
decreases-is_fine-loop-i l = l.i
