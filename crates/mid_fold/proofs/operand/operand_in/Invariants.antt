use Rattle.std.proofs.Common.{◌≡◌, drop}
use Rattle.mid_fold.specs.inner.Reusing.{operand_in}
use Rattle.mid_fold.proofs.operand.operand_in.Given as goal

abbrev pub invariant-loop-known : goal.invariant-loop-known
invariant-loop-known l = operand_in (drop l.known-index l.operands) l.q ≡ operand_in l.operands l.q
