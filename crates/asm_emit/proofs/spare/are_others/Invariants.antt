use Rattle.std.proofs.Common.{◌≡◌, drop}
use Rattle.asm_laws.specs.Spare.{are_others}
use Rattle.asm_emit.proofs.spare.are_others.Given as goal

abbrev pub invariant-loop-p : goal.invariant-loop-p
invariant-loop-p l = are_others (drop l.p-index l.ps) ≡ are_others l.ps
