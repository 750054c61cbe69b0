use Rattle.std.proofs.Common.{◌≡◌, drop}
use Rattle.mid_code.specs.Functions.{nodes}
use Rattle.asm_laws.specs.Copies.{copy_after}
use Rattle.asm_emit.proofs.copies.copy_after.Given as goal

abbrev pub invariant-loop-x : goal.invariant-loop-x
invariant-loop-x l = copy_after (nodes (drop l.x-index l.xs)) ≡ copy_after (nodes l.xs)
