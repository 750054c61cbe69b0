use Rattle.std.proofs.Common.{◌≡◌, drop}
use Rattle.mid_code.specs.Functions.{nodes}
use Rattle.asm_laws.specs.Copies.{last_put}
use Rattle.asm_emit.proofs.copies.last_put.Given as goal

abbrev pub invariant-loop-x : goal.invariant-loop-x
invariant-loop-x l = last_put l.r (nodes (drop l.x-index l.xs)) l.known ≡ last_put l.r (nodes l.xs) l.fn.before
