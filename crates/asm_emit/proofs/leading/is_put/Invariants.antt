use Rattle.std.proofs.Common.{◌≡◌, drop}
use Rattle.mid_code.specs.Functions.{nodes}
use Rattle.asm_laws.specs.Copies.{is_put}
use Rattle.asm_emit.proofs.leading.is_put.Given as goal

abbrev pub invariant-loop-x : goal.invariant-loop-x
invariant-loop-x l = is_put l.r l.is (nodes (drop l.x-index l.xs)) ≡ is_put l.r l.known (nodes l.xs)
