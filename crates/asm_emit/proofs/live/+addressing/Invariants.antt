use Rattle.std.proofs.Common.{◌≡◌, drop}
use Rattle.mid_code.specs.Functions.{nodes}
use Rattle.asm_laws.specs.Live.{addresses}
use Rattle.asm_emit.proofs.live.+addressing.Given as goal

abbrev pub invariant-addresses-loop-x : goal.invariant-addresses-loop-x
invariant-addresses-loop-x l = addresses (nodes (drop l.x-index l.xs)) ≡ addresses (nodes l.xs)
