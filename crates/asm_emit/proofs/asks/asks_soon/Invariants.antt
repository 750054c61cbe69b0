use Rattle.std.proofs.Common.{◌≡◌, drop}
use Rattle.mid_code.specs.Functions.{nodes}
use Rattle.asm_laws.specs.Asks.{asks_soon}
use Rattle.asm_emit.proofs.asks.asks_soon.Given as goal

abbrev pub invariant-loop-x : goal.invariant-loop-x
invariant-loop-x l = asks_soon l.r (nodes (drop l.x-index l.xs)) ≡ asks_soon l.r (nodes l.xs)
