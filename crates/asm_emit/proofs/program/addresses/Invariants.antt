use Rattle.std.proofs.Common.{◌≡◌, ◌++◌, drop}
use Rattle.asm_emit.specs.inner.View.{wrapped_addresses}
use Rattle.asm_emit.proofs.program.addresses.Given as goal

abbrev pub invariant-loop-size : goal.invariant-loop-size
invariant-loop-size l = l.addresses.items ++ wrapped_addresses l.address (drop l.size-index l.sizes) ≡ wrapped_addresses 0 l.sizes
