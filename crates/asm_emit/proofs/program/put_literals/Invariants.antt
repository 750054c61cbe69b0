use Rattle.std.proofs.Common.{◌≡◌, ◌+◌, ◌<◌, ◌^◌, ◌-◌, ◌++◌, length}
use Rattle.asm_laws.specs.Operations.{literals_items}
use Rattle.asm_emit.proofs.program.put_literals.Given as goal

abbrev pub invariant-each : goal.invariant-each
invariant-each l = record {
  items : l.out.items ++ literals_items l.number l.rest ≡ l.initial.out.items ++ literals_items 0 l.fn.literals;
  few : l.number + length l.rest < 2 ^ 32 - 1;
}

abbrev pub decreases-each : goal.decreases-each
decreases-each l = length l.rest
