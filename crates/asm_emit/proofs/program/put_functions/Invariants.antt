use Rattle.std.proofs.Common.{◌≡◌, ◌+◌, ◌<◌, ◌^◌, ◌-◌, ◌++◌, map, length}
use Rattle.mid_code.specs.Functions.{function}
use Rattle.asm_laws.specs.inner.Emitted.{functions_items, functions_labels}
use Rattle.asm_emit.specs.inner.View.{whole}
use Rattle.asm_emit.proofs.program.put_functions.Given as goal

abbrev pub invariant-each : goal.invariant-each
invariant-each l = record {
  items : l.out.items ++ functions_items (whole l.fn.w) l.number l.next (map function l.rest) ≡ l.initial.out.items ++ functions_items (whole l.fn.w) 0 l.fn.first (map function l.fn.functions);
  labels : l.next + functions_labels (map function l.rest) < 2 ^ 32 - 1;
  few : l.number + length l.rest < 2 ^ 32 - 1;
}

abbrev pub decreases-each : goal.decreases-each
decreases-each l = length l.rest
