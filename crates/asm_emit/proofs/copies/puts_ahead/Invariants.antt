use Rattle.std.proofs.Common.{◌≡◌, ◌≤◌, drop}
use Rattle.mid_code.specs.Functions.{nodes}
use Rattle.asm_laws.specs.Copies.{puts_ahead}
use Rattle.asm_emit.proofs.copies.puts_ahead.Given as goal

abbrev pub invariant-loop-x : goal.invariant-loop-x
invariant-loop-x l = record {
  few : l.count ≤ 8;
  same : puts_ahead l.y l.count (nodes (drop l.x-index l.xs)) ≡ puts_ahead l.y 1 (nodes l.xs);
}
