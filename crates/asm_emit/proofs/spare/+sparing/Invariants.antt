use Rattle.std.proofs.Common.{◌≡◌, drop}
use Rattle.mid_code.specs.Functions.{nodes}
use Rattle.asm_laws.specs.Spare.{spares}
use Rattle.asm_emit.proofs.spare.+sparing.Given as goal

abbrev pub invariant-spares-loop-x : goal.invariant-spares-loop-x
invariant-spares-loop-x l = record {
  behind : l.rest ≡ drop l.x-index l.xs;
  same : spares (nodes (drop l.x-index l.xs)) l.done ≡ spares (nodes l.xs) 0;
}
