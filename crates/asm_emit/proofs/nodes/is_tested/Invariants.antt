use Rattle.std.proofs.Common.{◌≡◌, map, drop}
use Rattle.mid_code.specs.Functions.{node, listed}
use Rattle.asm_emit.specs.inner.Listed.{tested_in}
use Rattle.asm_emit.proofs.nodes.is_tested.Given as goal

abbrev pub invariant-loop-x : goal.invariant-loop-x
invariant-loop-x l = record {
  behind : l.rest ≡ drop l.x-index l.xs;
  same : tested_in (listed (map node (drop l.x-index l.xs))) ≡ tested_in (listed (map node l.xs));
}
