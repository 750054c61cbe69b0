use Rattle.std.proofs.Common.{◌≡◌, map, drop}
use Rattle.mid_code.specs.Functions.{node, listed}
use Rattle.asm_emit.specs.inner.Listed.{round_in}
use Rattle.asm_emit.proofs.nodes.is_round.Given as goal

abbrev pub invariant-loop-x : goal.invariant-loop-x
invariant-loop-x l = record {
  behind : l.rest ≡ drop l.x-index l.xs;
  same : round_in (listed (map node (drop l.x-index l.xs))) ≡ round_in (listed (map node l.xs));
}
