use Rattle.std.proofs.Common.{◌≡◌, drop}
use Rattle.mid_code.specs.Functions.{nodes}
use Rattle.asm_laws.specs.Live.{exposed}
use Rattle.asm_emit.proofs.live.+exposing.Given as goal

abbrev pub invariant-exposed-loop-x : goal.invariant-exposed-loop-x
invariant-exposed-loop-x l = record {
  behind : l.rest ≡ drop l.x-index l.xs;
  same : exposed l.stretch.unset (nodes (drop l.x-index l.xs)) l.stretch.done l.r ≡ exposed l.unset (nodes l.xs) 0 l.r;
}
