use Rattle.std.proofs.Common.{◌≡◌, drop}
use Rattle.mid_code.specs.Functions.{nodes}
use Rattle.asm_emit.specs.inner.Listed.{led_asked}
use Rattle.asm_emit.proofs.live.led_asked.Given as goal

abbrev pub invariant-loop-x : goal.invariant-loop-x
invariant-loop-x l = record {
  behind : l.rest ≡ drop l.x-index l.xs;
  same : led_asked l.lasting (nodes (drop l.x-index l.xs)) l.r ≡ led_asked l.lasting (nodes l.xs) l.r;
}
