use Rattle.std.proofs.Common.{◌≡◌, drop}
use Rattle.mid_code.specs.Functions.{nodes}
use Rattle.asm_laws.specs.Live.{copies}
use Rattle.asm_emit.proofs.live.+copying.Given as goal

abbrev pub invariant-copies-loop-x : goal.invariant-copies-loop-x
invariant-copies-loop-x l = copies (nodes (drop l.x-index l.xs)) ≡ copies (nodes l.xs)
