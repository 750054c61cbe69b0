use Rattle.std.proofs.Common.{◌≡◌, drop}
use Rattle.asm_laws.specs.Live.{is_among}
use Rattle.asm_emit.proofs.live.is_among.Given as goal

abbrev pub invariant-loop-p : goal.invariant-loop-p
invariant-loop-p l = is_among (drop l.p-index l.ps) l.r ≡ is_among l.ps l.r
