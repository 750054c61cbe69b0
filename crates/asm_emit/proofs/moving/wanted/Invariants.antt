use Rattle.std.proofs.Common.{◌≡◌, ◌++◌, drop}
use Rattle.asm_laws.specs.Moves.{wanted}
use Rattle.asm_emit.proofs.moving.wanted.Given as goal

abbrev pub invariant-loop-p : goal.invariant-loop-p
invariant-loop-p l = l.moves.items ++ wanted (drop l.p-index l.ps) l.rest ≡ wanted l.ps l.initial.rest
