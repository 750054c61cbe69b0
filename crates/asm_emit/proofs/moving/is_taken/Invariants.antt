use Rattle.std.proofs.Common.{◌≡◌, drop}
use Rattle.asm_laws.specs.Moves.{is_taken}
use Rattle.asm_emit.proofs.moving.is_taken.Given as goal

abbrev pub invariant-loop-m : goal.invariant-loop-m
invariant-loop-m l = is_taken l.r (drop l.m-index l.moves) ≡ is_taken l.r l.moves
