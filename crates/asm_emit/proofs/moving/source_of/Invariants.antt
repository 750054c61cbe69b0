use Rattle.std.proofs.Common.{◌≡◌, drop}
use Rattle.asm_laws.specs.Moves.{source_of}
use Rattle.asm_emit.proofs.moving.source_of.Given as goal

abbrev pub invariant-loop-m : goal.invariant-loop-m
invariant-loop-m l = source_of l.r (drop l.m-index l.moves) ≡ source_of l.r l.moves
