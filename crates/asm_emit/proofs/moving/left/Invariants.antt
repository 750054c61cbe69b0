use Rattle.std.proofs.Common.{◌≡◌, ◌++◌, drop}
use Rattle.asm_laws.specs.Moves.{left}
use Rattle.asm_emit.proofs.moving.left.Given as goal

abbrev pub invariant-loop-m : goal.invariant-loop-m
invariant-loop-m l = l.kept.items ++ left l.r (drop l.m-index l.moves) ≡ left l.r l.moves
