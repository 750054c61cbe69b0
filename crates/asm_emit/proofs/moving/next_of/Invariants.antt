use Rattle.std.proofs.Common.{◌≡◌, drop}
use Rattle.asm_laws.specs.Moves.{next_of}
use Rattle.asm_emit.proofs.moving.next_of.Given as goal

abbrev pub invariant-loop-m : goal.invariant-loop-m
invariant-loop-m l = next_of l.moves (drop l.m-index l.moves) l.other ≡ next_of l.moves l.moves l.other
