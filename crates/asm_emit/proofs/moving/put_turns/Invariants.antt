use Rattle.std.proofs.Common.{◌≡◌, ◌++◌, drop}
use Rattle.asm_emit.specs.inner.View.{frame}
use Rattle.asm_laws.specs.Moves.{ordered}
use Rattle.asm_laws.specs.Operations.{moved_items}
use Rattle.asm_emit.proofs.moving.put_turns.Given as goal

abbrev pub invariant-loop-turn : goal.invariant-loop-turn
invariant-loop-turn l = l.out.items ++ moved_items (frame l.s) (ordered (drop l._turn-index l.turns) l.moves.items) ≡ l.initial.out.items ++ moved_items (frame l.s) (ordered l.turns l.initial.moves.items)
