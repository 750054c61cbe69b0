use Rattle.asm_emit.proofs.Ordered.{wanted_done}
use Rattle.asm_emit.proofs.moving.wanted.Goals as goal

pub returns-in_default : goal.returns-in_default
returns-in_default c = wanted_done _ c.loop-p.rest.now c.loop-p.moves.items _ c.in_default.ensures.cases c.loop-p.invariant
