use Rattle.std.proofs.Common.{refl}
use Rattle.cpu_core.specs.Machine.{state_of}
use Rattle.cpu_core.proofs.cpu.Cpu.open.Goals as goal

pub returns : goal.returns
unfolding state_of
returns c = rw (c.opening.ensures, c.in_ok-memory.ensures.memory, c.in_ok-memory.ensures.program, c.in_ok-memory.ensures.card) refl
