use Rattle.cpu_core.proofs.Spaces.{opening_words}
use Rattle.cpu_core.proofs.memory.Memory.open.Goals as goal

pub returns-clause-memory : goal.returns-clause-memory
returns-clause-memory c = opening_words c.in_ok-ram.ram.items c.args.program.items _ c.in_ok-ram.ensures.zero
