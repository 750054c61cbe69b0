use Rattle.std.proofs.Common.{◌∙◌, sym}
use Rattle.cpu_core.proofs.Spaces.{program_hit}
use Rattle.cpu_core.proofs.memory.Memory.fetch.Goals as goal

pub returns-in-Some : goal.returns-in-Some
returns-in-Some c =
    rw (← c.self.view_is) (program_hit _ c.args.address _ c.self.invariant c.ranges.address.fits (rw (← c.deref.ensures.value) (sym c.word_of.ensures ∙ c.in-Some.is)))
