use Rattle.v32_console.proofs.Showing.{samples_are}
use Rattle.v32_console.proofs.console.Console.samples.Goals as goal

pub returns-clause-samples : goal.returns-clause-samples
returns-clause-samples c u m stands = samples_are u m _ c.samples.ensures.all (c.samples.ensures.exact u.sounds _ (rw (← c.self.view_is) at stands.board.sound))
