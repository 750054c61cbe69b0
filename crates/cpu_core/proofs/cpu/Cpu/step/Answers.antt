use Rattle.cpu_core.proofs.Outcomes.{starves_rightly, stays_where_stopped, stays_on_halt}
use Rattle.cpu_core.proofs.cpu.Cpu.step.Goals as goal

pub returns-clause-starved : goal.returns-clause-starved
returns-clause-starved g c = starves_rightly g.B.Bus.input_gives g.B.Bus.output_gives _ _ _ _ _ c.do_step.ensures

pub returns-clause-unchanged : goal.returns-clause-unchanged
returns-clause-unchanged g c = stays_where_stopped g.B.Bus.input_gives g.B.Bus.output_gives _ _ _ _ _ c.do_step.ensures

pub returns-clause-halted : goal.returns-clause-halted
returns-clause-halted g c = stays_on_halt g.B.Bus.input_gives g.B.Bus.output_gives _ _ _ _ _ c.do_step.ensures
