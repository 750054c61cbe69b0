use Rattle.std.proofs.Common.{◌≡◌, ◌≤◌}
use Rattle.std.specs.Prelude.{None}
use Rattle.cpu_core.specs.Machine.{state_of}
use Rattle.v32_isa.specs.Runs.{run}
use Rattle.trace_core.specs.Texts.{run_text}
use Rattle.trace_core.specs.Putting.{HasPut}
use Rattle.trace_core.proofs.run.put_run.Given as goal

abbrev pub decreases-steps : goal.decreases-steps
decreases-steps g l = l.left

-- the run's text is what was put and then the text of the steps left
abbrev pub invariant-steps : goal.invariant-steps
invariant-steps g l =
    HasPut (run_text (run l.fn.steps (state_of l.fn.cpu) l.fn.bus.left)) (run_text (run l.left (state_of l.cpu) l.bus.left)) (g.S.Sink.written l.fn.out) (g.S.Sink.written l.out)
    × (l.bus.made ≡ None) × (g.S.Sink.faults l.fn.out ≤ g.S.Sink.faults l.out)
