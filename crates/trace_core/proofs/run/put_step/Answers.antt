use Rattle.std.proofs.Common.{rules, ◌≡◌}
use Rattle.cpu_core.specs.Machine.{state_of}
use Rattle.trace_core.specs.Putting.{putting, HasPutFront}
use Rattle.trace_core.specs.inner.Steps.{event_of, step_text}
use Rattle.trace_core.proofs.Runs.{step_put, step_unput}
use Rattle.trace_core.proofs.run.put_step.Goals as goal

pub returns-in-Ok-clause-puts : goal.returns-in-Ok-clause-puts
returns-in-Ok-clause-puts g c =
    let put : g.S.Sink.written c.put_event.new.out ≡ putting (step_text (event_of c.step-how.result c.step-how.new.bus.made)) (g.S.Sink.written c.args.out.now) = search rules in
    λ n. search (rules, step_put n (state_of c.args.cpu.now) (state_of c.step-how.new.self) c.args.bus.now c.step-how.new.bus c.step-how.result _ _ c.requires c.step-how.ensures.step put)

pub returns-in-Err-clause-puts : goal.returns-in-Err-clause-puts
returns-in-Err-clause-puts g c =
    let put : HasPutFront (step_text (event_of c.step-how.result c.step-how.new.bus.made)) (g.S.Sink.written c.args.out.now) (g.S.Sink.written c.put_event.new.out) = search rules in
    λ n. search (rules, step_unput n (state_of c.args.cpu.now) (state_of c.step-how.new.self) c.args.bus.now c.step-how.new.bus c.step-how.result _ _ c.requires c.step-how.ensures.step put)
