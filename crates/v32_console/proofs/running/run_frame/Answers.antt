use Rattle.std.proofs.Common.{◌<◌, ◌+◌, refl, sym, ◌∙◌, subst, arith}
use Rattle.cpu_core.specs.Machine.{state_of}
use Rattle.v32_isa.specs.declared.stepped.Stepped.TheVariants as stepped
use Rattle.v32_console.specs.declared.frame_end.FrameEnd.TheVariants.{Waited, Halted, Fault, Undecodable}
use Rattle.v32_console.proofs.Steps.{came_first, came_next, came_end, came_full, noted_end, noted_full, step_few, step_kept, ends_waited, ends_halted, ends_fault, ends_undecodable}
use Rattle.v32_console.proofs.Taken.{taken_nothing, taken_wait}
use Rattle.v32_console.proofs.running.run_frame.Goals as goal

pub loop-done-init : goal.loop-done-init
loop-done-init c = (c.requires.first, refl, (omega arith), λ u past h. came_first u 250000 (state_of c.args.cpu.now) past c.args.board.now h)

pub loop-done-preserved : goal.loop-done-preserved
loop-done-preserved c =
    let so_far = c.loop-done.invariant.2 in
    let few = step_few _ _ _ _ _ c.step.ensures.step in (
      refl,
      (step_kept _ _ _ _ _ c.step.ensures.step).frames ∙ c.loop-done.invariant.1,
      omega (arith, so_far, few),
      λ u past h. came_next u 250000 _ _ c.loop-done.done _ _ _ _ c.loop-done-test.true c.loop-done-test.true c.loop-done.invariant.0
          (subst (λ n. 0 < n) (sym c.loop-done.invariant.1) c.requires.begun) (c.loop-done.invariant.3 u past h) (rw c.in-Went.is at c.step.ensures.step) (c.loop-done.done + 1),
    )

pub returns-in-Waited-clause-ran : goal.returns-in-Waited-clause-ran
returns-in-Waited-clause-ran c u past h =
    came_end u 250000 _ _ c.loop-done.done _ _ _ _ stepped.Waited Waited c.loop-done-test.true c.loop-done-test.true c.loop-done.invariant.0
    (subst (λ n. 0 < n) (sym c.loop-done.invariant.1) c.requires.begun) (c.loop-done.invariant.3 u past h) (rw c.in-Waited.is at c.step.ensures.step) (ends_waited _ _) _ _

pub returns-in-Waited-clause-noted : goal.returns-in-Waited-clause-noted
returns-in-Waited-clause-noted c u past h =
    noted_end u 250000 _ _ c.loop-done.done _ _ _ _ stepped.Waited Waited c.loop-done-test.true c.loop-done-test.true c.loop-done.invariant.0
    (subst (λ n. 0 < n) (sym c.loop-done.invariant.1) c.requires.begun) (c.loop-done.invariant.3 u past h) (rw c.in-Waited.is at c.step.ensures.step) (ends_waited _ _) _ (c.told.ensures ∙ taken_wait _)

pub returns-in-Halted-clause-ran : goal.returns-in-Halted-clause-ran
returns-in-Halted-clause-ran c u past h =
    came_end u 250000 _ _ c.loop-done.done _ _ _ _ stepped.Halted Halted c.loop-done-test.true c.loop-done-test.true c.loop-done.invariant.0
    (subst (λ n. 0 < n) (sym c.loop-done.invariant.1) c.requires.begun) (c.loop-done.invariant.3 u past h) (rw c.in-Halted.is at c.step.ensures.step) (ends_halted _ _) _ _

pub returns-in-Halted-clause-noted : goal.returns-in-Halted-clause-noted
returns-in-Halted-clause-noted c u past h =
    noted_end u 250000 _ _ c.loop-done.done _ _ _ _ stepped.Halted Halted c.loop-done-test.true c.loop-done-test.true c.loop-done.invariant.0
    (subst (λ n. 0 < n) (sym c.loop-done.invariant.1) c.requires.begun) (c.loop-done.invariant.3 u past h) (rw c.in-Halted.is at c.step.ensures.step) (ends_halted _ _) _ (sym (taken_nothing _))

pub returns-in-Fault-clause-ran : goal.returns-in-Fault-clause-ran
returns-in-Fault-clause-ran c u past h =
    came_end u 250000 _ _ c.loop-done.done _ _ _ _ (stepped.Fault c.in-Fault.number) (Fault c.in-Fault.number _) c.loop-done-test.true c.loop-done-test.true c.loop-done.invariant.0
    (subst (λ n. 0 < n) (sym c.loop-done.invariant.1) c.requires.begun) (c.loop-done.invariant.3 u past h) (rw c.in-Fault.is at c.step.ensures.step) (λ after. rw c.address-address.ensures (ends_fault _ _ _ after)) _ _

pub returns-in-Fault-clause-noted : goal.returns-in-Fault-clause-noted
returns-in-Fault-clause-noted c u past h =
    noted_end u 250000 _ _ c.loop-done.done _ _ _ _ (stepped.Fault c.in-Fault.number) (Fault c.in-Fault.number _) c.loop-done-test.true c.loop-done-test.true c.loop-done.invariant.0
    (subst (λ n. 0 < n) (sym c.loop-done.invariant.1) c.requires.begun) (c.loop-done.invariant.3 u past h) (rw c.in-Fault.is at c.step.ensures.step) (ends_fault _ _ _) _ (sym (taken_nothing _))

pub returns-in-Undecodable-clause-ran : goal.returns-in-Undecodable-clause-ran
returns-in-Undecodable-clause-ran c u past h =
    came_end u 250000 _ _ c.loop-done.done _ _ _ _ (stepped.Undecodable c.in-Undecodable.address) (Undecodable c.in-Undecodable.address) c.loop-done-test.true c.loop-done-test.true c.loop-done.invariant.0
    (subst (λ n. 0 < n) (sym c.loop-done.invariant.1) c.requires.begun) (c.loop-done.invariant.3 u past h) (rw c.in-Undecodable.is at c.step.ensures.step) (ends_undecodable _ _ _) _ _

pub returns-in-Undecodable-clause-noted : goal.returns-in-Undecodable-clause-noted
returns-in-Undecodable-clause-noted c u past h =
    noted_end u 250000 _ _ c.loop-done.done _ _ _ _ (stepped.Undecodable c.in-Undecodable.address) (Undecodable c.in-Undecodable.address) c.loop-done-test.true c.loop-done-test.true c.loop-done.invariant.0
    (subst (λ n. 0 < n) (sym c.loop-done.invariant.1) c.requires.begun) (c.loop-done.invariant.3 u past h) (rw c.in-Undecodable.is at c.step.ensures.step) (ends_undecodable _ _ _) _ (sym (taken_nothing _))

pub returns-clause-ran : goal.returns-clause-ran
returns-clause-ran c u past h = came_full u 250000 _ _ c.loop-done.done _ _ (omega arith) (c.loop-done.invariant.3 u past h)

pub returns-clause-noted : goal.returns-clause-noted
returns-clause-noted c u past h = noted_full u 250000 _ _ c.loop-done.done _ _ (omega arith) (c.loop-done.invariant.3 u past h) c.loop-done.invariant.0
