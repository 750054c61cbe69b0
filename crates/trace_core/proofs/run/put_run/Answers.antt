use Rattle.std.proofs.Common.{rules, ◌≡◌, ◌<◌, ◌-◌, ◌++◌, [], ◌∷◌, sym, subst}
use Rattle.std.specs.Prelude.{Err, Some, None, codes}
use Rattle.cpu_core.specs.Machine.{state_of}
use Rattle.v32_isa.specs.Runs.{run}
use Rattle.trace_core.specs.Texts.{run_text}
use Rattle.trace_core.specs.Putting.{HasPut, PutsText}
use Rattle.trace_core.specs.inner.Steps.{last_line}
use Rattle.trace_core.proofs.Puts.{put_last}
use Rattle.trace_core.proofs.Runs.{run_refused, run_stepped, rest_ends, rest_goes, none_left}
use Rattle.trace_core.proofs.run.put_run.Goals as goal

pub returns-in_err-how-clause-puts : goal.returns-in_err-how-clause-puts
returns-in_err-how-clause-puts g c =
    let whole = run_text (run c.args.steps (state_of c.args.cpu.now) c.args.bus.now.left) in
    let is : c.from_residual.result ≡ Err c.in_err-how.field-0.0 = search rules in
    let some : 0 < c.steps.left = search rules in
    subst (λ r. PutsText whole r (g.S.Sink.written c.args.out.now) (g.S.Sink.written c.put_step.new.out)) (sym is)
    (run_refused whole c.steps.left (state_of c.steps.cpu) c.steps.bus.left _ (g.S.Sink.written c.steps.out) _ some c.steps.invariant.0 c.in_err-how.ensures.puts)

pub returns-in-Some-clause-puts : goal.returns-in-Some-clause-puts
returns-in-Some-clause-puts g c =
    let whole = run_text (run c.args.steps (state_of c.args.cpu.now) c.args.bus.now.left) in
    let some : 0 < c.steps.left = search rules in
    let ends : last_line c.in_ok-how.how (state_of c.put_step.new.cpu).counter ≡ Some c.in-Some.line = search rules in
    let put = run_stepped whole c.steps.left (state_of c.steps.cpu) c.steps.bus.left _ (g.S.Sink.written c.steps.out) (g.S.Sink.written c.put_step.new.out) some c.steps.invariant.0
    c.in_ok-how.how (state_of c.put_step.new.cpu) c.put_step.new.bus.left c.in_ok-how.ensures.puts in
    put_last whole c.in-Some.line c.put_line.result _ _ _
    (subst (λ x. HasPut whole x (g.S.Sink.written c.args.out.now) (g.S.Sink.written c.put_step.new.out)) (rest_ends c.in_ok-how.how (c.steps.left - 1) (state_of c.put_step.new.cpu) c.put_step.new.bus.left c.in-Some.line ends) put)
    c.put_line.ensures.puts

pub steps-preserved : goal.steps-preserved
steps-preserved g c =
    let whole = run_text (run c.args.steps (state_of c.args.cpu.now) c.args.bus.now.left) in
    let some : 0 < c.steps.left = search rules in
    let goes : last_line c.in_ok-how.how (state_of c.put_step.new.cpu).counter ≡ None = search rules in
    let put = run_stepped whole c.steps.left (state_of c.steps.cpu) c.steps.bus.left _ (g.S.Sink.written c.steps.out) (g.S.Sink.written c.put_step.new.out) some c.steps.invariant.0
    c.in_ok-how.how (state_of c.put_step.new.cpu) c.put_step.new.bus.left c.in_ok-how.ensures.puts in (
      subst (λ x. HasPut whole x (g.S.Sink.written c.args.out.now) (g.S.Sink.written c.put_step.new.out)) (rest_goes c.in_ok-how.how (c.steps.left - 1) _ (state_of c.put_step.new.cpu) c.put_step.new.bus.left goes) put,
      c.in_ok-how.ensures.taken,
      search rules,
    )

pub returns-clause-puts : goal.returns-clause-puts
returns-clause-puts g c =
    let whole = run_text (run c.args.steps (state_of c.args.cpu.now) c.args.bus.now.left) in
    let none : c.steps.left ≡ 0 = search rules in
    let put = subst (λ x. HasPut whole x (g.S.Sink.written c.args.out.now) (g.S.Sink.written c.steps.out)) (none_left c.steps.left (state_of c.steps.cpu) c.steps.bus.left none) c.steps.invariant.0 in
    let last : PutsText (codes "going" ++ 10 ∷ []) c.put_line-2.result (g.S.Sink.written c.steps.out) (g.S.Sink.written c.put_line-2.new.out) = search rules in
    put_last whole (codes "going" ++ 10 ∷ []) c.put_line-2.result _ _ _ put last
