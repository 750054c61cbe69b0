use Rattle.std.proofs.Common.{rules, ◌≡◌, List, ℕ, []}
use Rattle.std.specs.Prelude.{Ok, Err}
use Rattle.std.specs.Option.{option_map}
use Rattle.trace_core.specs.Putting.{trace_text}
use Rattle.kit_tools.specs.Tracing.{traced_due, IsReadToTrace}
use Rattle.kit_tools.proofs.Conversions.{trace_opened}
use Rattle.kit_tools.proofs.Stages.{stopped_if}
use Rattle.kit_tools.proofs.tracing.trace_command.Goals as goal

pub returns-in_err-trace-clause-told : goal.returns-in_err-trace-clause-told
returns-in_err-trace-clause-told g c =
    let card = option_map (λ word. word.now) c.args.card in
    let is : c.from_residual.result ≡ Err c.in_err-trace.field-0.0 = search rules in
    stopped_if trace_text (λ m. traced_due c.args.cart.now c.args.answers.now card c.args.steps.now m) (λ (text : List ℕ). Ok (record { effects = []; text = text; status = 0 }))
    (λ m. IsReadToTrace c.args.cart.now c.args.answers.now card m) c.from_residual.result c.in_err-trace.field-0.0 (g.F.Reads.held c.args.files.now) (g.F.Reads.held c.open_trace.new.files)
    is c.in_err-trace.ensures.told c.in_err-trace.ensures.fails c.in_err-trace.ensures.held

pub returns-clause-told : goal.returns-clause-told
returns-clause-told g c =
    trace_opened c.args.cart.now c.args.answers.now (option_map (λ word. word.now) c.args.card) c.args.steps.now c.in_ok-trace.trace _ _ c.in_ok-trace.ensures.told c.in_ok-trace.ensures.held
