use Rattle.std.proofs.Common.{rules, ◌≡◌, sym, subst}
use Rattle.std.specs.Prelude.{Err, IfSome, IfErr}
use Rattle.std.specs.Option.{option_map}
use Rattle.kit_base.specs.declared.failure.Failure.TheVariants as failures
use Rattle.kit_tools.specs.Carrying.{FailsIn}
use Rattle.kit_tools.specs.Tracing.{IsReadToTrace}
use Rattle.kit_tools.proofs.Orders.{at_cart, at_answers, at_card, own_stops, memory_stops}
use Rattle.kit_tools.proofs.Seconds.{has_program}
use Rattle.kit_tools.proofs.tracing.open_trace.Goals as goal

pub open-requires-clause-some_program : goal.open-requires-clause-some_program
open-requires-clause-some_program g c = (has_program c.in_ok-read.read c.into_parts.result.program.items c.into_parts.ensures.program c.in_ok-read.ensures.limits).0

pub open-requires-clause-program_room : goal.open-requires-clause-program_room
open-requires-clause-program_room g c = (has_program c.in_ok-read.read c.into_parts.result.program.items c.into_parts.ensures.program c.in_ok-read.ensures.limits).1

pub returns-in_err-read-clause-fails : goal.returns-in_err-read-clause-fails
returns-in_err-read-clause-fails g c =
    let is : c.from_residual.result ≡ Err c.in_err-read.field-0.0 = search rules in
    subst (λ r. IfSome (g.F.Reads.held c.args.files.now) (λ m. IfErr r (FailsIn (IsReadToTrace c.args.cart.now c.args.answers.now (option_map (λ word. word.now) c.args.card) m)))) (sym is)
    (at_cart c.args.cart.now c.args.answers.now (option_map (λ word. word.now) c.args.card) c.in_err-read.field-0.0 (g.F.Reads.held c.args.files.now) c.in_err-read.ensures.fails)

pub returns-in_err-answers-clause-fails : goal.returns-in_err-answers-clause-fails
returns-in_err-answers-clause-fails g c =
    let is : c.from_residual-in_err-answers.result ≡ Err c.in_err-answers.field-0.0 = search rules in
    subst (λ r. IfSome (g.F.Reads.held c.args.files.now) (λ m. IfErr r (FailsIn (IsReadToTrace c.args.cart.now c.args.answers.now (option_map (λ word. word.now) c.args.card) m)))) (sym is)
    (at_answers c.args.cart.now c.args.answers.now (option_map (λ word. word.now) c.args.card) c.in_ok-read.read c.in_err-answers.field-0.0 (g.F.Reads.held c.args.files.now) c.in_ok-read.ensures.told c.in_err-answers.ensures.fails)

pub returns-in_err-card-clause-fails : goal.returns-in_err-card-clause-fails
returns-in_err-card-clause-fails g c =
    let is : c.from_residual-in_err-card.result ≡ Err c.in_err-card.field-0.0 = search rules in
    subst (λ r. IfSome (g.F.Reads.held c.args.files.now) (λ m. IfErr r (FailsIn (IsReadToTrace c.args.cart.now c.args.answers.now (option_map (λ word. word.now) c.args.card) m)))) (sym is)
    (at_card c.args.cart.now c.args.answers.now (option_map (λ word. word.now) c.args.card) c.in_ok-read.read c.in_ok-answers.answers.items c.in_err-card.field-0.0 (g.F.Reads.held c.args.files.now) (g.F.Reads.held c.read_cart_file.new.files)
    c.in_ok-read.ensures.told c.in_ok-read.ensures.held c.in_ok-answers.ensures.told c.in_err-card.ensures.fails)

pub returns-in_err-steps-clause-fails : goal.returns-in_err-steps-clause-fails
returns-in_err-steps-clause-fails g c =
    let is : c.from_residual-in_err-steps.result ≡ Err c.in_err-steps.field-0.0 = search rules in
    subst (λ r. IfSome (g.F.Reads.held c.args.files.now) (λ m. IfErr r (FailsIn (IsReadToTrace c.args.cart.now c.args.answers.now (option_map (λ word. word.now) c.args.card) m)))) (sym is)
    (own_stops _ (IsReadToTrace c.args.cart.now c.args.answers.now (option_map (λ word. word.now) c.args.card)) c.in_err-steps.field-0.0 (g.F.Reads.held c.args.files.now) c.in_err-steps.ensures.own)

pub returns-in_err-cpu-clause-fails : goal.returns-in_err-cpu-clause-fails
returns-in_err-cpu-clause-fails g c =
    let is : c.from_residual-in_err-cpu.result ≡ Err failures.Memory = search rules in
    subst (λ r. IfSome (g.F.Reads.held c.args.files.now) (λ m. IfErr r (FailsIn (IsReadToTrace c.args.cart.now c.args.answers.now (option_map (λ word. word.now) c.args.card) m)))) (sym is)
    (memory_stops (IsReadToTrace c.args.cart.now c.args.answers.now (option_map (λ word. word.now) c.args.card)) (g.F.Reads.held c.args.files.now))
