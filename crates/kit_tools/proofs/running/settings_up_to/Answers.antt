use Rattle.std.proofs.Common.{rules, ◌≡◌, sym, subst}
use Rattle.std.specs.Option.{option_map}
use Rattle.std.specs.Prelude.{Err, IfSome, IfErr}
use Rattle.kit_tools.specs.Carrying.{FailsIn}
use Rattle.kit_tools.specs.Running.{IsReadToSetBy}
use Rattle.kit_tools.proofs.Orders.{at_pads, at_run_card, own_stops}
use Rattle.kit_tools.proofs.running.settings_up_to.Goals as goal

pub returns-in_err-pads-clause-fails : goal.returns-in_err-pads-clause-fails
returns-in_err-pads-clause-fails g c =
    let is : c.from_residual.result ≡ Err c.in_err-pads.field-0.0 = search rules in
    let card = option_map (λ word. word.now) c.args.card in
    subst (λ r. IfSome (g.F.Reads.held c.args.files.now) (λ m. IfErr r (FailsIn (IsReadToSetBy c.args.pads.now card m)))) (sym is)
    (at_pads c.args.pads.now card c.in_err-pads.field-0.0 (g.F.Reads.held c.args.files.now) c.in_err-pads.ensures.fails)

pub returns-in_err-card-clause-fails : goal.returns-in_err-card-clause-fails
returns-in_err-card-clause-fails g c =
    let is : c.from_residual-in_err-card.result ≡ Err c.in_err-card.field-0.0 = search rules in
    let card = option_map (λ word. word.now) c.args.card in
    subst (λ r. IfSome (g.F.Reads.held c.args.files.now) (λ m. IfErr r (FailsIn (IsReadToSetBy c.args.pads.now card m)))) (sym is)
    (at_run_card c.args.pads.now card c.in_ok-pads.pads c.in_err-card.field-0.0 (g.F.Reads.held c.args.files.now) c.in_ok-pads.ensures.told c.in_err-card.ensures.fails)

pub returns-in_err-count-clause-fails : goal.returns-in_err-count-clause-fails
returns-in_err-count-clause-fails g c =
    let is : c.from_residual-in_err-count.result ≡ Err c.in_err-count.field-0.0 = search rules in
    let card = option_map (λ word. word.now) c.args.card in
    subst (λ r. IfSome (g.F.Reads.held c.args.files.now) (λ m. IfErr r (FailsIn (IsReadToSetBy c.args.pads.now card m)))) (sym is)
    (own_stops _ (IsReadToSetBy c.args.pads.now card) c.in_err-count.field-0.0 (g.F.Reads.held c.args.files.now) c.in_err-count.ensures.own)
