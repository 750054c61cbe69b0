use Rattle.std.proofs.Common.{rules, ◌≡◌, sym, subst}
use Rattle.std.specs.Prelude.{Err, IfSome, IfErr}
use Rattle.kit_words.specs.Parsed.{run_words_from}
use Rattle.kit_tools.specs.Carrying.{FailsIn}
use Rattle.kit_tools.specs.Running.{IsReadToRun}
use Rattle.kit_tools.proofs.Orders.{at_run_cart, at_settings}
use Rattle.kit_tools.proofs.running.read_game.Goals as goal

pub returns-in_err-cart-clause-fails : goal.returns-in_err-cart-clause-fails
returns-in_err-cart-clause-fails g c =
    let is : c.from_residual.result ≡ Err c.in_err-cart.field-0.0 = search rules in
    subst (λ r. IfSome (g.F.Reads.held c.args.files.now) (λ m. IfErr r (FailsIn (IsReadToRun (run_words_from c.args.words.now) m)))) (sym is)
    (at_run_cart (run_words_from c.args.words.now) c.in_err-cart.field-0.0 (g.F.Reads.held c.args.files.now) c.in_err-cart.ensures.fails)

pub returns-in_err-pads-clause-fails : goal.returns-in_err-pads-clause-fails
returns-in_err-pads-clause-fails g c =
    let is : c.from_residual-in_err-pads.result ≡ Err c.in_err-pads.field-0.0 = search rules in
    subst (λ r. IfSome (g.F.Reads.held c.args.files.now) (λ m. IfErr r (FailsIn (IsReadToRun (run_words_from c.args.words.now) m)))) (sym is)
    (at_settings (run_words_from c.args.words.now) c.in_ok-cart.cart c.in_err-pads.field-0.0 (g.F.Reads.held c.args.files.now) (g.F.Reads.held c.read_cart_file.new.files) c.in_ok-cart.ensures.told c.in_ok-cart.ensures.held c.in_err-pads.ensures.fails)
