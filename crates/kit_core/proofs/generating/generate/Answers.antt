use Rattle.std.proofs.Common.{rules, ◌≡◌}
use Rattle.std.specs.Prelude.{Err}
use Rattle.kit_base.specs.declared.failure.Failure.TheVariants as failures
use Rattle.gen_source.specs.Summary.{summary_front}
use Rattle.kit_core.specs.Plain.{plain_setup}
use Rattle.kit_core.proofs.Generates.{all_frames, outputs_not_begun}
use Rattle.kit_core.proofs.generating.generate.Goals as goal

pub returns-in_err-outputs-clause-written : goal.returns-in_err-outputs-clause-written
returns-in_err-outputs-clause-written g c =
    let is : c.from_residual.result ≡ Err failures.Memory = search rules in
    outputs_not_begun c.args.functions c.args.cart.now c.args.map.now c.args.built.now c.args.cartridge _ _ is

pub returns-in_err-front-clause-written : goal.returns-in_err-front-clause-written
returns-in_err-front-clause-written g c =
    let is : c.from_residual-in_err-front.result ≡ Err failures.Memory = search rules in
    outputs_not_begun c.args.functions c.args.cart.now c.args.map.now c.args.built.now c.args.cartridge _ _ is

pub returns-in_err-run-clause-written : goal.returns-in_err-run-clause-written
returns-in_err-run-clause-written g c =
    let is : c.from_residual-in_err-run.result ≡ Err failures.Memory = search rules in
    outputs_not_begun c.args.functions c.args.cart.now c.args.map.now c.args.built.now c.args.cartridge _ _ is

pub returns-clause-written : goal.returns-clause-written
returns-clause-written g c =
    let front : c.in_ok-front.front.items ≡ summary_front c.args.functions c.args.built.now.tokens = search rules in
    c.write_generated.ensures.written c.args.functions c.args.cartridge front (all_frames (plain_setup c.args.cartridge) _ c.in_ok-run.ensures.stands)
