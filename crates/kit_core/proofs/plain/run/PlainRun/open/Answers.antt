use Rattle.std.proofs.Common.{◌≡◌, refl, ap, subst}
use Rattle.std.specs.Prelude.{None}
use Rattle.run_files.specs.Script.{Script}
use Rattle.v32_console.specs.Setup.{Setup, setup_of}
use Rattle.v32_console.specs.Moments.{Moment, opening_moment}
use Rattle.v32_console.specs.Stands.{ConsoleStands, StandsAt}
use Rattle.v32_console.proofs.Frames.{after_none}
use Rattle.kit_core.specs.Plain.{plain_setup}
use Rattle.kit_core.proofs.plain.run.PlainRun.open.Goals as goal

pub returns : goal.returns
returns c =
    let u = plain_setup c.args.cart in
    let same : setup_of c.args.cart c.in_ok-pads.pads None ≡ u = ap (λ (s : Script). setup_of c.args.cart s None) c.in_ok-pads.ensures in
    let stands : StandsAt u 0 c.in_ok-console.console = subst (λ (v : Setup). StandsAt v 0 c.in_ok-console.console) same c.in_ok-console.ensures.stands in
    record {
      stands = record {
        console = subst (λ (m : Moment). ConsoleStands u m c.in_ok-console.console) (after_none u (opening_moment u)) stands;
        count_is = refl;
      };
    }
