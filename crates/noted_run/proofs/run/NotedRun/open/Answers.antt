use Rattle.std.proofs.Common.{refl, subst}
use Rattle.cpu_core.specs.Space.{words_of}
use Rattle.v32_console.specs.Setup.{setup_of}
use Rattle.v32_console.specs.Moments.{Moment, opening_moment}
use Rattle.v32_console.specs.Stands.{ConsoleStands}
use Rattle.v32_console.proofs.Frames.{after_none}
use Rattle.noted_run.proofs.run.NotedRun.open.Goals as goal

pub returns : goal.returns
returns c =
    let u = setup_of c.args.cart c.args.pads (words_of c.args.card) in
    record {
      stands = record {
        console = subst (λ (m : Moment). ConsoleStands u m c.in_ok-console.console) (after_none u (opening_moment u)) c.in_ok-console.ensures.stands;
        count_is = refl;
      };
    }
