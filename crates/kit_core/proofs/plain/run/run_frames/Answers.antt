use Rattle.std.proofs.Common.{rules, ◌≡◌, ◌<◌, true, false}
use Rattle.v32_console.specs.Setup.{Setup}
use Rattle.v32_console.specs.Moments.{goes_on, opening_moment}
use Rattle.v32_console.specs.Stands.{ConsoleStands}
use Rattle.kit_core.proofs.PlainFollowing.{IsDone, follows_on, follows_ends, follows_done}
use Rattle.kit_core.proofs.plain.run.run_frames.Goals as goal

ended : (c : goal.Then-not-goes_on) (u : Setup) → ConsoleStands u (opening_moment u) c.args.console.now → IsDone u c.args.count c.frame-end.result c.frame-end.new.self
ended c u stands =
    let so_far = c.frames.invariant.0 u stands in
    let some : 0 < c.frames.left = search rules in
    let stops : goes_on c.frame-end.result ≡ false = search rules in
    let frame = c.frame-end.ensures.frame u so_far.1.here so_far.1.stands so_far.1.rest in
    follows_ends u c.args.count c.frames.left c.frames.end c.frames.console some so_far c.frame-end.result c.frame-end.new.self frame.1 frame.0 stops

pub returns-then-not-goes_on-clause-stands : goal.returns-then-not-goes_on-clause-stands
returns-then-not-goes_on-clause-stands c = λ u stands. (ended c u stands).stands

pub returns-then-not-goes_on-clause-ended : goal.returns-then-not-goes_on-clause-ended
returns-then-not-goes_on-clause-ended c = λ u stands. (ended c u stands).end_is

done : (c : goal.After-frames) (u : Setup) → ConsoleStands u (opening_moment u) c.args.console.now → IsDone u c.args.count c.frames.end c.frames.console
done c u stands =
    let none : c.frames.left ≡ 0 = search rules in
    follows_done u c.args.count c.frames.left c.frames.end c.frames.console none (c.frames.invariant.0 u stands)

pub returns-clause-stands : goal.returns-clause-stands
returns-clause-stands c = λ u stands. (done c u stands).stands

pub returns-clause-ended : goal.returns-clause-ended
returns-clause-ended c = λ u stands. (done c u stands).end_is

pub frames-preserved : goal.frames-preserved
frames-preserved c =
    let some : 0 < c.frames.left = search rules in
    let goes : goes_on c.frame-end.result ≡ true = search rules in (
      λ u stands.
          let so_far = c.frames.invariant.0 u stands in
          let frame = c.frame-end.ensures.frame u so_far.1.here so_far.1.stands so_far.1.rest in
          follows_on u c.args.count c.frames.left c.frames.end c.frames.console some so_far c.frame-end.result c.frame-end.new.self frame.1 frame.0 goes,
      search rules,
    )
