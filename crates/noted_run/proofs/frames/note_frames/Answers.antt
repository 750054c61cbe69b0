use Rattle.std.proofs.Common.{rules, ◌≡◌, ◌<◌, true, false}
use Rattle.v32_console.specs.Setup.{Setup}
use Rattle.v32_console.specs.Moments.{goes_on, opening_moment}
use Rattle.v32_console.specs.Stands.{ConsoleStands}
use Rattle.noted_run.proofs.Noting.{IsDone, follows_first, follows_on, follows_ends, follows_done}
use Rattle.noted_run.proofs.frames.note_frames.Goals as goal

ended : (c : goal.Then-not-goes_on) (u : Setup) → ConsoleStands u (opening_moment u) c.args.console.now → IsDone u c.args.count c.frame_noting-end.result c.frame_noting-end.new.notes
ended c u stands =
    let so_far = c.frames.invariant.0 u stands in
    let some : 0 < c.frames.left = search rules in
    let stops : goes_on c.frame_noting-end.result ≡ false = search rules in
    let frame = c.frame_noting-end.ensures.frame u so_far.here so_far.stands so_far.rest in
    follows_ends u c.args.count c.frames.left c.frames.end c.frames.console c.frames.notes some so_far c.frame_noting-end.result c.frame_noting-end.new.self c.room.new.self
    c.frame_noting-end.new.notes frame.1 frame.0 c.room.ensures.answers c.room.ensures.events c.room.ensures.instructions
    (c.frame_noting-end.ensures.noted u so_far.here so_far.stands so_far.rest) stops

pub returns-then-not-goes_on-clause-noted : goal.returns-then-not-goes_on-clause-noted
returns-then-not-goes_on-clause-noted c = λ u stands. (ended c u stands).noted

pub returns-then-not-goes_on-clause-ended : goal.returns-then-not-goes_on-clause-ended
returns-then-not-goes_on-clause-ended c = λ u stands. (ended c u stands).end_is

done : (c : goal.After-frames) (u : Setup) → ConsoleStands u (opening_moment u) c.args.console.now → IsDone u c.args.count c.frames.end c.frames.notes
done c u stands =
    let none : c.frames.left ≡ 0 = search rules in
    follows_done u c.args.count c.frames.left c.frames.end c.frames.console c.frames.notes none (c.frames.invariant.0 u stands)

pub returns-clause-noted : goal.returns-clause-noted
returns-clause-noted c = λ u stands. (done c u stands).noted

pub returns-clause-ended : goal.returns-clause-ended
returns-clause-ended c = λ u stands. (done c u stands).end_is

pub frames-init : goal.frames-init
frames-init c = (λ u stands. follows_first u c.args.count c.args.console.now c.args.notes.now stands c.requires.empty, search rules, search rules)

pub frames-preserved : goal.frames-preserved
frames-preserved c =
    let some : 0 < c.frames.left = search rules in
    let goes : goes_on c.frame_noting-end.result ≡ true = search rules in (
      λ u stands.
          let so_far = c.frames.invariant.0 u stands in
          let frame = c.frame_noting-end.ensures.frame u so_far.here so_far.stands so_far.rest in
          follows_on u c.args.count c.frames.left c.frames.end c.frames.console c.frames.notes some so_far c.frame_noting-end.result c.frame_noting-end.new.self c.room.new.self
          c.frame_noting-end.new.notes frame.1 frame.0 c.room.ensures.answers c.room.ensures.events c.room.ensures.instructions
          (c.frame_noting-end.ensures.noted u so_far.here so_far.stands so_far.rest) goes,
      search rules,
      search rules,
    )
