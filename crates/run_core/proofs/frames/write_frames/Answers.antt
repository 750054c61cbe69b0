use Rattle.std.proofs.Common.{rules, ◌≡◌, ◌<◌, true, false, sym, subst, ap, ◌∙◌}
use Rattle.std.specs.Prelude.{Err}
use Rattle.v32_console.specs.Setup.{Setup}
use Rattle.v32_console.specs.Moments.{Moment, goes_on, opening_moment}
use Rattle.v32_console.specs.Frames.{frames_of}
use Rattle.v32_console.specs.Stands.{ConsoleStands}
use Rattle.run_core.specs.Outputs.{end_of}
use Rattle.run_core.specs.Writing.{Writes, names_of}
use Rattle.run_core.proofs.Going.{Finished, outputs, going_first, going_cut, going_on, going_ends, going_done, last_is}
use Rattle.run_core.proofs.frames.write_frames.Goals as goal

pub frames-init : goal.frames-init
frames-init g c = (
  λ u stands. going_first (names_of c.args.names.now) u c.args.count c.args.console.now (g.F.Reads.held c.args.files.now) stands,
  c.requires.frames,
  c.requires.samples,
  search rules,
  search rules,
  search rules,
  search rules,
)

pub returns-in_err-end-clause-written : goal.returns-in_err-end-clause-written
returns-in_err-end-clause-written g c = λ u stands.
    let names = names_of c.args.names.now in
    let going = c.frames.invariant.0 u stands in
    let some : 0 < c.frames.left = search rules in
    let is : c.from_residual.result ≡ Err c.in_err-end.field-0.0 = search rules in
    subst (λ r. Writes names (outputs names u (frames_of c.args.count u (opening_moment u))) r (g.F.Reads.held c.args.files.now) (g.F.Reads.held c.write_frame.new.files)) (sym is)
    (going_cut names u (opening_moment u) c.args.count c.frames.left c.frames.end c.frames.console (g.F.Reads.held c.args.files.now) (g.F.Reads.held c.frames.files) some going
    c.in_err-end.field-0.0.output (g.F.Reads.held c.write_frame.new.files) (c.in_err-end.ensures.written u going.here going.stands going.rest))

ended : (g : _) (c : goal.Then-not-goes_on g) (u : Setup) → ConsoleStands u (opening_moment u) c.args.console.now
    → Finished (names_of c.args.names.now) u (opening_moment u) c.args.count c.in_ok-end.end c.write_frame.new.console (g.F.Reads.held c.args.files.now) (g.F.Reads.held c.write_frame.new.files)
ended g c u stands =
    let going = c.frames.invariant.0 u stands in
    let some : 0 < c.frames.left = search rules in
    let ends : goes_on c.in_ok-end.end ≡ false = search rules in
    going_ends (names_of c.args.names.now) u (opening_moment u) c.args.count c.frames.left c.frames.end c.frames.console (g.F.Reads.held c.args.files.now) (g.F.Reads.held c.frames.files) some going
    c.in_ok-end.end c.write_frame.new.console (g.F.Reads.held c.write_frame.new.files) (c.in_ok-end.ensures.ended u going.here going.stands going.rest)
    (c.in_ok-end.ensures.stands u going.here going.stands going.rest) (c.in_ok-end.ensures.written u going.here going.stands going.rest) ends

pub returns-then-not-goes_on-clause-written : goal.returns-then-not-goes_on-clause-written
returns-then-not-goes_on-clause-written g c = λ u stands. (ended g c u stands).held

pub returns-then-not-goes_on-clause-stands : goal.returns-then-not-goes_on-clause-stands
returns-then-not-goes_on-clause-stands g c = λ u stands.
    subst (λ (m : Moment). ConsoleStands u m c.write_frame.new.console) (last_is u c.args.count) (ended g c u stands).stands

pub returns-then-not-goes_on-clause-ended : goal.returns-then-not-goes_on-clause-ended
returns-then-not-goes_on-clause-ended g c = λ u stands. ap (λ (m : Moment). end_of m.phase) (sym (last_is u c.args.count)) ∙ (ended g c u stands).end_is

done : (g : _) (c : goal.After-frames g) (u : Setup) → ConsoleStands u (opening_moment u) c.args.console.now
    → Finished (names_of c.args.names.now) u (opening_moment u) c.args.count c.frames.end c.frames.console (g.F.Reads.held c.args.files.now) (g.F.Reads.held c.frames.files)
done g c u stands =
    let none : c.frames.left ≡ 0 = search rules in
    going_done (names_of c.args.names.now) u (opening_moment u) c.args.count c.frames.left c.frames.end c.frames.console (g.F.Reads.held c.args.files.now) (g.F.Reads.held c.frames.files) none
    (c.frames.invariant.0 u stands)

pub returns-clause-written : goal.returns-clause-written
returns-clause-written g c = λ u stands. (done g c u stands).held

pub returns-clause-stands : goal.returns-clause-stands
returns-clause-stands g c = λ u stands. subst (λ (m : Moment). ConsoleStands u m c.frames.console) (last_is u c.args.count) (done g c u stands).stands

pub returns-clause-ended : goal.returns-clause-ended
returns-clause-ended g c = λ u stands. ap (λ (m : Moment). end_of m.phase) (sym (last_is u c.args.count)) ∙ (done g c u stands).end_is

pub frames-preserved : goal.frames-preserved
frames-preserved g c =
    let some : 0 < c.frames.left = search rules in
    let goes : goes_on c.in_ok-end.end ≡ true = search rules in (
      λ u stands.
          let going = c.frames.invariant.0 u stands in
          going_on (names_of c.args.names.now) u (opening_moment u) c.args.count c.frames.left c.frames.end c.frames.console (g.F.Reads.held c.args.files.now) (g.F.Reads.held c.frames.files) some going
          c.in_ok-end.end c.write_frame.new.console (g.F.Reads.held c.write_frame.new.files) (c.in_ok-end.ensures.ended u going.here going.stands going.rest)
          (c.in_ok-end.ensures.stands u going.here going.stands going.rest) (c.in_ok-end.ensures.written u going.here going.stands going.rest) goes,
      c.in_ok-end.ensures.there c.args.names.now.frames.now c.frames.invariant.1,
      c.in_ok-end.ensures.there c.args.names.now.samples.now c.frames.invariant.2,
      search rules,
      search rules,
      search rules,
      search rules,
    )
