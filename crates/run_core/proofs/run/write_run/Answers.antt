use Rattle.std.proofs.Common.{rules, ◌≡◌, sym, subst}
use Rattle.std.specs.Prelude.{Result, Ok, Err}
use Rattle.v32_console.specs.declared.frame_end.FrameEnd.{FrameEnd}
use Rattle.run_core.specs.declared.output.Unwritten.{Unwritten}
use Rattle.run_core.specs.Outputs.{run_outputs}
use Rattle.run_core.specs.Writing.{Writes, names_of}
use Rattle.run_core.proofs.Holding.{frames_there, samples_there}
use Rattle.run_core.proofs.Wholes.{run_cut_heads, run_cut_frames, run_writes_card}
use Rattle.run_core.proofs.run.write_run.Goals as goal

pub returns-in_err-write_heads-clause-written : goal.returns-in_err-write_heads-clause-written
returns-in_err-write_heads-clause-written g c = λ u stands.
    let names = names_of c.args.names.now in
    let is : c.from_residual.result ≡ Err c.in_err-write_heads.field-0.0 = search rules in
    subst (λ r. Writes names (run_outputs names u c.args.count) r (g.F.Reads.held c.args.files.now) (g.F.Reads.held c.write_heads.new.files)) (sym is)
    (run_cut_heads names u c.args.count (g.F.Reads.held c.args.files.now) c.in_err-write_heads.field-0.0.output (g.F.Reads.held c.write_heads.new.files) c.in_err-write_heads.ensures.written)

pub write_frames-requires-clause-frames : goal.write_frames-requires-clause-frames
write_frames-requires-clause-frames g c = frames_there (names_of c.args.names.now) (g.F.Reads.held c.args.files.now) _ c.in_ok-write_heads.ensures.written

pub write_frames-requires-clause-samples : goal.write_frames-requires-clause-samples
write_frames-requires-clause-samples g c = samples_there (names_of c.args.names.now) (g.F.Reads.held c.args.files.now) _ c.in_ok-write_heads.ensures.written

pub returns-in_err-end-clause-written : goal.returns-in_err-end-clause-written
returns-in_err-end-clause-written g c = λ u stands.
    let names = names_of c.args.names.now in
    let is : c.from_residual-in_err-end.result ≡ Err c.in_err-end.field-0.0 = search rules in
    subst (λ r. Writes names (run_outputs names u c.args.count) r (g.F.Reads.held c.args.files.now) (g.F.Reads.held c.write_frames.new.files)) (sym is)
    (run_cut_frames names u c.args.count (g.F.Reads.held c.args.files.now) c.in_err-end.field-0.0.output (g.F.Reads.held c.write_heads.new.files) (g.F.Reads.held c.write_frames.new.files)
    c.in_ok-write_heads.ensures.written (c.in_err-end.ensures.written u stands))

pub returns-in_err-write_card-clause-written : goal.returns-in_err-write_card-clause-written
returns-in_err-write_card-clause-written g c = λ u stands.
    let names = names_of c.args.names.now in
    let is : c.from_residual-in_err-write_card.result ≡ Err c.in_err-write_card.field-0.0 = search rules in
    let refused : Result FrameEnd Unwritten = Err c.in_err-write_card.field-0.0 in
    subst (λ r. Writes names (run_outputs names u c.args.count) r (g.F.Reads.held c.args.files.now) (g.F.Reads.held c.write_card.new.files)) (sym is)
    (run_writes_card names u c.args.count (g.F.Reads.held c.args.files.now) refused (g.F.Reads.held c.write_heads.new.files) (g.F.Reads.held c.write_frames.new.files)
    (g.F.Reads.held c.write_card.new.files) c.in_ok-write_heads.ensures.written (c.in_ok-end.ensures.written u stands)
    (c.in_err-write_card.ensures.written u _ (c.in_ok-end.ensures.stands u stands)))

pub returns-clause-written : goal.returns-clause-written
returns-clause-written g c = λ u stands.
    let names = names_of c.args.names.now in
    run_writes_card names u c.args.count (g.F.Reads.held c.args.files.now) (Ok c.in_ok-end.end) (g.F.Reads.held c.write_heads.new.files) (g.F.Reads.held c.write_frames.new.files)
    (g.F.Reads.held c.write_card.new.files) c.in_ok-write_heads.ensures.written (c.in_ok-end.ensures.written u stands)
    (c.in_ok-write_card.ensures.written u _ (c.in_ok-end.ensures.stands u stands))
