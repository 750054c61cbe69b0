use Rattle.std.proofs.Common.{rules, ◌≡◌, [], ◌∷◌, sym, subst, refl}
use Rattle.std.specs.Prelude.{Err}
use Rattle.kit_base.specs.Effects.{Appends}
use Rattle.asset_pack.specs.Words.{words_text}
use Rattle.v32_console.specs.Frames.{frame_of}
use Rattle.run_core.specs.Outputs.{frame_outputs}
use Rattle.run_core.specs.Writing.{Writes, names_of}
use Rattle.run_core.proofs.Holding.{there_after}
use Rattle.run_core.proofs.Parts.{frame_cut_first, frame_cut_second, frame_done}
use Rattle.run_core.proofs.frames.write_frame.Goals as goal

pub returns-in_err-append_words-clause-written : goal.returns-in_err-append_words-clause-written
returns-in_err-append_words-clause-written g c = λ u m stands rest.
    let names = names_of c.args.names.now in
    let n = frame_of u m in
    let is : c.from_residual.result ≡ Err c.in_err-append_words.field-0.0 = search rules in
    let done = c.frame-end.ensures.frame u m stands rest in
    subst (λ r. Writes names (frame_outputs names u n) r (g.F.Reads.held c.args.files.now) (g.F.Reads.held c.append_words.new.files)) (sym is)
    (frame_cut_first names u n c.screen.result.now c.screen.result.now (c.screen.ensures.pixels u n done.0) _ _ _ (c.in_err-append_words.ensures.written names refl))

pub append_words-requires-2-clause-there : goal.append_words-requires-2-clause-there
append_words-requires-2-clause-there g c =
    let names = names_of c.args.names.now in
    there_after names.samples (Appends names.frames (words_text c.screen.result.now) ∷ []) _ _ (c.in_ok-append_words.ensures.written names refl) c.requires.samples

pub returns-in_err-append_words-2-clause-written : goal.returns-in_err-append_words-2-clause-written
returns-in_err-append_words-2-clause-written g c = λ u m stands rest.
    let names = names_of c.args.names.now in
    let n = frame_of u m in
    let is : c.from_residual-in_err-append_words-2.result ≡ Err c.in_err-append_words-2.field-0.0 = search rules in
    let done = c.frame-end.ensures.frame u m stands rest in
    subst (λ r. Writes names (frame_outputs names u n) r (g.F.Reads.held c.args.files.now) (g.F.Reads.held c.append_words-2.new.files)) (sym is)
    (frame_cut_second names u n c.screen.result.now c.samples.result.now (c.screen.ensures.pixels u n done.0) _ _ _ _ (c.samples.ensures.samples u n done.0)
    (c.in_ok-append_words.ensures.written names refl) (c.in_err-append_words-2.ensures.written names refl))

pub returns-clause-written : goal.returns-clause-written
returns-clause-written g c = λ u m stands rest.
    let names = names_of c.args.names.now in
    let n = frame_of u m in
    let done = c.frame-end.ensures.frame u m stands rest in
    frame_done names u n c.screen.result.now c.samples.result.now (c.screen.ensures.pixels u n done.0) _ _ _ (c.samples.ensures.samples u n done.0)
    (c.in_ok-append_words.ensures.written names refl) (c.in_ok-append_words-2.ensures.written names refl)

pub returns-clause-there : goal.returns-clause-there
returns-clause-there g c = λ name h.
    let names = names_of c.args.names.now in
    there_after name (Appends names.samples (words_text c.samples.result.now) ∷ []) _ _ (c.in_ok-append_words-2.ensures.written names refl)
    (there_after name (Appends names.frames (words_text c.screen.result.now) ∷ []) _ _ (c.in_ok-append_words.ensures.written names refl) h)
