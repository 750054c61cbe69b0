use Rattle.std.proofs.Common.{◌∷◌, ap, ◌∙◌}
use Rattle.port_history.specs.Past.{Began}
use Rattle.v32_console.specs.Stands.{Parts}
use Rattle.v32_console.proofs.Frames.{frame_done, frame_noted}
use Rattle.v32_console.proofs.console.Console.do_frame.Goals as goal

pub returns-clause-frame : goal.returns-clause-frame
returns-clause-frame c u m stands rest =
    let held = rw (← c.self.view_is) at stands in
    let ran = c.run_frame-end.ensures.ran u (Began ∷ m.past) (c.begin_frame.ensures.stands u m.past held.board) in
    frame_done u m _ c.run_frame-end.result _ ran.0 held.state_is rest ran.1.0 (c.mix_frame.ensures.stands u ran.0 ran.1.1)

pub returns-clause-noted : goal.returns-clause-noted
returns-clause-noted c u m stands rest =
    let held = rw (← c.self.view_is) at stands in
    let noted = c.run_frame-end.ensures.noted u (Began ∷ m.past) (c.begin_frame.ensures.stands u m.past held.board) in
    frame_noted u m _ _ _ _ _ held.state_is rest noted (c.begin_frame.ensures.tape ∙ ap (λ (x : Parts). x.board.tape) c.self.view_is) c.mix_frame.ensures.cycles c.mix_frame.ensures.tape
