use Rattle.std.proofs.Common.{◌≡◌, ◌+◌, ap, ◌∙◌}
use Rattle.v32_console.specs.Moments.{console_at}
use Rattle.v32_console.specs.Frames.{frame_of}
use Rattle.v32_console.specs.Stands.{Parts}
use Rattle.v32_console.specs.Taking.{Taped}
use Rattle.v32_console.proofs.Frames.{frame_reached, frame_notes, with_tape}
use Rattle.v32_console.proofs.console.Console.frame_noting.Goals as goal

pub returns-clause-frame : goal.returns-clause-frame
returns-clause-frame c u m stands rest =
    let ran = c.do_frame-end.ensures.frame u m (with_tape u m _ c.recount.new.self (rw (← c.self.view_is) at stands)) rest in
    (with_tape u (frame_of u m) _ c.swap-2.new.x (rw (← c.self-2.view_is) at ran.0), ran.1)

pub returns-clause-edges : goal.returns-clause-edges
returns-clause-edges c u k stands rest = frame_reached u k c.do_frame-end.result _ (returns-clause-frame c u (console_at u k) stands rest)

pub returns-clause-noted : goal.returns-clause-noted
returns-clause-noted c u m stands rest =
    let noted = c.do_frame-end.ensures.noted u m (with_tape u m _ c.recount.new.self (rw (← c.self.view_is) at stands)) rest in
    let before : c.recount.new.self ≡ record { answers = c.args.notes.now.answers; spare = c.args.notes.now.spare; events = 0 } =
    c.recount.ensures ∙ (λ i. record { answers = (c.swap.ensures.x_after i).answers; spare = (c.swap.ensures.x_after i).spare; events = 0 })
    ∙ (λ i. record { answers = (c.notes.view_is i).answers; spare = (c.notes.view_is i).spare; events = 0 }) in
    let tape : c.swap-2.new.y ≡ c.do_frame-end.new.self.board.tape = c.swap-2.ensures.y_after ∙ ap (λ (x : Parts). x.board.tape) c.self-2.view_is in
    let events : c.events-events.result ≡ c.do_frame-end.new.self.board.tape.events = c.events-events.ensures ∙ ap (λ (x : Taped). x.events) tape in
    c.count.ensures
    ∙ (λ i. record {
      answers = (tape i).answers;
      events = (c.notes.view_is i).events + events i;
      instructions = (c.notes.view_is i).instructions + (c.self-2.view_is i).board.cycles;
      spare = (tape i).spare;
    })
    ∙ frame_notes u m c.args.notes.now.answers c.args.notes.now.spare c.args.notes.now.events c.args.notes.now.instructions c.do_frame-end.new.self.board c.recount.new.self noted before
    c.do_frame-end.ensures.within c.requires.room
