use Rattle.std.proofs.Common.{rules, ◌≡◌, ◌++◌, sym, subst}
use Rattle.std.specs.Prelude.{Err}
use Rattle.trace_core.specs.Putting.{PutsText}
use Rattle.trace_core.proofs.Puts.{front_of_piece}
use Rattle.run_core.specs.Ending.{place_text}
use Rattle.run_core.proofs.Endings.{put_rest}
use Rattle.run_core.proofs.ending.put_start.Goals as goal

pub returns-in_err-put_piece-clause-puts : goal.returns-in_err-put_piece-clause-puts
returns-in_err-put_piece-clause-puts g c =
    let piece = c.args.start.now in
    let rest = place_text (record { words = c.args.words; files = c.args.files.now; rows = c.args.rows.now }) c.args.address in
    let is : c.from_residual.result ≡ Err c.in_err-put_piece.field-0.0 = search rules in
    subst (λ r. PutsText (piece ++ rest) r (g.S.Sink.written c.args.out.now) (g.S.Sink.written c.put_piece.new.out)) (sym is)
    (front_of_piece piece rest _ _ c.in_err-put_piece.ensures.puts)

pub returns-clause-puts : goal.returns-clause-puts
returns-clause-puts g c =
    let piece = c.args.start.now in
    let rest = place_text (record { words = c.args.words; files = c.args.files.now; rows = c.args.rows.now }) c.args.address in
    let last : PutsText rest c.put_place.result (g.S.Sink.written c.put_piece.new.out) (g.S.Sink.written c.put_place.new.out) = search rules in
    put_rest piece rest c.put_place.result _ _ _ c.in_ok-put_piece.ensures.puts last
