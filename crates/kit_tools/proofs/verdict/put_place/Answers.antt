use Rattle.std.proofs.Common.{rules, ◌≡◌, ◌++◌, sym, subst}
use Rattle.std.specs.Prelude.{Err}
use Rattle.trace_core.specs.Putting.{PutsText}
use Rattle.trace_core.proofs.Puts.{front_of_piece}
use Rattle.run_core.proofs.Endings.{put_rest}
use Rattle.kit_tools.specs.Watching.{line_end}
use Rattle.kit_tools.proofs.verdict.put_place.Goals as goal

pub returns-in_err-put_both-clause-puts : goal.returns-in_err-put_both-clause-puts
returns-in_err-put_both-clause-puts g c =
    let piece = c.args.start.now ++ c.args.file.now in
    let rest = line_end c.args.line in
    let is : c.from_residual.result ≡ Err c.in_err-put_both.field-0.0 = search rules in
    subst (λ r. PutsText (piece ++ rest) r (g.S.Sink.written c.args.out.now) (g.S.Sink.written c.put_both.new.out)) (sym is)
    (front_of_piece piece rest _ _ c.in_err-put_both.ensures.puts)

pub returns-clause-puts : goal.returns-clause-puts
returns-clause-puts g c =
    let piece = c.args.start.now ++ c.args.file.now in
    let rest = line_end c.args.line in
    let last : PutsText rest c.put_piece.result (g.S.Sink.written c.put_both.new.out) (g.S.Sink.written c.put_piece.new.out) = search rules in
    put_rest piece rest c.put_piece.result _ _ _ c.in_ok-put_both.ensures.puts last
