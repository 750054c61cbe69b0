use Rattle.std.proofs.Common.{rules, ◌≡◌, ◌++◌, sym, subst}
use Rattle.std.specs.Prelude.{Err, codes}
use Rattle.std.specs.Fmt.{decimal}
use Rattle.trace_core.specs.Putting.{PutsText}
use Rattle.trace_core.proofs.Puts.{front_of_piece}
use Rattle.run_core.proofs.Endings.{put_rest}
use Rattle.run_core.proofs.ending.put_file_line.Goals as goal

pub returns-in_err-put_file-clause-puts : goal.returns-in_err-put_file-clause-puts
returns-in_err-put_file-clause-puts g c =
    let piece = codes " at " ++ c.args.file.now in
    let rest = codes ":" ++ decimal c.args.line in
    let is : c.from_residual.result ≡ Err c.in_err-put_file.field-0.0 = search rules in
    subst (λ r. PutsText (piece ++ rest) r (g.S.Sink.written c.args.out.now) (g.S.Sink.written c.put_file.new.out)) (sym is)
    (front_of_piece piece rest _ _ c.in_err-put_file.ensures.puts)

pub returns-clause-puts : goal.returns-clause-puts
returns-clause-puts g c =
    let piece = codes " at " ++ c.args.file.now in
    let rest = codes ":" ++ decimal c.args.line in
    let last : PutsText rest c.put_piece.result (g.S.Sink.written c.put_file.new.out) (g.S.Sink.written c.put_piece.new.out) = search rules in
    put_rest piece rest c.put_piece.result _ _ _ c.in_ok-put_file.ensures.puts last
