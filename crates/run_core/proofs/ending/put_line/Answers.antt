use Rattle.std.proofs.Common.{rules, ◌≡◌, ◌++◌, [], ◌∷◌, sym, subst}
use Rattle.std.specs.Prelude.{ℕ, List, Err}
use Rattle.trace_core.specs.Putting.{PutsText}
use Rattle.trace_core.proofs.Puts.{front_of_piece}
use Rattle.run_core.specs.Ending.{place_text}
use Rattle.run_core.proofs.Endings.{put_rest}
use Rattle.run_core.proofs.ending.put_line.Goals as goal

pub returns-in_err-put_start-clause-puts : goal.returns-in_err-put_start-clause-puts
returns-in_err-put_start-clause-puts g c =
    let piece = c.args.start.now ++ place_text (record { words = c.args.words; files = c.args.files.now; rows = c.args.rows.now }) c.args.address in
    let rest : List ℕ = 10 ∷ [] in
    let is : c.from_residual.result ≡ Err c.in_err-put_start.field-0.0 = search rules in
    subst (λ r. PutsText (piece ++ rest) r (g.S.Sink.written c.args.out.now) (g.S.Sink.written c.put_start.new.out)) (sym is)
    (front_of_piece piece rest _ _ c.in_err-put_start.ensures.puts)

pub returns-clause-puts : goal.returns-clause-puts
returns-clause-puts g c =
    let piece = c.args.start.now ++ place_text (record { words = c.args.words; files = c.args.files.now; rows = c.args.rows.now }) c.args.address in
    let rest : List ℕ = 10 ∷ [] in
    let last : PutsText rest c.put_line_end.result (g.S.Sink.written c.put_start.new.out) (g.S.Sink.written c.put_line_end.new.out) = search rules in
    put_rest piece rest c.put_line_end.result _ _ _ c.in_ok-put_start.ensures.puts last
