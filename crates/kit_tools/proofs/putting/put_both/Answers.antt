use Rattle.std.proofs.Common.{rules, ◌≡◌, ◌++◌, sym, subst}
use Rattle.std.specs.Prelude.{Err}
use Rattle.trace_core.specs.Putting.{PutsText}
use Rattle.trace_core.proofs.Puts.{front_of_piece}
use Rattle.run_core.proofs.Endings.{put_rest}
use Rattle.kit_tools.proofs.putting.put_both.Goals as goal

pub returns-in_err-put_piece-clause-puts : goal.returns-in_err-put_piece-clause-puts
returns-in_err-put_piece-clause-puts g c =
    let is : c.from_residual.result ≡ Err c.in_err-put_piece.field-0.0 = search rules in
    subst (λ r. PutsText (c.args.first.now ++ c.args.second.now) r (g.S.Sink.written c.args.out.now) (g.S.Sink.written c.put_piece.new.out)) (sym is)
    (front_of_piece c.args.first.now c.args.second.now _ _ c.in_err-put_piece.ensures.puts)

pub returns-clause-puts : goal.returns-clause-puts
returns-clause-puts g c = put_rest c.args.first.now c.args.second.now c.put_piece-2.result _ _ _ c.in_ok-put_piece.ensures.puts c.put_piece-2.ensures.puts
