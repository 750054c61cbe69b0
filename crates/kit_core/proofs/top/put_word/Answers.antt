use Rattle.std.proofs.Common.{rules, ◌≡◌, ◌++◌, subst}
use Rattle.gen_source.specs.Summary.{summary_end}
use Rattle.kit_core.specs.inner.Putting.{Shows}
use Rattle.kit_core.proofs.Showing.{shown_twice}
use Rattle.kit_core.proofs.top.put_word.Goals as goal

pub returns-in-Err-Memory-clause-shows : goal.returns-in-Err-Memory-clause-shows
returns-in-Err-Memory-clause-shows g c =
    let is : c.summary_end-end.result ≡ summary_end c.args.word = search rules in
    subst (λ end. Shows 0 (c.args.front.now ++ end) c.put_last.result (g.S.Sink.written c.args.out.now) (g.S.Sink.written c.put_last.new.out)) is
    (shown_twice _ _ _ c.in-Err-Memory.ensures.puts.0 _ _ _ c.in-Err-Memory.ensures.puts.1 c.put_last.ensures.puts)
