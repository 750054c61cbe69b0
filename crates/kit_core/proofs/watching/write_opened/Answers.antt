use Rattle.std.proofs.Common.{rules, ◌≡◌}
use Rattle.c_check.specs.View.{program}
use Rattle.kit_words.specs.Parsed.{watch_words_from}
use Rattle.kit_core.specs.inner.Following.{shown_by}
use Rattle.kit_core.specs.Watching.{verdict_at, watched_in}
use Rattle.kit_core.proofs.Watches.{watch_built_cut, watch_judged}
use Rattle.kit_core.proofs.watching.write_opened.Goals as goal

pub returns-in-Ok-clause-written : goal.returns-in-Ok-clause-written
returns-in-Ok-clause-written g c u count frames is =
    let shows : c.shown_by.result ≡ shown_by c.judge.result = search rules in
    watch_judged (watch_words_from c.args.words.now) c.args.made.now.built (verdict_at c.args.made.now.checked.places (watched_in (program c.args.made.now.checked.program) frames u count))
    c.judge.result c.shown_by.result _ (g.F.Reads.held c.write_made.new.files) shows c.in-Ok.ensures.ok (c.judge.ensures u count frames is)

pub returns-in-Err-clause-written : goal.returns-in-Err-clause-written
returns-in-Err-clause-written g c u count frames is =
    watch_built_cut (watch_words_from c.args.words.now) c.args.made.now.built (verdict_at c.args.made.now.checked.places (watched_in (program c.args.made.now.checked.program) frames u count))
    c.in-Err.refusal _ _ c.in-Err.ensures.err
