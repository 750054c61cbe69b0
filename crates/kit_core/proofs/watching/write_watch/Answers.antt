use Rattle.std.proofs.Common.{rules, ◌≡◌}
use Rattle.std.specs.Prelude.{Err}
use Rattle.kit_base.specs.declared.failure.Failure.TheVariants as failures
use Rattle.c_check.specs.View.{program}
use Rattle.c_image.specs.Imaging.{frame_sizes}
use Rattle.kit_tools.specs.Gaming.{settings_of}
use Rattle.kit_words.specs.Parsed.{watch_words_from}
use Rattle.kit_core.specs.Meaning.{console_of}
use Rattle.kit_core.specs.Watching.{verdict_at, watched_in}
use Rattle.kit_core.proofs.Watches.{watch_not_begun}
use Rattle.kit_core.proofs.watching.write_watch.Goals as goal

pub returns-in_err-outputs-clause-written : goal.returns-in_err-outputs-clause-written
returns-in_err-outputs-clause-written g c =
    let is : c.from_residual.result ≡ Err failures.Memory = search rules in
    watch_not_begun (watch_words_from c.args.words.now) c.args.made.now.built
    (verdict_at c.args.made.now.checked.places (watched_in (program c.args.made.now.checked.program) (frame_sizes c.args.made.now.built.map) (console_of c.args.cart (settings_of c.args.settings)) c.args.settings.count)) _ _ is

pub returns-in_err-opened-clause-written : goal.returns-in_err-opened-clause-written
returns-in_err-opened-clause-written g c =
    let is : c.from_residual-in_err-opened.result ≡ Err failures.Memory = search rules in
    watch_not_begun (watch_words_from c.args.words.now) c.args.made.now.built
    (verdict_at c.args.made.now.checked.places (watched_in (program c.args.made.now.checked.program) (frame_sizes c.args.made.now.built.map) (console_of c.args.cart (settings_of c.args.settings)) c.args.settings.count)) _ _ is

pub returns-clause-written : goal.returns-clause-written
returns-clause-written g c =
    c.write_opened.ensures.written (console_of c.args.cart (settings_of c.args.settings)) c.args.settings.count (frame_sizes c.args.made.now.built.map) c.in_ok-opened.ensures.opened
