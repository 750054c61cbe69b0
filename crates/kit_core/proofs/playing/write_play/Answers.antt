use Rattle.std.proofs.Common.{rules, ◌≡◌}
use Rattle.std.specs.Prelude.{Err}
use Rattle.kit_base.specs.declared.failure.Failure.TheVariants as failures
use Rattle.kit_words.specs.Parsed.{run_words_from}
use Rattle.kit_tools.specs.Gaming.{game_of}
use Rattle.kit_core.proofs.Plays.{play_not_begun}
use Rattle.kit_core.proofs.playing.write_play.Goals as goal

pub returns-in_err-outputs-clause-written : goal.returns-in_err-outputs-clause-written
returns-in_err-outputs-clause-written g c =
    let is : c.from_residual.result ≡ Err failures.Memory = search rules in
    play_not_begun c.args.map.now (run_words_from c.args.words.now) c.args.built.now (game_of c.args.game) _ _ is

pub returns-in_err-opened-clause-written : goal.returns-in_err-opened-clause-written
returns-in_err-opened-clause-written g c =
    let is : c.from_residual-in_err-opened.result ≡ Err failures.Memory = search rules in
    play_not_begun c.args.map.now (run_words_from c.args.words.now) c.args.built.now (game_of c.args.game) _ _ is

pub returns-clause-written : goal.returns-clause-written
returns-clause-written g c = c.write_opened.ensures.written (game_of c.args.game) c.in_ok-opened.ensures
