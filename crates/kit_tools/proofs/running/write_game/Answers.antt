use Rattle.std.proofs.Common.{rules, ◌≡◌}
use Rattle.std.specs.Prelude.{Err}
use Rattle.kit_base.specs.declared.failure.Failure.TheVariants as failures
use Rattle.kit_words.specs.Parsed.{run_words_from}
use Rattle.kit_tools.specs.Running.{names_in}
use Rattle.kit_tools.specs.Gaming.{game_of}
use Rattle.kit_tools.proofs.Games.{not_begun_if}
use Rattle.kit_tools.proofs.running.write_game.Goals as goal

pub returns-in_err-opened-clause-written : goal.returns-in_err-opened-clause-written
returns-in_err-opened-clause-written g c =
    let is : c.from_residual.result ≡ Err failures.Memory = search rules in
    not_begun_if (names_in (run_words_from c.args.words.now)) (game_of c.args.game) _ _ is

pub returns-clause-written : goal.returns-clause-written
returns-clause-written g c =
    let is = c.in_ok-opened.ensures in
    c.write_outputs.ensures.written (game_of c.args.game) is.own is.run is.ending
