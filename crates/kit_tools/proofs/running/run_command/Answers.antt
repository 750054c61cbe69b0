use Rattle.std.proofs.Common.{rules, ◌≡◌}
use Rattle.std.specs.Prelude.{Ok, Err}
use Rattle.kit_words.specs.Parsed.{run_words_from}
use Rattle.kit_tools.specs.Gaming.{game_of}
use Rattle.kit_tools.specs.Running.{Game, game_due, names_in, run_work, IsReadToRun}
use Rattle.kit_tools.proofs.Games.{run_left}
use Rattle.kit_tools.proofs.Stages.{stopped_if}
use Rattle.kit_tools.proofs.running.run_command.Goals as goal

pub returns-in_err-game-clause-told : goal.returns-in_err-game-clause-told
returns-in_err-game-clause-told g c =
    let words = run_words_from c.args.words.now in
    let is : c.from_residual.result ≡ Err c.in_err-game.field-0.0 = search rules in
    stopped_if game_of (λ m. game_due words m)
    (λ (game : Game). Ok (run_work (names_in words) game))
    (λ m. IsReadToRun words m) c.from_residual.result c.in_err-game.field-0.0 (g.F.Reads.held c.args.files.now) (g.F.Reads.held c.read_game.new.files)
    is c.in_err-game.ensures.told c.in_err-game.ensures.fails c.in_err-game.ensures.held

pub returns-clause-told : goal.returns-clause-told
returns-clause-told g c =
    run_left (run_words_from c.args.words.now) (game_of c.in_ok-game.game) c.write_game.result _ (g.F.Reads.held c.read_game.new.files) _
    c.in_ok-game.ensures.told c.in_ok-game.ensures.held c.write_game.ensures.written
