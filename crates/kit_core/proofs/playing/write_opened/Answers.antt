use Rattle.kit_words.specs.Parsed.{run_words_from}
use Rattle.kit_core.proofs.Plays.{play_built_cut, play_written}
use Rattle.kit_core.proofs.playing.write_opened.Goals as goal

pub returns-in-Ok-clause-written : goal.returns-in-Ok-clause-written
returns-in-Ok-clause-written g c game is =
    play_written c.args.map.now (run_words_from c.args.words.now) c.args.built.now game c.write_outputs.result _ (g.F.Reads.held c.write_made.new.files) _
    c.in-Ok.ensures.ok (c.write_outputs.ensures.written game is.own is.run is.ending)

pub returns-in-Err-clause-written : goal.returns-in-Err-clause-written
returns-in-Err-clause-written g c game is =
    play_built_cut c.args.map.now (run_words_from c.args.words.now) c.args.built.now game c.in-Err.refusal _ _ c.in-Err.ensures.err
