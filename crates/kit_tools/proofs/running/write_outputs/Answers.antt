use Rattle.kit_words.specs.Parsed.{run_words_from}
use Rattle.kit_tools.specs.Running.{names_in}
use Rattle.kit_tools.proofs.running.write_outputs.Goals as goal

pub returns-in-Err-clause-written : goal.returns-in-Err-clause-written
returns-in-Err-clause-written g c game are stands same =
    c.unwritten.ensures.cut (names_in (run_words_from c.args.words.now)) _ _ _ are c.in-Err.ensures.kinds (c.in-Err.ensures.cut game.setup game.count stands)
