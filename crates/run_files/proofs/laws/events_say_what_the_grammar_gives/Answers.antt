use Rattle.run_files.proofs.PadLines.{event_is, is_event}
use Rattle.run_files.proofs.laws.events_say_what_the_grammar_gives.Goals as goal

pub returns : goal.returns
returns c = record { event = λ connected line e. (event_is connected line e, is_event connected line e) }
