use Rattle.run_files.proofs.AnswersWhole.{line_is, is_line}
use Rattle.run_files.proofs.laws.answers_say_what_the_grammar_gives.Goals as goal

pub returns : goal.returns
returns c = record { answer = λ line word. (line_is line word, is_line line word) }
