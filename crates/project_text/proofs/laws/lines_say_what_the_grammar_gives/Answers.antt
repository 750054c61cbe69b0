use Rattle.project_text.proofs.Entries.{entry_is, line_is}
use Rattle.project_text.proofs.laws.lines_say_what_the_grammar_gives.Goals as goal

pub returns : goal.returns
returns c = λ line e. (entry_is line e, line_is line e)
