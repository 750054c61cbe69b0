use Rattle.run_files.proofs.PadLines.{header_is, is_header}
use Rattle.run_files.proofs.laws.headers_say_what_the_grammar_gives.Goals as goal

pub returns : goal.returns
returns c = record { header = λ line s. (header_is line s, is_header line s) }
