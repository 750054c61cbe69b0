use Rattle.asm_reader.proofs.TokenLaws.{blanks, comments, runs}
use Rattle.asm_reader.proofs.laws.words_and_numbers_are_runs_of_word_bytes.Goals as goal

pub returns : goal.returns
returns c = record { blanks = blanks; comments = comments; runs = runs }
