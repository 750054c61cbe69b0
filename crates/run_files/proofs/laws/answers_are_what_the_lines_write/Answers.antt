use Rattle.run_files.proofs.AnswersWhole.{found, only, first_faulty, is_refused}
use Rattle.run_files.proofs.laws.answers_are_what_the_lines_write.Goals as goal

pub returns : goal.returns
returns c = record {
  answers = λ bytes words. (found bytes words, only bytes words);
  refused = λ bytes code line. (first_faulty bytes code line, is_refused bytes code line);
}
