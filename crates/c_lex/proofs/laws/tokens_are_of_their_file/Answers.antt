use Rattle.c_lex.proofs.Files.{all_placed}
use Rattle.c_lex.proofs.laws.tokens_are_of_their_file.Goals as goal

pub returns-clause-file : goal.returns-clause-file
returns-clause-file c = λ file bytes tokens is. (all_placed file bytes tokens is).files

pub returns-clause-lines : goal.returns-clause-lines
returns-clause-lines c = λ file bytes tokens is. (all_placed file bytes tokens is).lines

pub returns-clause-count : goal.returns-clause-count
returns-clause-count c = λ file bytes tokens is. (all_placed file bytes tokens is).count
