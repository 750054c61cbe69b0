use Rattle.c_prep.proofs.files.include_in.Goals as goal

pub returns-in-Include-clause-numbers : goal.returns-in-Include-clause-numbers
returns-in-Include-clause-numbers c = λ n below. c.in-Some.ensures.numbers n below
