use Rattle.assembler.proofs.Again.{no_fault, same_words}
use Rattle.assembler.proofs.laws.words_assemble_again.Goals as goal

pub returns-clause-faultless : goal.returns-clause-faultless
returns-clause-faultless c = no_fault

pub returns-clause-again : goal.returns-clause-again
returns-clause-again c = same_words
