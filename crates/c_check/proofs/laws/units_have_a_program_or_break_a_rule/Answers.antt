use Rattle.c_check.proofs.WholeExact.{one_program, one_fault, not_both, either}
use Rattle.c_check.proofs.laws.units_have_a_program_or_break_a_rule.Goals as goal

pub returns-clause-program : goal.returns-clause-program
returns-clause-program c = λ all p q g h. one_program g h

pub returns-clause-fault : goal.returns-clause-fault
returns-clause-fault c = λ all f g h k. one_fault h k

pub returns-clause-either : goal.returns-clause-either
returns-clause-either c = λ all p f g h. not_both g h

pub returns-clause-always : goal.returns-clause-always
returns-clause-always c = either
