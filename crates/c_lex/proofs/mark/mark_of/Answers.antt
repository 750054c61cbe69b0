use Rattle.c_lex.specs.Marks.{marks, mark_of}
use Rattle.c_lex.proofs.mark.mark_of.Goals as goal

pub returns : goal.returns
unfolding mark_of marks
returns c = record { value = c.spelled_in.ensures }
