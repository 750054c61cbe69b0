use Rattle.project_text.proofs.Whole.{found, only}
use Rattle.project_text.proofs.laws.projects_are_what_the_lines_give.Goals as goal

pub returns : goal.returns
returns c = λ bytes p. (found bytes p, only bytes p)
