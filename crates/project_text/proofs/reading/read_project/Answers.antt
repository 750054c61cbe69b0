use Rattle.std.proofs.Common.{subst}
use Rattle.project_text.specs.Reading.{Gives}
use Rattle.project_text.proofs.Whole.{only}
use Rattle.project_text.proofs.reading.read_project.Goals as goal

pub returns-clause-only : goal.returns-clause-only
returns-clause-only c = λ p is. subst (λ r. Gives c.project_of.result r) (only c.args.bytes.now p is) c.project_of.ensures
