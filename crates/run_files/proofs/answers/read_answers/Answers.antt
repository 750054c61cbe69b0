use Rattle.run_files.proofs.AnswersWhole.{is_only, is_first}
use Rattle.run_files.proofs.answers.read_answers.Goals as goal

pub returns-clause-only : goal.returns-clause-only
returns-clause-only c = λ words is. is_only c.args.bytes.now words c.answers_of.result c.answers_of.ensures is

pub returns-clause-first : goal.returns-clause-first
returns-clause-first c = λ line is. is_first c.args.bytes.now line c.answers_of.result c.answers_of.ensures is
