use Rattle.play_laws.proofs.Watching.{watch_decides, kept_runs, ended_runs}
use Rattle.play_laws.proofs.laws.kept_runs_are_the_sources.Goals as goal

pub returns-clause-decides : goal.returns-clause-decides
returns-clause-decides c = watch_decides

pub returns-clause-follows : goal.returns-clause-follows
returns-clause-follows c = kept_runs

pub returns-clause-whole : goal.returns-clause-whole
returns-clause-whole c = ended_runs
