use Rattle.play_laws.proofs.Sources.{played_runs, played_whole}
use Rattle.play_laws.proofs.laws.played_runs_are_the_sources.Goals as goal

pub returns-clause-played : goal.returns-clause-played
returns-clause-played c = played_runs

pub returns-clause-whole : goal.returns-clause-whole
returns-clause-whole c = played_whole
