use Rattle.v32_isa.proofs.LongerRuns.{runs_extend}
use Rattle.v32_isa.proofs.laws.longer_runs_extend.Goals as goal

pub returns : goal.returns
returns c = runs_extend
