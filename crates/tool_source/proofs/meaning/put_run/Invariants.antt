use Rattle.std.proofs.Common.{◌≡◌, length}
use Rattle.tool_source.proofs.meaning.put_run.Given as goal

abbrev pub decreases-events : goal.decreases-events
decreases-events l = length l.runner.left.events
