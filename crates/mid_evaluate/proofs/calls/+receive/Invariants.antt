use Rattle.std.proofs.Common.{length}
use Rattle.mid_evaluate.proofs.calls.+receive.Given as goal

abbrev pub decreases-receive : goal.decreases-receive
decreases-receive l = length l.params.now
