use Rattle.std.proofs.Common.{length, ◌-◌, []}
use Rattle.mid_live.proofs.Written.{Copied}
use Rattle.mid_live.proofs.marked.first_held.Given as goal

abbrev pub invariant-words : goal.invariant-words
invariant-words l = Copied l.words l.i []

abbrev pub decreases-words : goal.decreases-words
decreases-words l = length l.words - l.i
