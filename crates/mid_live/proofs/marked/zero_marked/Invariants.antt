use Rattle.std.proofs.Common.{length, ◌-◌}
use Rattle.mid_live.proofs.Written.{Zeroed}
use Rattle.mid_live.proofs.marked.zero_marked.Given as goal

abbrev pub invariant-words : goal.invariant-words
invariant-words l = Zeroed l.initial.words.items l.words.items l.marks l.i

abbrev pub decreases-words : goal.decreases-words
decreases-words l = length l.words.items - l.i
