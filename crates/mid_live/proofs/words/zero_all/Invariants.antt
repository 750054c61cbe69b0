use Rattle.std.proofs.Common.{length, ◌-◌, ◌≡◌}
use Rattle.mid_live.proofs.words.zero_all.Given as goal

abbrev pub invariant-words : goal.invariant-words
invariant-words l = length l.ws.items ≡ length l.initial.ws.items

abbrev pub decreases-words : goal.decreases-words
decreases-words l = length l.ws.items - l.i
