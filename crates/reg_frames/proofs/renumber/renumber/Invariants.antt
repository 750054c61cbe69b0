use Rattle.std.proofs.Common.{◌≡◌, ◌≤◌, ◌+◌, ◌++◌, length, map}
use Rattle.mid_code.specs.Choices.{slots_from, slots_named}
use Rattle.reg_frames.specs.inner.Placing.{renumbered}
use Rattle.reg_frames.proofs.renumber.renumber.Given as goal

abbrev pub invariant-loop-place : goal.invariant-loop-place
invariant-loop-place l = (length l.named.keys + length l.rest ≤ length l.at) × (slots_from l.named.keys l.rest ≡ slots_named l.at) × (l.places.items ++ map (renumbered (slots_named l.at)) l.rest ≡ map (renumbered (slots_named l.at)) l.at)

abbrev pub decreases-loop-place : goal.decreases-loop-place
decreases-loop-place l = length l.rest
