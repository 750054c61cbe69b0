use Rattle.std.proofs.Common.{◌≡◌, ◌+◌, ◌-◌, length}
use Rattle.mid_improve.specs.inner.Slots.{slot_at}
use Rattle.mid_improve.proofs.slots.reach.Given as goal

abbrev pub invariant-reach : goal.invariant-reach
invariant-reach l = slot_at l.slots.items ≡ slot_at l.fn.slots.items

abbrev pub decreases-reach : goal.decreases-reach
decreases-reach l = l.t + 1 - length l.slots.items
