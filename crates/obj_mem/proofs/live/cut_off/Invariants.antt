use Rattle.std.proofs.Common.{ℕ, ◌≡◌, length, map}
use Rattle.obj_mem.specs.Living.{live_below, Rises}
use Rattle.obj_mem.specs.LiveView.{live_object}
use Rattle.obj_mem.proofs.live.cut_off.Given as goal

-- What is cut off of the rest is cut off of the whole.
abbrev pub invariant-cut : goal.invariant-cut
invariant-cut l = record {
  rises : (next : ℕ) × Rises 0 next (map live_object l.live.items);
  same : live_below l.number (map live_object l.live.items) ≡ live_below l.number (map live_object l.fn.live.items);
}

abbrev pub decreases-cut : goal.decreases-cut
decreases-cut l = length l.live.items
