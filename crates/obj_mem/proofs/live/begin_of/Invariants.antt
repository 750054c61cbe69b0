use Rattle.std.proofs.Common.{ℕ, ◌-◌, ◌≤◌, ◌<◌, length, map}
use Rattle.obj_mem.specs.Living.{number_at}
use Rattle.obj_mem.specs.LiveView.{live_object}
use Rattle.obj_mem.proofs.live.begin_of.Given as goal

-- Those before `low` are below the number, those from `high` on are not.
abbrev pub invariant-loop-low : goal.invariant-loop-low
invariant-loop-low l = record {
  order : l.low ≤ l.high;
  bound : l.high ≤ length l.live;
  below : (k : ℕ) → k < l.low → number_at (map live_object l.live) k < l.number;
  from : (k : ℕ) → l.high ≤ k → k < length l.live → l.number ≤ number_at (map live_object l.live) k;
}

abbrev pub decreases-loop-low : goal.decreases-loop-low
decreases-loop-low l = l.high - l.low
