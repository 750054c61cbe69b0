use Rattle.std.proofs.Common.{◌≡◌, ℕ, ◌<◌, ◌≤◌, Bool, false, List, ◌∷◌, length, slice_index, slice_index_or}
use Rattle.port_bus.specs.Controls.{down_now, count_now}
use Rattle.port_bus.proofs.controls.count_frame.Given as goal

abbrev pub invariant-loop-k : goal.invariant-loop-k
invariant-loop-k l = record {
  size : length l.counts ≡ 44;
  counted : (k : ℕ) (past : List Bool) → k < l.k → slice_index_or l.before k false ≡ down_now past → slice_index l.fn.counts k ≡ count_now past
      → slice_index l.counts k ≡ count_now (slice_index_or l.now k false ∷ past);
  left : (k : ℕ) → l.k ≤ k → slice_index l.counts k ≡ slice_index l.fn.counts k;
}
