use Rattle.std.proofs.Common.{◌≡◌, ℕ, ◌<◌, ◌≤◌, ◌+◌, ◌-◌, get_or, length, Some, None}
use Rattle.spu_mix.specs.Positions.{position_after}
use Rattle.spu_mix.specs.Sides.{left_at, right_at}
use Rattle.spu_mix.proofs.playing.play.Given as goal

abbrev pub invariant-runs : goal.invariant-runs
invariant-runs l = record {
  done : l.done ≤ 735;
  inside : l.position < length l.samples → l.from < length l.samples;
  at : l.position < length l.samples → position_after l.looping l.loop_start l.loop_end (length l.samples) l.from l.done ≡ Some l.position;
  ended : length l.samples ≤ l.position → (k : ℕ) → l.done ≤ k → position_after l.looping l.loop_start l.loop_end (length l.samples) l.from k ≡ None;
  left : (k : ℕ) → k < l.done → get_or l.left k 0 ≡ get_or l.initial.left k 0 + left_at l.samples (position_after l.looping l.loop_start l.loop_end (length l.samples) l.from k);
  right : (k : ℕ) → k < l.done → get_or l.right k 0 ≡ get_or l.initial.right k 0 + right_at l.samples (position_after l.looping l.loop_start l.loop_end (length l.samples) l.from k);
  rest : (k : ℕ) → l.done ≤ k → (get_or l.left k 0 ≡ get_or l.initial.left k 0) × (get_or l.right k 0 ≡ get_or l.initial.right k 0);
}

abbrev pub decreases-runs : goal.decreases-runs
decreases-runs l = 735 - l.done
