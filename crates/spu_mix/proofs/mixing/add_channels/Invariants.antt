use Rattle.std.proofs.Common.{◌≡◌, ℕ, ◌<◌, ◌≤◌, ◌*◌, ◌++◌, get_or, take, drop}
use Rattle.std.specs.Prelude.{sum_by, map}
use Rattle.spu_mix.specs.Mixing.{left_of, right_of, channel_after}
use Rattle.spu_mix.proofs.mixing.add_channels.Given as goal

abbrev pub invariant-loop-i : goal.invariant-loop-i
invariant-loop-i l = record {
  left : (k : ℕ) → k < 735 → get_or l.left k 0 ≡ sum_by (left_of l.sounds k) (take l.i l.initial.channels);
  right : (k : ℕ) → k < 735 → get_or l.right k 0 ≡ sum_by (right_of l.sounds k) (take l.i l.initial.channels);
  small : (k : ℕ) → (get_or l.left k 0 ≤ l.i * 65535) × (get_or l.right k 0 ≤ l.i * 65535);
  channels : l.channels ≡ map (channel_after l.sounds 735) (take l.i l.initial.channels) ++ drop l.i l.initial.channels;
}
