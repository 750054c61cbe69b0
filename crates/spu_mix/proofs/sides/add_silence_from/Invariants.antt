use Rattle.std.proofs.Common.{◌≡◌, ℕ, ◌<◌, ◌≤◌, ◌+◌, ◌⊎◌, get_or}
use Rattle.spu_mix.proofs.sides.add_silence_from.Given as goal

abbrev pub invariant-loop-i : goal.invariant-loop-i
invariant-loop-i l = record {
  done : (k : ℕ) → l.at ≤ k → k < l.i → (get_or l.left k 0 ≡ get_or l.initial.left k 0 + 32768) × (get_or l.right k 0 ≡ get_or l.initial.right k 0 + 32768);
  rest : (k : ℕ) → (k < l.at) ⊎ (l.i ≤ k) → (get_or l.left k 0 ≡ get_or l.initial.left k 0) × (get_or l.right k 0 ≡ get_or l.initial.right k 0);
}
