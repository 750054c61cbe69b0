use Rattle.std.proofs.Common.{◌≡◌, ℕ, ◌*◌, ◌<◌, ◌≤◌, ◌+◌, get_or}
use Rattle.spu_mix.specs.Sides.{raised_left, raised_right}
use Rattle.spu_mix.proofs.sides.add_eights.Given as goal

abbrev pub invariant-loop-i : goal.invariant-loop-i
invariant-loop-i l = record {
  left : (k : ℕ) → k < 8 * l.i → get_or l.left k 0 ≡ get_or l.initial.left k 0 + raised_left (get_or l.samples k 0);
  right : (k : ℕ) → k < 8 * l.i → get_or l.right k 0 ≡ get_or l.initial.right k 0 + raised_right (get_or l.samples k 0);
  rest : (k : ℕ) → 8 * l.i ≤ k → (get_or l.left k 0 ≡ get_or l.initial.left k 0) × (get_or l.right k 0 ≡ get_or l.initial.right k 0);
}
