use Rattle.std.proofs.Common.{◌≡◌, ℕ, ◌*◌, ◌<◌, ◌≤◌, get_or}
use Rattle.pix_lanes.specs.Pixels.{drawn}
use Rattle.pix_lanes.proofs.rows.blend_eights.Given as goal

abbrev pub invariant-loop-i : goal.invariant-loop-i
invariant-loop-i l = record {
  drawn : (k : ℕ) → k < 8 * l.i → get_or l.dst k 0 ≡ drawn l.mode l.multiply (get_or l.src k 0) (get_or l.initial.dst k 0);
  rest : (k : ℕ) → 8 * l.i ≤ k → get_or l.dst k 0 ≡ get_or l.initial.dst k 0;
}
