use Rattle.std.proofs.Common.{◌≡◌, ℕ, ◌<◌, ◌≤◌, get_or}
use Rattle.pix_lanes.specs.Pixels.{drawn}
use Rattle.pix_lanes.proofs.rows.blend_rest.Given as goal

abbrev pub invariant-loop-i : goal.invariant-loop-i
invariant-loop-i l = record {
  before : (k : ℕ) → k < l.from → get_or l.dst k 0 ≡ get_or l.initial.dst k 0;
  drawn : (k : ℕ) → l.from ≤ k → k < l.i → get_or l.dst k 0 ≡ drawn l.mode l.multiply (get_or l.src k 0) (get_or l.initial.dst k 0);
  rest : (k : ℕ) → l.i ≤ k → get_or l.dst k 0 ≡ get_or l.initial.dst k 0;
}
