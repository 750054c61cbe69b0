use Rattle.std.proofs.Common.{◌≡◌, ℕ, ◌<◌, ◌≤◌, ◌+◌, ◌-◌, ◌*◌, ◌⊎◌, get_or}
use Rattle.pix_lanes.specs.Pixels.{drawn}
use Rattle.gpu_state.specs.Places.{place}
use Rattle.gpu_state.proofs.painting.paint.Given as goal

abbrev pub invariant-loop-y : goal.invariant-loop-y
invariant-loop-y l = record {
  inside : (x y : ℕ) → l.columns.from ≤ x → x < l.columns.to → l.rows.from ≤ y → y < l.y →
      get_or l.screen (place x y) 0 ≡ drawn l.mode l.multiply
      (get_or l.pixels ((l.rows.first + (y - l.rows.from)) * l.width + (l.columns.first + (x - l.columns.from))) 0)
      (get_or l.initial.screen (place x y) 0);
  beside : (x y : ℕ) → x < 640 → (x < l.columns.from) ⊎ (l.columns.to ≤ x) → get_or l.screen (place x y) 0 ≡ get_or l.initial.screen (place x y) 0;
  above : (x y : ℕ) → x < 640 → (y < l.rows.from) ⊎ (l.y ≤ y) → get_or l.screen (place x y) 0 ≡ get_or l.initial.screen (place x y) 0;
}
