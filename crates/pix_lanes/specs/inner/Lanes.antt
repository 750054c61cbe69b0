-- Eight pixels side by side, two parts of each in a vector of sixteen lanes: red and blue, or green and alpha. These say what
-- private functions do.
use Rattle.std.specs.Prelude.{ℕ, ◌≡◌, ◌≤◌, ◌<◌, ◌+◌, ◌*◌, List, slice_index}

-- each of sixteen lanes holds a byte
pub record AreBytes (v : List ℕ) : Type 0 where
  pub byte : (k : ℕ) → k < 16 → slice_index v k ≤ 255

-- of each of eight words, one part in a lane and another in the next
pub record HasParts (v words : List ℕ) (first second : ℕ → ℕ) : Type 0 where
  pub firsts : (j : ℕ) → j < 8 → slice_index v (2 * j) ≡ first (slice_index words j)
  pub seconds : (j : ℕ) → j < 8 → slice_index v (2 * j + 1) ≡ second (slice_index words j)
