-- What an operation leaves in each lane.
use Rattle.std.proofs.Common.{◌≡◌, ℕ, ◌+◌, ◌%◌, ◌^◌, ◌<◌, arith}

-- a small sum and one side of a sample, in one lane
pub side_added : (x y : ℕ) → x < 1048576 → (x + y % 65536) % 2 ^ 32 ≡ x + y % 65536
side_added x y h = omega arith
