-- What the type of a run keeps.
use Rattle.std.specs.Prelude.{ℕ, ◌≡◌, ◌≤◌}
use Rattle.v32_console.specs.Stands.{Parts, frames_in}

-- before its first frame
pub record IsFresh (console : Parts) (count : ℕ) : Type 0 where
  pub count_within : count ≤ 3600
  pub first : frames_in console ≡ 0
