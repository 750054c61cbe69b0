-- When a run that was opened stands for what it was opened with.
use Rattle.std.specs.Prelude.{ℕ, ◌≡◌, ◌≤◌, length, List}
use Rattle.v32_console.specs.Setup.{Setup}
use Rattle.v32_console.specs.Moments.{opening_moment}
use Rattle.v32_console.specs.Stands.{Parts, ConsoleStands, frames_in}

-- what a run holds: the console, and how many frames it does at most
pub record RunParts : Type 0 where
  pub console : Parts
  pub count : ℕ

pub record RunStands (u : Setup) (count : ℕ) (r : RunParts) : Type 0 where
  pub console : ConsoleStands u (opening_moment u) r.console
  pub count_is : r.count ≡ count

-- before its first frame, with the room that a screen, samples or a card needs
pub record IsReady (console : Parts) (room : List ℕ) (count : ℕ) : Type 0 where
  pub room_is : length room ≡ 1048576
  pub count_within : count ≤ 3600
  pub first : frames_in console ≡ 0
