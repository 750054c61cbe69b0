-- What the devices hold, as their users see it.
use Rattle.std.specs.Prelude.{ℕ, Bool}
use Rattle.run_files.specs.Script.{Script}

-- the words of the program, the numbers of textures and of sounds, and whether a memory card is connected
pub record Facts : Type 0 where
  pub program : ℕ
  pub textures : ℕ
  pub sounds : ℕ
  pub card : Bool

-- how many frames began, the last random value, and the selected gamepad
pub record State : Type 0 where
  pub script : Script
  pub facts : Facts
  pub frames : ℕ
  pub random : ℕ
  pub selected : ℕ
