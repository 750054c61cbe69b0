-- The devices stand for a past: what they hold is what the script, the cartridge and that past give.
use Rattle.std.specs.Prelude.{◌≡◌, List}
use Rattle.run_files.specs.Script.{Script}
use Rattle.port_history.specs.Past.{Happening, frames_begun}
use Rattle.port_bus.specs.Random.{seed, reads, random_after}
use Rattle.port_bus.specs.Answers.{selected_pad}
use Rattle.port_bus.specs.State.{Facts, State}

pub record DevicesStand (script : Script) (facts : Facts) (past : List Happening) (devices : State) : Type 0 where
  pub script_is : devices.script ≡ script
  pub facts_are : devices.facts ≡ facts
  pub frames_are : devices.frames ≡ frames_begun past
  pub random_is : devices.random ≡ random_after (seed past) (reads past)
  pub selected_is : devices.selected ≡ selected_pad past
