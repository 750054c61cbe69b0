-- What notes hold that were empty before these operations.
use Rattle.std.specs.Prelude.{ℕ, ◌≡◌, length}
use Rattle.v32_console.specs.Machine.{Operations}
use Rattle.v32_console.specs.Taking.{Noted}

-- their answers, how many there were, and how many instructions; for how many more answers there is room is not told
pub record AreNotes (o : Operations) (n : Noted) : Type 0 where
  pub answers_are : n.answers ≡ o.answers
  pub events_are : n.events ≡ length o.events
  pub instructions_are : n.instructions ≡ o.instructions
