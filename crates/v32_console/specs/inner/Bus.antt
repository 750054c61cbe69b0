-- What the devices do when the processor asks a port or tells it a word.
use Rattle.std.specs.Prelude.{ℕ, ◌≡◌, ◌<◌, true, List, ◌∷◌, Option, Some, is_some}
use Rattle.v32_isa.specs.Ports.{is_readable, is_writable}
use Rattle.port_history.specs.Past.{Happening, Asked, Told}
use Rattle.v32_console.specs.declared.board.Board.{Board}
use Rattle.v32_console.specs.Setup.{Setup}
use Rattle.v32_console.specs.Devices.{answer_at}
use Rattle.v32_console.specs.Stands.{BoardStands}
use Rattle.v32_console.specs.Taking.{asked_by, told_by}

-- the instructions done in the frame and the frames that began are as they were
pub record KeepsCounts (b c : Board) : Type 0 where
  pub cycles : c.cycles ≡ b.cycles
  pub frames : c.devices.frames ≡ b.devices.frames

-- There is always an answer. In a frame, a readable port gives that of each past that the devices stand for.
pub record DevicesAnswer (b : Board) (port : ℕ) (answer : Option ℕ) (c : Board) : Type 0 where
  pub counts : KeepsCounts b c
  pub tape : c.tape ≡ b.tape
  pub some : is_some answer ≡ true
  pub stands : is_readable port ≡ true → 0 < b.devices.frames → (u : Setup) (past : List Happening) → BoardStands u past b
      → (answer ≡ Some (answer_at u past b.cycles port)) × BoardStands u (Asked port ∷ past) c

pub record DevicesTake (b : Board) (port word : ℕ) (c : Board) : Type 0 where
  pub counts : KeepsCounts b c
  pub tape : c.tape ≡ b.tape
  pub stands : is_writable port ≡ true → (u : Setup) (past : List Happening) → BoardStands u past b → BoardStands u (Told port word ∷ past) c

-- the devices, and then the tape
abbrev pub Answering : Board → ℕ → Option ℕ → Board → Type 0
Answering b port answer c = DevicesAnswer b port answer (record c { tape = b.tape }) × (c.tape ≡ asked_by answer b.tape)

abbrev pub Telling : Board → ℕ → ℕ → Board → Type 0
Telling b port word c = DevicesTake b port word (record c { tape = b.tape }) × (c.tape ≡ told_by b.tape)
