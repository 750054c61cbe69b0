-- When a console stands for a moment: what links its calls to one another.
use Rattle.std.specs.Prelude.{ℕ, ◌≡◌, ◌≤◌, ◌<◌, ◌+◌, true, List}
use Rattle.cpu_core.specs.Machine.{Machine, state_of}
use Rattle.port_history.specs.Past.{Happening}
use Rattle.gpu_state.specs.Stand.{GraphicsStand}
use Rattle.spu_mix.specs.Stands.{SoundStands}
use Rattle.port_bus.specs.Stand.{DevicesStand}
use Rattle.v32_console.specs.declared.board.Board.{Board}
use Rattle.v32_console.specs.declared.frame_end.FrameEnd.{FrameEnd}
use Rattle.v32_console.specs.Setup.{Setup, facts_of}
use Rattle.v32_console.specs.Moments.{Moment, Phase, Opened, Running, Left, goes_on, console_at}
use Rattle.v32_console.specs.Frames.{frame_of}
use Rattle.v32_console.specs.Machine.{Operations}
use Rattle.v32_console.specs.Taking.{Taped, taken}

-- the devices stand for a past
pub record BoardStands (u : Setup) (past : List Happening) (b : Board) : Type 0 where
  pub graphics : GraphicsStand u.textures past b.gpu
  pub sound : SoundStands u.sounds past b.spu
  pub small : DevicesStand u.pads (facts_of u) past b.devices

-- what a console holds
pub record Parts : Type 0 where
  pub machine : Machine
  pub board : Board

-- how many frames began
abbrev pub frames_in : Parts → ℕ
frames_in c = c.board.devices.frames

pub record ConsoleStands (u : Setup) (m : Moment) (c : Parts) : Type 0 where
  pub state_is : state_of c.machine ≡ m.state
  pub board : BoardStands u m.past c.board

-- a console stands for what it was opened with, and for a number of instructions and frame edges
abbrev pub StandsAt : Setup → ℕ → Parts → Type 0
StandsAt u k c = ConsoleStands u (console_at u k) c

-- a further frame can begin
abbrev pub IsAtRest : Phase → Type 0
IsAtRest Opened = Unit {0}
IsAtRest (Running done) = ⊥
IsAtRest (Left end) = goes_on end ≡ true

-- a frame was left
abbrev pub HasLeft : Phase → Type 0
HasLeft Opened = ⊥
HasLeft (Running done) = ⊥
HasLeft (Left end) = Unit {0}

-- from k instructions and edges on, the next frame takes j more, no frame is left before, and that is its end
pub record IsFrame (u : Setup) (k j : ℕ) (end : FrameEnd) : Type 0 where
  pub some : 1 ≤ j
  pub left : (console_at u (k + j)).phase ≡ Left end
  pub before : (i : ℕ) → 1 ≤ i → i < j → HasLeft (console_at u (k + i)).phase → ⊥
  pub is : console_at u (k + j) ≡ frame_of u (console_at u k)

-- the tape of a board has taken these operations, and so many instructions were done in its frame
pub record IsNoted (o : Operations) (before : Taped) (b : Board) : Type 0 where
  pub tape : b.tape ≡ taken o before
  pub count : b.cycles ≡ o.instructions
