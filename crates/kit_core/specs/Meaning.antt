-- What the run of a cartridge that was built does, told from what its project's source means.
use Rattle.std.specs.Prelude.{ℕ, ◌≡◌, ◌≤◌, false, List}
use Rattle.kit_base.specs.Held.{Held}
use Rattle.v32_isa.specs.Runs as machine
use Rattle.obj_mem.specs.Runs.{Ending, Halted, Fault, Starved, Stray, Deep, OutOfBound, Run}
use Rattle.cart_format.specs.Cartridge.{Cartridge}
use Rattle.v32_console.specs.Setup.{Setup}
use Rattle.v32_console.specs.Moments.{console_at, goes_on}
use Rattle.v32_console.specs.History.{operations_at}
use Rattle.run_core.specs.Outputs.{last_moment, run_end}
use Rattle.run_laws.specs.Steps.{Begins, HasMade}
use Rattle.c_image.specs.Imaging.{frame_sizes}
use Rattle.build_core.specs.declared.building.Built.{Built}
use Rattle.build_core.specs.Build.{IsBuilt}
use Rattle.play_laws.specs.Played.{ComesToAll, Refines, meant_at, played}
use Rattle.kit_tools.specs.Running.{Settings, game_with}

-- the console that is run: the cartridge, with the script of the gamepads and the card
abbrev pub console_of : Cartridge → Settings → Setup
console_of cart settings = (game_with cart settings).setup

-- All that is meant was made, with its end; of a run that strays or has no room for a frame, all up to there.
abbrev pub HasMadeAllBy : Ending → (meant : Run) → (so_far : machine.Run) → Type 0
HasMadeAllBy Halted meant so_far = HasMade machine.Halted meant so_far
HasMadeAllBy (Fault number) meant so_far = HasMade (machine.Fault number) meant so_far
HasMadeAllBy Starved meant so_far = ⊥
HasMadeAllBy OutOfBound meant so_far = ⊥
HasMadeAllBy Stray meant so_far = Begins meant.events so_far.events
HasMadeAllBy Deep meant so_far = Begins meant.events so_far.events

abbrev pub HasMadeAll : (meant : Run) → (so_far : machine.Run) → Type 0
HasMadeAll meant so_far = HasMadeAllBy meant.end meant so_far

-- A run of at most so many frames of a console with the cartridge that was built. What the console has done after any number of instructions and frame
-- edges is a part of what the project's source means under the answers that the devices gave up to there, with its end, until that strays or has no
-- room for a frame; and the console comes to all that is meant. The run ends after some number of them, and where it does so by a halt, a fault or an
-- undecodable word it has made all that is meant.
pub record RunIsMeant (held : Held) (text : List ℕ) (built : Built) (is_built : IsBuilt held text built) (u : Setup) (count : ℕ) : Type 0 where
  pub does : (k bound : ℕ) → (operations_at u k).instructions ≤ bound
      → Refines (meant_at is_built.of.program (frame_sizes is_built.of.image.map) bound u k) (played u k)
  pub comes : (k bound : ℕ) → ComesToAll (meant_at is_built.of.program (frame_sizes is_built.of.image.map) bound u k) (played u)
  pub k : ℕ
  pub k_is : console_at u k ≡ last_moment u count
  pub whole : goes_on (run_end u count) ≡ false → (bound : ℕ) → (operations_at u k).instructions ≤ bound
      → HasMadeAll (meant_at is_built.of.program (frame_sizes is_built.of.image.map) bound u k) (played u k)
