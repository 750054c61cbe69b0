-- What a console does with the cartridge of a build, by what the build's source means.
use Rattle.std.specs.Prelude.{ℕ, ◌≡◌, ◌≤◌, ◌⊎◌, List, Option, Ok}
use Rattle.kit_base.specs.Held.{Held}
use Rattle.v32_isa.specs.Runs as machine
use Rattle.obj_mem.specs.Runs.{Ending, Halted, Fault, Starved, Stray, Deep, OutOfBound, Run, IsCard}
use Rattle.c_meaning.specs.Runs.{c_runs}
use Rattle.c_types.specs.Programs.{ProgramT}
use Rattle.c_image.specs.Imaging.{frame_sizes}
use Rattle.cart_format.specs.Cartridge.{Cartridge}
use Rattle.cart_format.specs.Reading.{cart_of}
use Rattle.run_files.specs.Script.{Script}
use Rattle.v32_console.specs.Setup.{Setup, setup_of}
use Rattle.v32_console.specs.Moments.{console_at}
use Rattle.v32_console.specs.Machine.{end_of}
use Rattle.v32_console.specs.History.{operations_at}
use Rattle.run_laws.specs.Steps.{Begins, HasBegun, HasMade}
use Rattle.build_core.specs.declared.building.Built.{Built}
use Rattle.build_core.specs.Build.{IsBuilt}

-- what a console has done after k instructions and frame edges: its port operations in order, how it has ended, and its state
abbrev pub played : Setup → ℕ → machine.Run
played u k = record { events = (operations_at u k).events; end = end_of (console_at u k).phase; state = (console_at u k).state }

-- How far what was done has come in the run that is meant, by how that one ends. It has begun it, or made the whole of it with its end. Where the
-- run that is meant asks a port that the devices have not answered yet, or has used up its bound, it has begun it. Where that run strays, or has
-- no room for a frame, it has begun it or goes on behind it.
abbrev pub RefinesBy : Ending → (meant : Run) → (so_far : machine.Run) → Type 0
RefinesBy Halted meant so_far = HasBegun meant so_far ⊎ HasMade machine.Halted meant so_far
RefinesBy (Fault number) meant so_far = HasBegun meant so_far ⊎ HasMade (machine.Fault number) meant so_far
RefinesBy Starved meant so_far = HasBegun meant so_far
RefinesBy OutOfBound meant so_far = HasBegun meant so_far
RefinesBy Stray meant so_far = HasBegun meant so_far ⊎ Begins meant.events so_far.events
RefinesBy Deep meant so_far = HasBegun meant so_far ⊎ Begins meant.events so_far.events

abbrev pub Refines : (meant : Run) → (so_far : machine.Run) → Type 0
Refines meant so_far = RefinesBy meant.end meant so_far

-- How far the console comes in that run: at some number of instructions and frame edges it has made the whole of it, with its end, or while it goes
-- on where that run has used up its bound, strays or has no room for a frame; and where that run asks a port that was not answered yet, it has
-- made the whole of it and perhaps more.
abbrev pub ComesBy : Ending → (meant : Run) → (runs : ℕ → machine.Run) → Type 0
ComesBy Halted meant runs = (n : ℕ) × HasMade machine.Halted meant (runs n)
ComesBy (Fault number) meant runs = (n : ℕ) × HasMade (machine.Fault number) meant (runs n)
ComesBy Starved meant runs = (n : ℕ) × Begins meant.events (runs n).events
ComesBy OutOfBound meant runs = (n : ℕ) × HasMade machine.Going meant (runs n)
ComesBy Stray meant runs = (n : ℕ) × HasMade machine.Going meant (runs n)
ComesBy Deep meant runs = (n : ℕ) × HasMade machine.Going meant (runs n)

abbrev pub ComesToAll : (meant : Run) → (runs : ℕ → machine.Run) → Type 0
ComesToAll meant runs = ComesBy meant.end meant runs

-- The run that the program means with that bound, under the answers that the console's devices gave up to there.
abbrev pub meant_at : ProgramT → (frames : List ℕ) → (bound : ℕ) → Setup → ℕ → Run
meant_at p frames bound u k = c_runs p frames bound (operations_at u k).answers u.card

-- For the cartridge that is read from what was built, every script and card, every k, and every bound that is not below the number of instructions.
abbrev pub PlayedRunsAreTheSources : Type 0
PlayedRunsAreTheSources =
    (m : Held) (project : List ℕ) (b : Built) (built : IsBuilt m project b) (cart : Cartridge) → cart_of b.cart ≡ Ok cart
    → (pads : Script) (card : Option (List ℕ)) → IsCard card → (k bound : ℕ) → (operations_at (setup_of cart pads card) k).instructions ≤ bound
    → Refines (meant_at built.of.program (frame_sizes built.of.image.map) bound (setup_of cart pads card) k) (played (setup_of cart pads card) k)

-- Likewise, and for every bound.
abbrev pub PlayedRunsComeToAll : Type 0
PlayedRunsComeToAll =
    (m : Held) (project : List ℕ) (b : Built) (built : IsBuilt m project b) (cart : Cartridge) → cart_of b.cart ≡ Ok cart
    → (pads : Script) (card : Option (List ℕ)) → IsCard card → (k bound : ℕ)
    → ComesToAll (meant_at built.of.program (frame_sizes built.of.image.map) bound (setup_of cart pads card) k) (played (setup_of cart pads card))
