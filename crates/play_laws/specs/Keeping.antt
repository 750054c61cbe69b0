-- What a console does with the cartridge of a build, where its run keeps to what the source means.
use Rattle.std.specs.Prelude.{ℕ, ◌≡◌, ◌≤◌, ◌+◌, ◌⊎◌, ◌↔◌, Bool, true, false, not, List, length, Option, Ok}
use Rattle.kit_base.specs.Held.{Held}
use Rattle.v32_isa.specs.Runs as machine
use Rattle.obj_mem.specs.Runs.{Ending, Halted, Fault, Starved, Stray, Deep, OutOfBound, Run, IsCard}
use Rattle.c_types.specs.Programs.{ProgramT}
use Rattle.c_meaning.specs.Runs.{final_of}
use Rattle.c_watch.specs.declared.verdict.Watched.{Watched}
use Rattle.c_watch.specs.declared.verdict.Watched.TheVariants.{Met}
use Rattle.c_watch.specs.Watching.{Kept, watched_by}
use Rattle.c_image.specs.Imaging.{frame_sizes}
use Rattle.cart_format.specs.Cartridge.{Cartridge}
use Rattle.cart_format.specs.Reading.{cart_of}
use Rattle.run_files.specs.Script.{Script}
use Rattle.v32_console.specs.Setup.{Setup, setup_of}
use Rattle.v32_console.specs.Moments.{Phase, Opened, Running, Left, goes_on, console_at}
use Rattle.v32_console.specs.History.{operations_at}
use Rattle.run_laws.specs.Steps.{HasBegun, HasMade}
use Rattle.build_core.specs.declared.building.Built.{Built}
use Rattle.build_core.specs.Build.{IsBuilt}
use Rattle.play_laws.specs.Played.{meant_at, played}

-- the run has ended: by a halt, a fault or an undecodable word
abbrev pub has_ended : Phase → Bool
has_ended Opened = false
has_ended (Running done) = false
has_ended (Left end) = not (goes_on end)

-- With no bound does the program stray, or lack room for a frame, under the answers that the console's devices gave up to there: at all, where the
-- console's run has ended; else with fewer port operations than the console has made.
abbrev pub KeepsAt : ProgramT → (frames : List ℕ) → Setup → ℕ → Type 0
KeepsAt p frames u k = Kept p frames (operations_at u k).answers u.card (length (operations_at u k).events) (has_ended (console_at u k).phase)

-- the verdict with one bound, one above the number of instructions
abbrev pub watched_at : ProgramT → (frames : List ℕ) → Setup → ℕ → Watched
watched_at p frames u k =
    watched_by (length (operations_at u k).events) (has_ended (console_at u k).phase)
    (final_of p frames ((operations_at u k).instructions + 1) (operations_at u k).answers u.card)

-- How far what was done has come in the run that is meant: it has begun it, or, where that run halts or faults, made the whole of it with its end.
abbrev pub FollowsBy : Ending → (meant : Run) → (so_far : machine.Run) → Type 0
FollowsBy Halted meant so_far = HasBegun meant so_far ⊎ HasMade machine.Halted meant so_far
FollowsBy (Fault number) meant so_far = HasBegun meant so_far ⊎ HasMade (machine.Fault number) meant so_far
FollowsBy Starved meant so_far = HasBegun meant so_far
FollowsBy Stray meant so_far = HasBegun meant so_far
FollowsBy Deep meant so_far = HasBegun meant so_far
FollowsBy OutOfBound meant so_far = HasBegun meant so_far

abbrev pub Follows : (meant : Run) → (so_far : machine.Run) → Type 0
Follows meant so_far = FollowsBy meant.end meant so_far

-- The run that is meant halts or faults, and what was done is the whole of it with its end.
abbrev pub IsWholeBy : Ending → (meant : Run) → (so_far : machine.Run) → Type 0
IsWholeBy Halted meant so_far = HasMade machine.Halted meant so_far
IsWholeBy (Fault number) meant so_far = HasMade (machine.Fault number) meant so_far
IsWholeBy Starved meant so_far = ⊥
IsWholeBy Stray meant so_far = ⊥
IsWholeBy Deep meant so_far = ⊥
IsWholeBy OutOfBound meant so_far = ⊥

abbrev pub IsWhole : (meant : Run) → (so_far : machine.Run) → Type 0
IsWhole meant so_far = IsWholeBy meant.end meant so_far

-- For the cartridge that is read from what was built, every script and card, and every k: that one bound decides for all.
abbrev pub WatchDecides : Type 0
WatchDecides =
    (m : Held) (project : List ℕ) (b : Built) (built : IsBuilt m project b) (cart : Cartridge) → cart_of b.cart ≡ Ok cart
    → (pads : Script) (card : Option (List ℕ)) → IsCard card → (k : ℕ)
    → KeepsAt built.of.program (frame_sizes built.of.image.map) (setup_of cart pads card) k
    ↔ (watched_at built.of.program (frame_sizes built.of.image.map) (setup_of cart pads card) k ≡ Met)

-- Likewise, and for every bound that is not below the number of instructions: the console follows the run that is meant.
abbrev pub KeptRunsAreTheSources : Type 0
KeptRunsAreTheSources =
    (m : Held) (project : List ℕ) (b : Built) (built : IsBuilt m project b) (cart : Cartridge) → cart_of b.cart ≡ Ok cart
    → (pads : Script) (card : Option (List ℕ)) → IsCard card → (k : ℕ)
    → KeepsAt built.of.program (frame_sizes built.of.image.map) (setup_of cart pads card) k
    → (bound : ℕ) → (operations_at (setup_of cart pads card) k).instructions ≤ bound
    → Follows (meant_at built.of.program (frame_sizes built.of.image.map) bound (setup_of cart pads card) k) (played (setup_of cart pads card) k)

-- Likewise, and where the console's run has ended: it is the whole run that is meant, so it did not end at an undecodable word.
abbrev pub EndedRunsAreWhole : Type 0
EndedRunsAreWhole =
    (m : Held) (project : List ℕ) (b : Built) (built : IsBuilt m project b) (cart : Cartridge) → cart_of b.cart ≡ Ok cart
    → (pads : Script) (card : Option (List ℕ)) → IsCard card → (k : ℕ)
    → KeepsAt built.of.program (frame_sizes built.of.image.map) (setup_of cart pads card) k
    → has_ended (console_at (setup_of cart pads card) k).phase ≡ true
    → IsWhole (meant_at built.of.program (frame_sizes built.of.image.map) ((operations_at (setup_of cart pads card) k).instructions + 1)
    (setup_of cart pads card) k)
    (played (setup_of cart pads card) k)
