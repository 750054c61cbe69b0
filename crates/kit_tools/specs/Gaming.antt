-- What the parts of a run answer and leave, each by itself.
use Rattle.std.specs.Prelude.{ℕ, ◌≡◌, List, Some}
use Rattle.cpu_core.specs.Space.{words_of}
use Rattle.v32_console.specs.Setup.{setup_of}
use Rattle.run_core.specs.Stands.{RunStands}
use Rattle.run_core.specs.Ending.{lines_of}
use Rattle.run_core.specs.Outputs.{Names}
use Rattle.kit_tools.specs.declared.running.Loaded.{Loaded}
use Rattle.kit_tools.specs.declared.running.LoadedSettings.{LoadedSettings}
use Rattle.kit_tools.specs.declared.running.Opened.{Opened}
use Rattle.kit_tools.specs.declared.running.OwnNames.{OwnNames}
use Rattle.kit_tools.specs.Running.{Game, Settings}

-- what was read, as what is run
abbrev pub game_of : Loaded → Game
game_of g = record { setup = setup_of g.cart g.pads (words_of g.card); count = g.count; lines = lines_of g.cart }

-- and what was read beside a cartridge
abbrev pub settings_of : LoadedSettings → Settings
settings_of s = record { script = s.pads; card = words_of s.card; count = s.count }

-- the names of the outputs, made before
pub record AreNames (own : OwnNames) (names : Names) : Type 0 where
  pub frames : own.frames ≡ names.frames
  pub samples : own.samples ≡ names.samples
  pub card : (name : List ℕ) → names.card ≡ Some name → own.card ≡ name

-- a run that stands at its beginning, what tells the place of its fault, and the names of its outputs
pub record IsOpened (names : Names) (game : Game) (o : Opened) : Type 0 where
  pub own : AreNames o.own names
  pub run : RunStands game.setup game.count o.run
  pub ending : o.ending ≡ game.lines
