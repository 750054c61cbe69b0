-- What the files hold after a run and after a play, byte for byte, and what they hold of a run that was cut short.
use Rattle.std.specs.Prelude.{ℕ, ◌≡◌, ◌⊎◌, true, false, List, Option, Some, Ok, IsSomeAnd}
use Rattle.std.specs.FinMap.{get}
use Rattle.kit_base.specs.Held.{Held}
use Rattle.project_text.specs.MapText.{map_text}
use Rattle.build_core.specs.declared.building.Built.{Built}
use Rattle.run_core.specs.Outputs.{last_moment}
use Rattle.output_laws.specs.Bytes.{card_bytes, frames_bytes, samples_bytes}
use Rattle.output_laws.specs.Standing.{AreOther, IsNone, OutputsStand, FrontsStand}
use Rattle.kit_words.specs.Command.{RunWords, Run, command_of}
use Rattle.kit_tools.specs.Running.{Game, game_due, names_in}

-- the run's files have their bytes, and every other file is as it was
abbrev pub GameStands : RunWords → Game → Held → Option Held → Type 0
GameStands words game held after = IsSomeAnd after (λ files. OutputsStand (names_in words) game.setup game.count held files)

-- the game was due, and its files stand
pub record IsRunHeld (words : RunWords) (held : Held) (after : Option Held) : Type 0 where
  pub game : Game
  pub is_due : game_due words held ≡ Ok game
  pub stands : GameStands words game held after

-- where the words are a run, its files hold their bytes
abbrev pub FilesHold : List (List ℕ) → Held → Option Held → Type 0
FilesHold words held after = (run : RunWords) → command_of words ≡ Some (Run run) → IsRunHeld run held after

-- The cartridge and the map of a play hold what was built, the files of frames and of samples their bytes; the card's file, where one is named, those
-- of the card where one is connected, else what it held; and every other file is as before.
pub record PlayFilesStand (map_name : List ℕ) (words : RunWords) (built : Built) (game : Game) (before after : Held) : Type 0 where
  pub cart_stands : get after words.cart ≡ Some built.cart
  pub map_stands : get after map_name ≡ Some (map_text built.map)
  pub frames : get after words.frames ≡ Some (frames_bytes game.setup game.count)
  pub samples : get after words.samples ≡ Some (samples_bytes game.setup game.count)
  pub card : (name : List ℕ) → words.card ≡ Some name → (last_moment game.setup game.count).state.has_card ≡ true
      → get after name ≡ Some (card_bytes game.setup game.count)
  pub no_card : (name : List ℕ) → words.card ≡ Some name → (last_moment game.setup game.count).state.has_card ≡ false → get after name ≡ get before name
  pub others : (name : List ℕ) → AreOther name words.cart → AreOther name map_name → IsNone (names_in words) name → get after name ≡ get before name

-- the game was due, and each of its files is as before or holds a front of its bytes
pub record IsRunBegun (words : RunWords) (held : Held) (after : Option Held) : Type 0 where
  pub game : Game
  pub is_due : game_due words held ≡ Ok game
  pub fronts : IsSomeAnd after (λ files. FrontsStand (names_in words) game.setup game.count held files)

-- where the words are a run, nothing is changed, or each of its files is as before or holds a front
abbrev pub RunFrontsStand : List (List ℕ) → Held → Option Held → Type 0
RunFrontsStand words held after = (run : RunWords) → command_of words ≡ Some (Run run) → (after ≡ Some held) ⊎ IsRunBegun run held after
