-- What a status 0 says of a build and of `gen`, and a status 0 or 3 of a play.
use Rattle.std.specs.Prelude.{ℕ, ◌≡◌, List, ◌++◌, Option, Some, Ok, IsSomeAnd}
use Rattle.std.specs.FinMap.{get}
use Rattle.kit_base.specs.Held.{Held}
use Rattle.kit_base.specs.Effects.{all_done}
use Rattle.kit_base.specs.Outside.{due}
use Rattle.build_core.specs.declared.building.Built.{Built}
use Rattle.build_core.specs.Build.{IsBuilt}
use Rattle.c_meaning.specs.Runs.{c_runs}
use Rattle.c_image.specs.Imaging.{frame_sizes, global_addresses}
use Rattle.mid_code.specs.Agrees.{AgreesWithin}
use Rattle.project_text.specs.MapText.{map_text}
use Rattle.kit_words.specs.Command.{RunWords, Build, Play, Gen, command_of}
use Rattle.kit_words.specs.Forms.{source_name}
use Rattle.gen_source.specs.Source.{project_text, source_text}
use Rattle.gen_source.specs.Summary.{summary_text}
use Rattle.kit_core.specs.Plain.{color_after, plain_setup}
use Rattle.kit_core.specs.Due.{outputs_of, play_effects}
use Rattle.kit_core.specs.Generating.{functions_due, most_frames, sources_of}
use Rattle.kit_core.specs.Holding.{PlayFilesStand}
use Rattle.kit_core.specs.Meaning.{RunIsMeant, console_of}
use Rattle.kit_core.specs.Outcome.{putting}
use Rattle.kit_tools.specs.Running.{Settings, end_status, game_end, game_with, settings_due}
use Rattle.run_core.specs.Ending.{end_text}
use Rattle.cart_format.specs.Cartridge.{Cartridge}
use Rattle.cart_format.specs.Reading.{cart_of}

-- The project was held. Its outputs stand, with every other file as before: the file `cart` has the
-- bytes of the cartridge, and the file `map_name` the text of its map. The program of the cartridge
-- that those bytes are does what the project's source means, for every bound, answers and card: in
-- a run that does not stray within 64 instructions for each unit of the source's work, and 64.
pub record IsBuiltInto (project cart map_name : List ℕ) (held : Held) (after : Option Held) : Type 0 where
  pub text : List ℕ
  pub built : Built
  pub project_is : due held project ≡ Ok text
  pub is_built : IsBuilt held text built
  pub outputs : after ≡ all_done (outputs_of cart map_name built) (Some held)
  pub cart_stands : IsSomeAnd after (λ files. get files cart ≡ Some built.cart)
  pub map_stands : IsSomeAnd after (λ files. get files map_name ≡ Some (map_text built.map))
  pub cartridge : Cartridge
  pub cartridge_is : cart_of built.cart ≡ Ok cartridge
  pub does : AgreesWithin 64 (global_addresses built.map) (c_runs is_built.of.program (frame_sizes built.map)) cartridge.program

-- where the words are a build, it was carried out
abbrev pub BuildStands : List (List ℕ) → Held → Option Held → Type 0
BuildStands words held after =
    (project cart map_name : List ℕ) → command_of words ≡ Some (Build project cart map_name) → IsBuiltInto project cart map_name held after

-- The project was held, and this was built of it. The files hold its cartridge and its map, and the bytes of the frames, of the sound and of the card
-- of the console's run on the cartridge that those bytes are, with that script and that card; every other file is as before. That run is what the
-- project's source means. The status is 3 exactly where it ended by a fault or at an undecodable word, and the line of that was put.
pub record IsPlayedInto (project map_name : List ℕ) (words : RunWords) (held : Held) (status : ℕ) (after : Option Held)
    (before put : Option (List ℕ)) : Type 0 where
  pub text : List ℕ
  pub built : Built
  pub project_is : due held project ≡ Ok text
  pub is_built : IsBuilt held text built
  pub cart : Cartridge
  pub cart_is : cart_of built.cart ≡ Ok cart
  pub settings : Settings
  pub settings_are : settings_due words held ≡ Ok settings
  pub outputs : after ≡ all_done (play_effects map_name words built (game_with cart settings)) (Some held)
  pub files : IsSomeAnd after (λ files. PlayFilesStand map_name words built (game_with cart settings) held files)
  pub run : RunIsMeant held text built is_built (console_of cart settings) settings.count
  pub status_is : status ≡ end_status (game_end (game_with cart settings))
  pub told : put ≡ putting (end_text (game_with cart settings).lines (game_end (game_with cart settings))) before

-- where the words are a play, it was carried out
abbrev pub PlayStands : List (List ℕ) → Held → ℕ → Option Held → (before put : Option (List ℕ)) → Type 0
PlayStands words held status after before put =
    (project map_name : List ℕ) (run : RunWords) → command_of words ≡ Some (Play project map_name run)
    → IsPlayedInto project map_name run held status after before put

-- The number is in its range. The project's file has the project's text, and `gen.c` the source of so many functions; the files `cart` and `map_name` have
-- the cartridge and the map of what was built of these; every other file is as before. A run of that cartridge of at most 60 frames is what the source
-- means, and the line has how many functions and tokens there are, and the clear colour at the end of that run.
pub record IsGeneratedInto (number project cart map_name : List ℕ) (held : Held) (after : Option Held) (before put : Option (List ℕ)) : Type 0 where
  pub functions : ℕ
  pub functions_are : functions_due number ≡ Ok functions
  pub made : Held
  pub made_is : all_done (sources_of project functions) (Some held) ≡ Some made
  pub built : Built
  pub is_built : IsBuilt made project_text built
  pub cartridge : Cartridge
  pub cartridge_is : cart_of built.cart ≡ Ok cartridge
  pub outputs : after ≡ all_done (sources_of project functions ++ outputs_of cart map_name built) (Some held)
  pub project_stands : IsSomeAnd after (λ files. get files project ≡ Some project_text)
  pub source_stands : IsSomeAnd after (λ files. get files source_name ≡ Some (source_text functions))
  pub cart_stands : IsSomeAnd after (λ files. get files cart ≡ Some built.cart)
  pub map_stands : IsSomeAnd after (λ files. get files map_name ≡ Some (map_text built.map))
  pub run : RunIsMeant made project_text built is_built (plain_setup cartridge) most_frames
  pub told : put ≡ putting (summary_text functions built.tokens (color_after (plain_setup cartridge) most_frames)) before

-- where the words are a `gen`, it was carried out
abbrev pub GenStands : List (List ℕ) → Held → Option Held → (before put : Option (List ℕ)) → Type 0
GenStands words held after before put =
    (number project cart map_name : List ℕ) → command_of words ≡ Some (Gen number project cart map_name)
    → IsGeneratedInto number project cart map_name held after before put
