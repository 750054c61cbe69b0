-- What a command itself finds over a limit, beside the length of a file that it reads.
use Rattle.std.specs.Prelude.{ℕ, ◌≡◌, ◌<◌, ◌⊎◌, false, List, Option, Some, Ok, IfSome}
use Rattle.kit_base.specs.Held.{Held}
use Rattle.kit_base.specs.Outside.{due}
use Rattle.build_core.specs.Causes.{CanBeTooLarge}
use Rattle.kit_words.specs.declared.conversion.Conversion.{Conversion}
use Rattle.kit_words.specs.Command.{RunWords, WatchWords, Build, Convert, Trace, Run, Play, Watch, Bounds, Gen, command_of}
use Rattle.kit_words.specs.Forms.{functions_role, in_range}
use Rattle.gen_source.specs.Source.{project_text}
use Rattle.kit_words.specs.Number.{number_of}
use Rattle.kit_tools.specs.Running.{is_count}
use Rattle.kit_tools.specs.Watching.{is_watch_count}
use Rattle.kit_tools.specs.Converting.{ConvertsLong}

-- the words are such a migration
pub record MigratesLong (words : List (List ℕ)) (held : Option Held) : Type 0 where
  pub conversion : Conversion
  pub source : List ℕ
  pub target : List ℕ
  pub named : command_of words ≡ Some (Convert conversion source target)
  pub long : ConvertsLong conversion source held

-- the project's cartridge can be too large: with some textures and sounds, one for each that it names
pub record IsLarge (project : List ℕ) (held : Option Held) : Type 0 where
  pub text : List ℕ
  pub read : IfSome held (λ m. due m project ≡ Ok text)
  pub over : CanBeTooLarge text

-- the words are a build of such a project
pub record BuildsLarge (words : List (List ℕ)) (held : Option Held) : Type 0 where
  pub project : List ℕ
  pub cart : List ℕ
  pub map_name : List ℕ
  pub named : command_of words ≡ Some (Build project cart map_name)
  pub large : IsLarge project held

-- the words are a trace of more steps than a run may have
pub record TracesTooFar (words : List (List ℕ)) : Type 0 where
  pub cart : List ℕ
  pub answers : List ℕ
  pub card : Option (List ℕ)
  pub steps : List ℕ
  pub named : command_of words ≡ Some (Trace cart answers card steps)
  pub over : 10000000 < number_of steps

-- the words are a run of no frame, or of more than a run may have
pub record RunsOutOfRange (words : List (List ℕ)) : Type 0 where
  pub run : RunWords
  pub named : command_of words ≡ Some (Run run)
  pub over : is_count (number_of run.count) ≡ false

-- the words are a play of such a project, or of a number of frames out of its range
pub record PlaysOver (words : List (List ℕ)) (held : Option Held) : Type 0 where
  pub project : List ℕ
  pub map_name : List ℕ
  pub run : RunWords
  pub named : command_of words ≡ Some (Play project map_name run)
  pub over : IsLarge project held ⊎ (is_count (number_of run.count) ≡ false)

-- likewise a watch
pub record WatchesOver (words : List (List ℕ)) (held : Option Held) : Type 0 where
  pub watch : WatchWords
  pub named : command_of words ≡ Some (Watch watch)
  pub over : IsLarge watch.project held ⊎ (is_watch_count (number_of watch.count) ≡ false)

-- the words tell the bounds of such a project
pub record BoundsLarge (words : List (List ℕ)) (held : Option Held) : Type 0 where
  pub project : List ℕ
  pub cart : List ℕ
  pub map_name : List ℕ
  pub text_name : List ℕ
  pub named : command_of words ≡ Some (Bounds project cart map_name text_name)
  pub large : IsLarge project held

-- a number of functions out of its range, or the cartridge of what is made up can be too large
abbrev pub IsGenOver : List ℕ → Type 0
IsGenOver number = (in_range functions_role (number_of number) ≡ false) ⊎ CanBeTooLarge project_text

-- the words are such a `gen`
pub record GeneratesOver (words : List (List ℕ)) : Type 0 where
  pub number : List ℕ
  pub project : List ℕ
  pub cart : List ℕ
  pub map_name : List ℕ
  pub named : command_of words ≡ Some (Gen number project cart map_name)
  pub over : IsGenOver number

abbrev pub IsOver : List (List ℕ) → Option Held → Type 0
IsOver words held = MigratesLong words held
    ⊎ (BuildsLarge words held ⊎ (TracesTooFar words
    ⊎ (RunsOutOfRange words ⊎ (PlaysOver words held ⊎ (WatchesOver words held ⊎ (GeneratesOver words ⊎ BoundsLarge words held))))))
