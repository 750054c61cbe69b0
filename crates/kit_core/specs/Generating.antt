-- The command `gen` before it builds: its number, and the project and the source that are made up from it.
use Rattle.std.specs.Prelude.{ℕ, List, [], ◌++◌, Option, Some, Result, Ok, Err, if◌then◌else◌}
use Rattle.kit_base.specs.Effects.{Effect, written_file}
use Rattle.gen_source.specs.Source.{project_text, source_text}
use Rattle.kit_tools.specs.declared.refusal.DueRefusal.{DueRefusal}
use Rattle.kit_tools.specs.declared.refusal.DueRefusal.TheVariants as dues
use Rattle.kit_words.specs.Command.{Command, Gen}
use Rattle.kit_words.specs.Forms.{functions_role, in_range, source_name}
use Rattle.kit_words.specs.Number.{number_of}

-- how many functions the source has
abbrev pub functions_due : List ℕ → Result ℕ DueRefusal
functions_due word = if in_range functions_role (number_of word) then Ok (number_of word) else Err (dues.OutOfRange word)

-- the project's file, and then its source's
abbrev pub sources_of : (project : List ℕ) → ℕ → List Effect
sources_of project functions = written_file project project_text ++ written_file source_name (source_text functions)

abbrev pub sources_due : (project : List ℕ) → Result ℕ DueRefusal → List Effect
sources_due project (Ok functions) = sources_of project functions
sources_due project (Err refusal) = []

-- A command's front is what it writes before its input is read, which is then among the files. Only `gen` has one.
abbrev pub front_of : Option Command → List Effect
front_of (Some (Gen number project cart map_name)) = sources_due project (functions_due number)
front_of command = []

-- the most frames of its run
unfoldable pub most_frames : ℕ
most_frames = 60
