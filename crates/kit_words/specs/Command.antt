-- The command that the words of the command line name.
use Rattle.std.specs.Prelude.{ℕ, Bool, true, ◌&&◌, List, [], ◌∷◌, map, Option, Some, None, option_and_then, String, string_bytes, if◌then◌else◌}
use Rattle.std.specs.List.{list_all}
use Rattle.std.specs.declared.alloc.Global.{Global}
use Rattle.kit_words.specs.declared.conversion.Conversion.{Conversion}
use Rattle.kit_words.specs.Forms.{Form, Builds, Checks, Converts, Runs, Plays, Watches, TellsBounds, Traces, Generates, are_as_many, are_different}
use Rattle.kit_words.specs.Forms.{card_of, created_by, form_named, is_number, is_word, number_in, words_of}

-- the words of a run; its card is `none` or a file's name
pub record RunWords : Type 0 where
  pub cart : List ℕ
  pub pads : List ℕ
  pub frames : List ℕ
  pub samples : List ℕ
  pub count : List ℕ
  pub card : Option (List ℕ)

-- the words of a run whose source is followed; its card is only read
pub record WatchWords : Type 0 where
  pub project : List ℕ
  pub cart : List ℕ
  pub map_name : List ℕ
  pub pads : List ℕ
  pub count : List ℕ
  pub card : Option (List ℕ)

-- a command with the names that its words give
pub data Command : Type 0 where
  -- `build project cart map`
  Build : (project cart map_name : List ℕ) → Command
  -- `migrate cart migrated`, `asm text words`, `dis words text`: one file is made of another
  Convert : Conversion → (source target : List ℕ) → Command
  -- `trace cart answers card steps`, without a card where that word is `none`
  Trace : (cart answers : List ℕ) → (card : Option (List ℕ)) → (steps : List ℕ) → Command
  -- `run cart pads frames samples count card`
  Run : RunWords → Command
  -- `play project cart map pads frames samples count card`: a project is built and its cartridge run; the cartridge is that of the run's words
  Play : (project map_name : List ℕ) → RunWords → Command
  -- `watch project cart map pads count card`: a project is built, its cartridge run, and its source followed on the answers of that run
  Watch : WatchWords → Command
  -- `bounds project cart map text`: a project is built, its program's assembly text written too, and a bound told of each function
  Bounds : (project cart map_name text_name : List ℕ) → Command
  -- `check project`
  Check : (project : List ℕ) → Command
  -- `gen number project cart map`: a project and a source are made up from the number, written, built and run
  Gen : (number project cart map_name : List ℕ) → Command

abbrev pub texts : List (String Global) → List (List ℕ)
texts words = map string_bytes words

-- the command of a form with these words
abbrev pub made : Form → List (List ℕ) → Option Command
made Builds (project ∷ cart ∷ map_name ∷ []) = Some (Build project cart map_name)
made Checks (project ∷ []) = Some (Check project)
made (Converts conversion) (source ∷ target ∷ []) = Some (Convert conversion source target)
made Runs (cart ∷ pads ∷ frames ∷ samples ∷ count ∷ card ∷ []) =
    Some (Run (record { cart = cart; pads = pads; frames = frames; samples = samples; count = count; card = card_of card }))
made Plays (project ∷ cart ∷ map_name ∷ pads ∷ frames ∷ samples ∷ count ∷ card ∷ []) =
    Some (Play project map_name (record { cart = cart; pads = pads; frames = frames; samples = samples; count = count; card = card_of card }))
made Watches (project ∷ cart ∷ map_name ∷ pads ∷ count ∷ card ∷ []) =
    Some (Watch (record { project = project; cart = cart; map_name = map_name; pads = pads; count = count; card = card_of card }))
made TellsBounds (project ∷ cart ∷ map_name ∷ text_name ∷ []) = Some (Bounds project cart map_name text_name)
made Traces (cart ∷ answers ∷ card ∷ steps ∷ []) = Some (Trace cart answers (card_of card) steps)
made Generates (number ∷ project ∷ cart ∷ map_name ∷ []) = Some (Gen number project cart map_name)
made form arguments = None

abbrev pub is_number_if_there : Option (List ℕ) → Bool
is_number_if_there None = true
is_number_if_there (Some argument) = is_number argument

-- the number is one, and the created names are pairwise different
unfoldable pub tested : (number : Option (List ℕ)) → (created : List (List ℕ)) → Option Command → Option Command
tested number created command = if is_number_if_there number && are_different created then command else None

abbrev pub command_with : Form → List (List ℕ) → Option Command
command_with form arguments =
    if are_as_many (words_of form) arguments then tested (number_in (words_of form) arguments) (created_by form arguments) (made form arguments) else None

abbrev pub form_of : (name : List ℕ) → (arguments : List (List ℕ)) → Option Command
form_of name arguments = option_and_then (λ form. command_with form arguments) (form_named name)

unfoldable pub form_with : (name : List ℕ) → (arguments : List (List ℕ)) → Option Command
form_with name arguments = if list_all is_word arguments then form_of name arguments else None

-- the command of the words after the program's own name; any others are a usage error
abbrev pub command_of : List (List ℕ) → Option Command
command_of [] = None
command_of (name ∷ arguments) = form_with name arguments
