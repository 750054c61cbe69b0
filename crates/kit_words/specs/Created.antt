-- The files that a command creates, and those that it reads as far as its words tell.
use Rattle.std.specs.Prelude.{ℕ, List, [], ◌∷◌, Option, Some, None}
use Rattle.kit_words.specs.Forms.{source_name, with_card}
use Rattle.kit_words.specs.Command.{Command, RunWords, Build, Convert, Trace, Run, Play, Watch, Bounds, Check, Gen}

abbrev pub run_names : RunWords → List (List ℕ)
run_names words = words.frames ∷ words.samples ∷ with_card words.card []

abbrev pub created_names : Command → List (List ℕ)
created_names (Build project cart map_name) = cart ∷ map_name ∷ []
created_names (Convert conversion source target) = target ∷ []
created_names (Trace cart answers card steps) = []
created_names (Run words) = run_names words
created_names (Play project map_name words) = words.cart ∷ map_name ∷ run_names words
created_names (Watch words) = words.cart ∷ words.map_name ∷ []
created_names (Bounds project cart map_name text_name) = cart ∷ map_name ∷ text_name ∷ []
created_names (Check project) = []
created_names (Gen number project cart map_name) = source_name ∷ project ∷ cart ∷ map_name ∷ []

abbrev pub read_names : Command → List (List ℕ)
read_names (Build project cart map_name) = project ∷ []
read_names (Convert conversion source target) = source ∷ []
read_names (Trace cart answers card steps) = cart ∷ answers ∷ with_card card []
read_names (Run words) = words.cart ∷ words.pads ∷ with_card words.card []
read_names (Play project map_name words) = project ∷ words.pads ∷ with_card words.card []
read_names (Watch words) = words.project ∷ words.pads ∷ with_card words.card []
read_names (Bounds project cart map_name text_name) = project ∷ []
read_names (Check project) = project ∷ []
read_names (Gen number project cart map_name) = []

-- the word that is a number
abbrev pub number_word : Command → Option (List ℕ)
number_word (Trace cart answers card steps) = Some steps
number_word (Run words) = Some words.count
number_word (Play project map_name words) = Some words.count
number_word (Watch words) = Some words.count
number_word (Gen number project cart map_name) = Some number
number_word command = None
