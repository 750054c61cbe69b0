-- The forms of the command line: the name of each, and what its words are, in order.
use Rattle.std.specs.Prelude.{ℕ, Bool, true, false, not, ◌&&◌, nat_le, ◌==◌, List, [], ◌∷◌, ◌++◌, find, Option, Some, None, if◌then◌else◌, codes}
use Rattle.std.specs.List.{list_all}
use Rattle.std.specs.Str.{bytes_eq}
use Rattle.kit_words.specs.declared.conversion.Conversion.{Conversion}
use Rattle.kit_words.specs.declared.conversion.Conversion.TheVariants.{Migrate, Assemble, Disassemble}

-- ---- the table

-- what a word of a form is
pub data Role : Type 0 where
  -- the name of a file that is read
  Reads : Role
  -- the name of a file that is created
  Creates : Role
  -- `none`, or the name of a card's file, which is read; it may be created anew at the end
  Card : (is_created : Bool) → Role
  -- a number in decimal digits, and the least and the greatest that the command takes
  Number : (least greatest : ℕ) → Role

-- a word of a form: what it is called, and what it is
pub record Word : Type 0 where
  pub id : List ℕ
  pub role : Role

pub data Form : Type 0 where
  Builds : Form
  Checks : Form
  -- a form that makes one file of another
  Converts : Conversion → Form
  Runs : Form
  Plays : Form
  Watches : Form
  TellsBounds : Form
  Traces : Form
  Generates : Form

-- frames of a run, steps of a trace, functions of a source that is made up
abbrev pub count_role : Role
count_role = Number 1 3600

-- frames of a run whose source is followed
abbrev pub watch_role : Role
watch_role = Number 1 600

abbrev pub steps_role : Role
steps_role = Number 0 10000000

abbrev pub functions_role : Role
functions_role = Number 1 5000

abbrev pub name_of : Form → List ℕ
name_of Builds = codes "build"
name_of Checks = codes "check"
name_of (Converts Migrate) = codes "migrate"
name_of (Converts Assemble) = codes "asm"
name_of (Converts Disassemble) = codes "dis"
name_of Runs = codes "run"
name_of Plays = codes "play"
name_of Watches = codes "watch"
name_of TellsBounds = codes "bounds"
name_of Traces = codes "trace"
name_of Generates = codes "gen"

abbrev pub word : List ℕ → Role → Word
word id role = record { id = id; role = role }

abbrev pub words_of : Form → List Word
words_of Builds = word (codes "project") Reads ∷ word (codes "cart") Creates ∷ word (codes "map") Creates ∷ []
words_of Checks = word (codes "project") Reads ∷ []
words_of (Converts conversion) = word (codes "source") Reads ∷ word (codes "target") Creates ∷ []
words_of Runs =
    word (codes "cart") Reads ∷ word (codes "pads") Reads ∷ word (codes "frames") Creates ∷ word (codes "samples") Creates
    ∷ word (codes "count") count_role ∷ word (codes "card") (Card true) ∷ []
words_of Plays =
    word (codes "project") Reads ∷ word (codes "cart") Creates ∷ word (codes "map") Creates ∷ word (codes "pads") Reads
    ∷ word (codes "frames") Creates ∷ word (codes "samples") Creates ∷ word (codes "count") count_role ∷ word (codes "card") (Card true) ∷ []
words_of Watches =
    word (codes "project") Reads ∷ word (codes "cart") Creates ∷ word (codes "map") Creates ∷ word (codes "pads") Reads
    ∷ word (codes "count") watch_role ∷ word (codes "card") (Card false) ∷ []
words_of TellsBounds =
    word (codes "project") Reads ∷ word (codes "cart") Creates ∷ word (codes "map") Creates ∷ word (codes "text") Creates ∷ []
words_of Traces =
    word (codes "cart") Reads ∷ word (codes "answers") Reads ∷ word (codes "card") (Card false) ∷ word (codes "steps") steps_role ∷ []
words_of Generates =
    word (codes "number") functions_role ∷ word (codes "project") Creates ∷ word (codes "cart") Creates ∷ word (codes "map") Creates ∷ []

-- the file of the source that `gen` makes up
abbrev pub source_name : List ℕ
source_name = codes "gen.c"

-- the files that a form creates under names of its own
abbrev pub own_names : Form → List (List ℕ)
own_names Generates = source_name ∷ []
own_names form = []

abbrev pub forms : List Form
forms =
    Builds ∷ Checks ∷ Converts Migrate ∷ Converts Assemble ∷ Converts Disassemble ∷ Runs ∷ Plays ∷ Watches ∷ TellsBounds ∷ Traces ∷ Generates ∷ []

-- ---- what comes of it

-- the form of that name
unfoldable pub form_named : List ℕ → Option Form
form_named name = find (λ form. bytes_eq name (name_of form)) forms

-- a word is not empty and does not begin with `-`
abbrev pub is_word : List ℕ → Bool
is_word [] = false
is_word (first ∷ rest) = not (first == 45)

-- there are exactly as many words as the form lists
abbrev pub are_as_many : List Word → List (List ℕ) → Bool
are_as_many [] [] = true
are_as_many (word ∷ words) (argument ∷ rest) = are_as_many words rest
are_as_many words arguments = false

-- decimal digits, as many as one likes
abbrev pub is_digit : ℕ → Bool
is_digit byte = nat_le 48 byte && nat_le byte 57

abbrev pub is_number : List ℕ → Bool
is_number argument = list_all is_digit argument

-- the word that has to be a number, where there is one
abbrev pub with_number : Role → List ℕ → Option (List ℕ) → Option (List ℕ)
with_number (Number least greatest) argument later = Some argument
with_number role argument later = later

abbrev pub number_in : List Word → List (List ℕ) → Option (List ℕ)
number_in (word ∷ words) (argument ∷ rest) = with_number word.role argument (number_in words rest)
number_in words arguments = None

abbrev pub in_range : Role → ℕ → Bool
in_range (Number least greatest) number = nat_le least number && nat_le number greatest
in_range role number = true

-- a card's file, where there is one, before other names
abbrev pub card_of : List ℕ → Option (List ℕ)
card_of argument = if bytes_eq argument (codes "none") then None else Some argument

abbrev pub with_card : Option (List ℕ) → List (List ℕ) → List (List ℕ)
with_card None names = names
with_card (Some card) names = card ∷ names

-- the names of files that are created
abbrev pub with_created : Role → List ℕ → List (List ℕ) → List (List ℕ)
with_created Creates argument later = argument ∷ later
with_created (Card true) argument later = with_card (card_of argument) later
with_created role argument later = later

abbrev pub created_in : List Word → List (List ℕ) → List (List ℕ)
created_in (word ∷ words) (argument ∷ rest) = with_created word.role argument (created_in words rest)
created_in words arguments = []

abbrev pub created_by : Form → List (List ℕ) → List (List ℕ)
created_by form arguments = own_names form ++ created_in (words_of form) arguments

-- the names of files that are read, as far as the words alone tell
abbrev pub with_read : Role → List ℕ → List (List ℕ) → List (List ℕ)
with_read Reads argument later = argument ∷ later
with_read (Card is_created) argument later = with_card (card_of argument) later
with_read role argument later = later

abbrev pub read_in : List Word → List (List ℕ) → List (List ℕ)
read_in (word ∷ words) (argument ∷ rest) = with_read word.role argument (read_in words rest)
read_in words arguments = []

-- no two of the names are spelled alike
abbrev pub differs_from : List ℕ → List (List ℕ) → Bool
differs_from name names = list_all (λ other. not (bytes_eq name other)) names

unfoldable pub are_different : List (List ℕ) → Bool
are_different [] = true
are_different (name ∷ names) = differs_from name names && are_different names
