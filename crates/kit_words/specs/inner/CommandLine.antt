-- The command line as `clap` is told of it, and the command that its matches give. Only private functions cite these.
use Rattle.std.specs.Prelude.{true, List, [], ◌∷◌, map, fold, Option, Some, option_map, option_and_then, codes}
use Rattle.std.specs.Borrow.{Bor}
use Rattle.clap.specs.Walk.{Row, Rule, Text, first_of}
use Rattle.clap.specs.Simple.{App, Shape, new_rule, new_shape, with_subcommand}
use Rattle.kit_words.specs.declared.conversion.Conversion.TheVariants.{Migrate, Assemble, Disassemble}
use Rattle.kit_words.specs.Forms.{Form, Converts, form_named, forms, name_of, words_of}
use Rattle.kit_words.specs.Command.{Command, command_with, tested}
use Rattle.kit_words.specs.Created.{created_names, number_word}

-- a required argument that takes one plain text
abbrev pub required : Text → Rule
required id = record (new_rule id) { required = true }

-- a form with these arguments, in their order
abbrev pub form_shape : Text → List Text → Shape
form_shape name ids = record (new_shape name) { rules = map required ids }

abbrev pub form_alone : Text → List Text → App
form_alone name ids = record { top = form_shape name ids; subs = [] }

abbrev pub texts_of : List (Bor Text) → List Text
texts_of ids = map (λ id. id.now) ids

abbrev pub no_forms : App
no_forms = record {
  top = record (new_shape (codes "kit")) {
    no_binary_name = true;
    disable_help_flag = true;
    disable_help_subcommand = true;
    subcommand_required = true;
  };
  subs = [];
}

abbrev pub with_form : Text → List Text → App → App
with_form name ids app = with_subcommand app (form_shape name ids)

-- the arguments of a form, by name
abbrev pub ids_of : Form → List Text
ids_of form = map (λ word. word.id) (words_of form)

abbrev pub with_listed : App → Form → App
with_listed app form = with_form (name_of form) (ids_of form) app

abbrev pub with_converting : App → App
with_converting app = fold with_listed app (Converts Migrate ∷ Converts Assemble ∷ Converts Disassemble ∷ [])

-- each form of the table
abbrev pub command_line : App
command_line = fold with_listed no_forms forms

-- the words that were given for these arguments
abbrev pub given : List Text → List Row → Option (List Text)
given [] rows = Some []
given (id ∷ ids) rows = option_and_then (λ word. option_map (λ words. word ∷ words) (given ids rows)) (first_of id rows)

abbrev pub given_to : Form → List Row → Option Command
given_to form rows = option_and_then (command_with form) (given (ids_of form) rows)

unfoldable pub form_in : Text → List Row → Option Command
form_in name rows = option_and_then (λ form. given_to form rows) (form_named name)

-- the command of the subcommand that was met, with its matches
abbrev pub command_in : Option (Text × List Row) → Option Command
command_in met = option_and_then (λ p. form_in p.0 p.1) met

-- the command, where its number is one and its created names are pairwise different
abbrev pub checked : Command → Option Command
checked command = tested (number_word command) (created_names command) (Some command)
