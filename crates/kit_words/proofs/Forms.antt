-- The words of each form: as many as it lists make its command, and others are a fault.
use Rattle.std.proofs.Common.{◌≡◌, ◌∙◌, true, false, List, [], ◌∷◌, Some, None, refl, sym, ap}
use Rattle.std.specs.Prelude.{if◌then◌else◌, find, option_and_then}
use Rattle.std.specs.List.{list_all}
use Rattle.clap.specs.Walk.{finished, Row, Text, answers_to, idle, nothing_held, subcommand_met}
use Rattle.clap.specs.Kinds.{Kinds, or_else}
use Rattle.clap.specs.Faults.{fault_of}
use Rattle.clap.specs.Simple.{built_leaf, inherited, Shape, label_of, subcommand_of}
use Rattle.clap.proofs.OnLiterals.{clap_on_literals}
use Rattle.clap.specs.declared.error.kind.ErrorKind.{ErrorKind}
use Rattle.clap.specs.declared.error.kind.ErrorKind.TheVariants as kind
use Rattle.kit_words.specs.declared.conversion.Conversion.TheVariants.{Migrate, Assemble, Disassemble}
use Rattle.kit_words.specs.Forms.{Form, Builds, Checks, Converts, Runs, Plays, Watches, TellsBounds, Traces, Generates, are_as_many, created_by, form_named, forms, is_word, name_of, number_in, words_of}
use Rattle.kit_words.specs.Command.{command_of, command_with, form_of, form_with, made, tested}
use Rattle.kit_words.specs.inner.CommandLine.{command_in, command_line, form_in, form_shape, given, given_to, ids_of}
use Rattle.kit_words.proofs.Plain.{form_faults, form_faults_are, form_rows_are, is_flat, plain_faults, plain_walk}
use Rattle.kit_words.proofs.FirstWord.{app, names, named_fault, named_rows}

-- the answer to the words: what is found is the command, or there is a fault and no command
pub data Answer (words : List Text) : Type 0 where
  Taken : fault_of command_line words ≡ [] → command_in (subcommand_of command_line words) ≡ command_of words → Answer words
  Refused : (kind : ErrorKind) (kinds : Kinds) → fault_of command_line words ≡ kind ∷ kinds → command_of words ≡ None → Answer words

-- a form as it is built
abbrev pub sub : Form → Shape
sub form = built_leaf (inherited command_line.top (form_shape (name_of form) (ids_of form)))

abbrev rows_for : Form → List Text → List Row
rows_for form words = finished (sub form).rules (plain_walk (sub form).rules nothing_held 1 words)

pub form_of_words : (name : Text) (words : List Text) → list_all is_word words ≡ true → command_of (name ∷ words) ≡ form_of name words
unfolding form_with
form_of_words name words e = ap (λ b. if b then form_of name words else None) e

-- the parser and the table know the form by its name
pub record IsKnown (form : Form) : Type 0 where
  pub named : subcommand_met names idle (name_of form) ≡ Some (name_of form)
  pub found : find (λ x. answers_to (name_of form) (label_of x)) app.subs ≡ Some (sub form)
  pub flat : list_all is_flat (sub form).rules ≡ true
  pub listed : form_named (name_of form) ≡ Some form

-- the words are those of the arguments, or they are a fault and not as many
pub data Fits (form : Form) (words : List Text) : Type 0 where
  Exact : form_faults (sub form) words ≡ [] → given (ids_of form) (rows_for form words) ≡ Some words → Fits form words
  Other : (k : ErrorKind) → form_faults (sub form) words ≡ k ∷ [] → are_as_many (words_of form) words ≡ false → Fits form words

module _ (form : Form) (of : IsKnown form) (words : List Text) (plain : list_all is_word words ≡ true) where
  faults : fault_of command_line (name_of form ∷ words) ≡ or_else (form_faults (sub form) words) []
  faults = named_fault (name_of form) (sub form) words of.named of.found ∙ ap (λ ks. or_else ks []) (form_faults_are (sub form) words of.flat plain)

  made_of : command_of (name_of form ∷ words) ≡ command_with form words
  made_of = form_of_words (name_of form) words plain ∙ ap (option_and_then (λ f. command_with f words)) of.listed

  listed_in : (rows : List Row) → form_in (name_of form) rows ≡ given_to form rows
  unfolding form_in
  listed_in rows = ap (option_and_then (λ f. given_to f rows)) of.listed

  pub form_answer : Fits form words → Answer (name_of form ∷ words)
  form_answer (Exact none same) = Taken (faults ∙ ap (λ ks. or_else ks []) none)
      (ap command_in (named_rows (name_of form) (sub form) words of.named of.found) ∙ ap (form_in (name_of form)) (form_rows_are (sub form) words of.flat plain)
      ∙ listed_in (rows_for form words) ∙ ap (option_and_then (command_with form)) same ∙ sym made_of)
  form_answer (Other k some differ) = Refused k [] (faults ∙ ap (λ ks. or_else ks []) some)
      (made_of ∙ ap (λ b. if b then tested (number_in (words_of form) words) (created_by form words) (made form words) else None) differ)

-- what is shown of each form
pub record IsGood (form : Form) : Type 0 where
  pub known : IsKnown form
  pub fits : (words : List Text) → Fits form words

build_fits : (words : List Text) → Fits Builds words
unfolding clap_on_literals plain_walk plain_faults
build_fits [] = Other kind.MissingRequiredArgument refl refl
build_fits (a ∷ []) = Other kind.MissingRequiredArgument refl refl
build_fits (a ∷ b ∷ []) = Other kind.MissingRequiredArgument refl refl
build_fits (a ∷ b ∷ c ∷ []) = Exact refl refl
build_fits (a ∷ b ∷ c ∷ d ∷ rest) = Other kind.UnknownArgument refl refl

pub build_good : IsGood Builds
unfolding form_named
build_good = record { known = record { named = refl; found = refl; flat = refl; listed = refl }; fits = build_fits }

check_fits : (words : List Text) → Fits Checks words
unfolding clap_on_literals plain_walk plain_faults
check_fits [] = Other kind.MissingRequiredArgument refl refl
check_fits (a ∷ []) = Exact refl refl
check_fits (a ∷ b ∷ rest) = Other kind.UnknownArgument refl refl

pub check_good : IsGood Checks
unfolding form_named
check_good = record { known = record { named = refl; found = refl; flat = refl; listed = refl }; fits = check_fits }

run_fits : (words : List Text) → Fits Runs words
unfolding clap_on_literals plain_walk plain_faults
run_fits [] = Other kind.MissingRequiredArgument refl refl
run_fits (a ∷ []) = Other kind.MissingRequiredArgument refl refl
run_fits (a ∷ b ∷ []) = Other kind.MissingRequiredArgument refl refl
run_fits (a ∷ b ∷ c ∷ []) = Other kind.MissingRequiredArgument refl refl
run_fits (a ∷ b ∷ c ∷ d ∷ []) = Other kind.MissingRequiredArgument refl refl
run_fits (a ∷ b ∷ c ∷ d ∷ f ∷ []) = Other kind.MissingRequiredArgument refl refl
run_fits (a ∷ b ∷ c ∷ d ∷ f ∷ g ∷ []) = Exact refl refl
run_fits (a ∷ b ∷ c ∷ d ∷ f ∷ g ∷ h ∷ rest) = Other kind.UnknownArgument refl refl

pub run_good : IsGood Runs
unfolding form_named
run_good = record { known = record { named = refl; found = refl; flat = refl; listed = refl }; fits = run_fits }

play_fits : (words : List Text) → Fits Plays words
unfolding clap_on_literals plain_walk plain_faults
play_fits [] = Other kind.MissingRequiredArgument refl refl
play_fits (a ∷ []) = Other kind.MissingRequiredArgument refl refl
play_fits (a ∷ b ∷ []) = Other kind.MissingRequiredArgument refl refl
play_fits (a ∷ b ∷ c ∷ []) = Other kind.MissingRequiredArgument refl refl
play_fits (a ∷ b ∷ c ∷ d ∷ []) = Other kind.MissingRequiredArgument refl refl
play_fits (a ∷ b ∷ c ∷ d ∷ f ∷ []) = Other kind.MissingRequiredArgument refl refl
play_fits (a ∷ b ∷ c ∷ d ∷ f ∷ g ∷ []) = Other kind.MissingRequiredArgument refl refl
play_fits (a ∷ b ∷ c ∷ d ∷ f ∷ g ∷ h ∷ []) = Other kind.MissingRequiredArgument refl refl
play_fits (a ∷ b ∷ c ∷ d ∷ f ∷ g ∷ h ∷ i ∷ []) = Exact refl refl
play_fits (a ∷ b ∷ c ∷ d ∷ f ∷ g ∷ h ∷ i ∷ j ∷ rest) = Other kind.UnknownArgument refl refl

pub play_good : IsGood Plays
unfolding form_named
play_good = record { known = record { named = refl; found = refl; flat = refl; listed = refl }; fits = play_fits }

watch_fits : (words : List Text) → Fits Watches words
unfolding clap_on_literals plain_walk plain_faults
watch_fits [] = Other kind.MissingRequiredArgument refl refl
watch_fits (a ∷ []) = Other kind.MissingRequiredArgument refl refl
watch_fits (a ∷ b ∷ []) = Other kind.MissingRequiredArgument refl refl
watch_fits (a ∷ b ∷ c ∷ []) = Other kind.MissingRequiredArgument refl refl
watch_fits (a ∷ b ∷ c ∷ d ∷ []) = Other kind.MissingRequiredArgument refl refl
watch_fits (a ∷ b ∷ c ∷ d ∷ f ∷ []) = Other kind.MissingRequiredArgument refl refl
watch_fits (a ∷ b ∷ c ∷ d ∷ f ∷ g ∷ []) = Exact refl refl
watch_fits (a ∷ b ∷ c ∷ d ∷ f ∷ g ∷ h ∷ rest) = Other kind.UnknownArgument refl refl

pub watch_good : IsGood Watches
unfolding form_named
watch_good = record { known = record { named = refl; found = refl; flat = refl; listed = refl }; fits = watch_fits }

bounds_fits : (words : List Text) → Fits TellsBounds words
unfolding clap_on_literals plain_walk plain_faults
bounds_fits [] = Other kind.MissingRequiredArgument refl refl
bounds_fits (a ∷ []) = Other kind.MissingRequiredArgument refl refl
bounds_fits (a ∷ b ∷ []) = Other kind.MissingRequiredArgument refl refl
bounds_fits (a ∷ b ∷ c ∷ []) = Other kind.MissingRequiredArgument refl refl
bounds_fits (a ∷ b ∷ c ∷ d ∷ []) = Exact refl refl
bounds_fits (a ∷ b ∷ c ∷ d ∷ f ∷ rest) = Other kind.UnknownArgument refl refl

pub bounds_good : IsGood TellsBounds
unfolding form_named
bounds_good = record { known = record { named = refl; found = refl; flat = refl; listed = refl }; fits = bounds_fits }

trace_fits : (words : List Text) → Fits Traces words
unfolding clap_on_literals plain_walk plain_faults
trace_fits [] = Other kind.MissingRequiredArgument refl refl
trace_fits (a ∷ []) = Other kind.MissingRequiredArgument refl refl
trace_fits (a ∷ b ∷ []) = Other kind.MissingRequiredArgument refl refl
trace_fits (a ∷ b ∷ c ∷ []) = Other kind.MissingRequiredArgument refl refl
trace_fits (a ∷ b ∷ c ∷ d ∷ []) = Exact refl refl
trace_fits (a ∷ b ∷ c ∷ d ∷ f ∷ rest) = Other kind.UnknownArgument refl refl

pub trace_good : IsGood Traces
unfolding form_named
trace_good = record { known = record { named = refl; found = refl; flat = refl; listed = refl }; fits = trace_fits }

gen_fits : (words : List Text) → Fits Generates words
unfolding clap_on_literals plain_walk plain_faults
gen_fits [] = Other kind.MissingRequiredArgument refl refl
gen_fits (a ∷ []) = Other kind.MissingRequiredArgument refl refl
gen_fits (a ∷ b ∷ []) = Other kind.MissingRequiredArgument refl refl
gen_fits (a ∷ b ∷ c ∷ []) = Other kind.MissingRequiredArgument refl refl
gen_fits (a ∷ b ∷ c ∷ d ∷ []) = Exact refl refl
gen_fits (a ∷ b ∷ c ∷ d ∷ f ∷ rest) = Other kind.UnknownArgument refl refl

pub gen_good : IsGood Generates
unfolding form_named
gen_good = record { known = record { named = refl; found = refl; flat = refl; listed = refl }; fits = gen_fits }

migrate_fits : (words : List Text) → Fits (Converts Migrate) words
unfolding clap_on_literals plain_walk plain_faults
migrate_fits [] = Other kind.MissingRequiredArgument refl refl
migrate_fits (a ∷ []) = Other kind.MissingRequiredArgument refl refl
migrate_fits (a ∷ b ∷ []) = Exact refl refl
migrate_fits (a ∷ b ∷ c ∷ rest) = Other kind.UnknownArgument refl refl

pub migrate_good : IsGood (Converts Migrate)
unfolding form_named
migrate_good = record { known = record { named = refl; found = refl; flat = refl; listed = refl }; fits = migrate_fits }

assemble_fits : (words : List Text) → Fits (Converts Assemble) words
unfolding clap_on_literals plain_walk plain_faults
assemble_fits [] = Other kind.MissingRequiredArgument refl refl
assemble_fits (a ∷ []) = Other kind.MissingRequiredArgument refl refl
assemble_fits (a ∷ b ∷ []) = Exact refl refl
assemble_fits (a ∷ b ∷ c ∷ rest) = Other kind.UnknownArgument refl refl

pub assemble_good : IsGood (Converts Assemble)
unfolding form_named
assemble_good = record { known = record { named = refl; found = refl; flat = refl; listed = refl }; fits = assemble_fits }

disassemble_fits : (words : List Text) → Fits (Converts Disassemble) words
unfolding clap_on_literals plain_walk plain_faults
disassemble_fits [] = Other kind.MissingRequiredArgument refl refl
disassemble_fits (a ∷ []) = Other kind.MissingRequiredArgument refl refl
disassemble_fits (a ∷ b ∷ []) = Exact refl refl
disassemble_fits (a ∷ b ∷ c ∷ rest) = Other kind.UnknownArgument refl refl

pub disassemble_good : IsGood (Converts Disassemble)
unfolding form_named
disassemble_good = record { known = record { named = refl; found = refl; flat = refl; listed = refl }; fits = disassemble_fits }

-- of every form in a list
abbrev pub Each : (Form → Type 0) → List Form → Type 0
Each P [] = Unit {0}
Each P (form ∷ later) = P form × Each P later

pub all_good : Each IsGood forms
all_good =
    (build_good, (check_good, (migrate_good, (assemble_good, (disassemble_good, (run_good, (play_good, (watch_good, (bounds_good, (trace_good, (gen_good, tt)))))))))))
