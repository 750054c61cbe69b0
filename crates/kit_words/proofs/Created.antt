-- The files that a command creates are pairwise different, and are those that the table of forms lists.
use Rattle.std.proofs.Common.{ℕ, ◌≡◌, Bool, true, false, not, ◌&&◌, List, [], ◌∷◌, Option, Some, None, refl, sym, ap, subst, ◌∙◌, true≢false}
use Rattle.std.specs.Prelude.{if◌then◌else◌, option_and_then, option_map}
use Rattle.std.specs.List.{list_all}
use Rattle.std.specs.Str.{bytes_eq}
use Rattle.clap.proofs.WalkLemmas.{both}
use Rattle.kit_words.specs.Forms.{Form, Builds, Checks, Converts, Runs, Plays, Watches, TellsBounds, Traces, Generates, are_as_many, are_different, created_by, differs_from, form_named, is_word, number_in, read_in, source_name, with_card, words_of}
use Rattle.kit_words.specs.Command.{Command, RunWords, WatchWords, Build, Play, Watch, Bounds, Gen, command_of, command_with, form_of, form_with, is_number_if_there, made, tested}
use Rattle.kit_words.specs.Created.{created_names, number_word, read_names, run_names}

-- the table lists the files of the command, and its number
record Lists (form : Form) (arguments : List (List ℕ)) (command : Command) : Type 0 where
  created : created_by form arguments ≡ created_names command
  read : read_in (words_of form) arguments ≡ read_names command
  number : number_in (words_of form) arguments ≡ number_word command

IfMade : Form → List (List ℕ) → Option Command → Type 0
IfMade form arguments None = Unit {0}
IfMade form arguments (Some command) = Lists form arguments command

if_made : (form : Form) (arguments : List (List ℕ)) → IfMade form arguments (made form arguments)
unfolding IfMade
if_made Builds (project ∷ cart ∷ map_name ∷ []) = record { created = refl; read = refl; number = refl }
if_made Checks (project ∷ []) = record { created = refl; read = refl; number = refl }
if_made (Converts conversion) (source ∷ target ∷ []) = record { created = refl; read = refl; number = refl }
if_made Runs (cart ∷ pads ∷ frames ∷ samples ∷ count ∷ card ∷ []) = record { created = refl; read = refl; number = refl }
if_made Plays (project ∷ cart ∷ map_name ∷ pads ∷ frames ∷ samples ∷ count ∷ card ∷ []) = record { created = refl; read = refl; number = refl }
if_made Watches (project ∷ cart ∷ map_name ∷ pads ∷ count ∷ card ∷ []) = record { created = refl; read = refl; number = refl }
if_made TellsBounds (project ∷ cart ∷ map_name ∷ text_name ∷ []) = record { created = refl; read = refl; number = refl }
if_made Traces (cart ∷ answers ∷ card ∷ steps ∷ []) = record { created = refl; read = refl; number = refl }
if_made Generates (number ∷ project ∷ cart ∷ map_name ∷ []) = record { created = refl; read = refl; number = refl }
if_made form arguments = tt

lists : (form : Form) (arguments : List (List ℕ)) (command : Command) → made form arguments ≡ Some command → Lists form arguments command
unfolding IfMade
lists form arguments command is = subst (IfMade form arguments) is (if_made form arguments)

-- a test that was passed
passed : (b : Bool) (o : Option Command) (command : Command) → (if b then o else None) ≡ Some command → (b ≡ true) × (o ≡ Some command)
passed true o command is = (refl, is)
passed false o command is = cc

-- what is known of a command that a form's words name
record IsMade (form : Form) (arguments : List (List ℕ)) (command : Command) : Type 0 where
  different : are_different (created_names command) ≡ true
  number : is_number_if_there (number_word command) ≡ true
  listed : Lists form arguments command

made_with : (form : Form) (arguments : List (List ℕ)) (command : Command) → command_with form arguments ≡ Some command → IsMade form arguments command
unfolding tested
made_with form arguments command is =
    let fits = passed (are_as_many (words_of form) arguments) _ command is in
    let tests = passed (is_number_if_there (number_in (words_of form) arguments) && are_different (created_by form arguments)) _ command fits.1 in
    let each = both (is_number_if_there (number_in (words_of form) arguments)) _ tests.0 in
    let here = lists form arguments command tests.1 in
    record {
      different = subst (λ names. are_different names ≡ true) here.created each.1;
      number = subst (λ word. is_number_if_there word ≡ true) here.number each.0;
      listed = here;
    }

-- the form that the words name
record IsNamed (name : List ℕ) (arguments : List (List ℕ)) (command : Command) : Type 0 where
  form : Form
  named : form_named name ≡ Some form
  is_made : IsMade form arguments command

named_in : (name : List ℕ) (arguments : List (List ℕ)) (command : Command) (o : Option Form) → form_named name ≡ o
    → option_and_then (λ form. command_with form arguments) o ≡ Some command → IsNamed name arguments command
named_in name arguments command None named is = cc
named_in name arguments command (Some form) named is = record { form = form; named = named; is_made = made_with form arguments command is }

named_with : (name : List ℕ) (arguments : List (List ℕ)) (command : Command) → command_of (name ∷ arguments) ≡ Some command → IsNamed name arguments command
unfolding form_with
named_with name arguments command is =
    named_in name arguments command (form_named name) refl (passed (list_all is_word arguments) (form_of name arguments) command is).1

-- ---- the laws

pub created_differ : (words : List (List ℕ)) (command : Command) → command_of words ≡ Some command → are_different (created_names command) ≡ true
created_differ [] command is = cc
created_differ (name ∷ arguments) command is = (named_with name arguments command is).is_made.different

pub numbers_are : (words : List (List ℕ)) (command : Command) → command_of words ≡ Some command → is_number_if_there (number_word command) ≡ true
numbers_are [] command is = cc
numbers_are (name ∷ arguments) command is = (named_with name arguments command is).is_made.number

pub created_listed : (name : List ℕ) (arguments : List (List ℕ)) (command : Command) → command_of (name ∷ arguments) ≡ Some command
    → option_map (λ form. created_by form arguments) (form_named name) ≡ Some (created_names command)
created_listed name arguments command is =
    let h = named_with name arguments command is in
    ap (option_map (λ form. created_by form arguments)) h.named ∙ ap Some h.is_made.listed.created

pub read_listed : (name : List ℕ) (arguments : List (List ℕ)) (command : Command) → command_of (name ∷ arguments) ≡ Some command
    → option_map (λ form. read_in (words_of form) arguments) (form_named name) ≡ Some (read_names command)
read_listed name arguments command is =
    let h = named_with name arguments command is in
    ap (option_map (λ form. read_in (words_of form) arguments)) h.named ∙ ap Some h.is_made.listed.read

-- ---- the same of the single commands, name by name

not_true : (b : Bool) → not b ≡ true → b ≡ false
not_true true e = absurd (true≢false (sym e))
not_true false e = refl

-- a name and the names behind it
split : (name : List ℕ) (names : List (List ℕ)) → are_different (name ∷ names) ≡ true → (differs_from name names ≡ true) × (are_different names ≡ true)
unfolding are_different
split name names e = both (differs_from name names) _ e

pub differs_first : (name other : List ℕ) (names : List (List ℕ)) → differs_from name (other ∷ names) ≡ true → bytes_eq name other ≡ false
differs_first name other names e = not_true _ ((both (not (bytes_eq name other)) _ e).0)

pub differs_later : (name other : List ℕ) (names : List (List ℕ)) → differs_from name (other ∷ names) ≡ true → differs_from name names ≡ true
differs_later name other names e = (both (not (bytes_eq name other)) _ e).1

pub build_differ : (words : List (List ℕ)) (project cart map_name : List ℕ) → command_of words ≡ Some (Build project cart map_name) → bytes_eq cart map_name ≡ false
build_differ words project cart map_name is =
    differs_first cart map_name [] ((split cart (map_name ∷ []) (created_differ words _ is)).0)

pub watch_differ : (words : List (List ℕ)) (watch : WatchWords) → command_of words ≡ Some (Watch watch) → bytes_eq watch.cart watch.map_name ≡ false
watch_differ words watch is = differs_first watch.cart watch.map_name [] ((split watch.cart (watch.map_name ∷ []) (created_differ words _ is)).0)

-- the files of `bounds`
pub record AreThree (cart map_name text_name : List ℕ) : Type 0 where
  pub cart_map : bytes_eq cart map_name ≡ false
  pub cart_text : bytes_eq cart text_name ≡ false
  pub map_text : bytes_eq map_name text_name ≡ false

pub bounds_differ : (words : List (List ℕ)) (project cart map_name text_name : List ℕ) → command_of words ≡ Some (Bounds project cart map_name text_name) → AreThree cart map_name text_name
bounds_differ words project cart map_name text_name is =
    let a = split cart (map_name ∷ text_name ∷ []) (created_differ words _ is) in
    let b = split map_name (text_name ∷ []) a.1 in
    record {
      cart_map = differs_first cart map_name (text_name ∷ []) a.0;
      cart_text = differs_first cart text_name [] (differs_later cart map_name (text_name ∷ []) a.0);
      map_text = differs_first map_name text_name [] b.0;
    }

-- the file is another one than the card's
abbrev pub differ_from : List ℕ → Option (List ℕ) → Bool
differ_from name None = true
differ_from name (Some card) = not (bytes_eq name card)

-- the file is none that a run creates
abbrev pub is_apart : List ℕ → RunWords → Bool
is_apart name words = not (bytes_eq name words.frames) && (not (bytes_eq name words.samples) && differ_from name words.card)

-- the cartridge and the map of a play are different files, and none that its run creates
abbrev pub are_apart : List ℕ → RunWords → Bool
are_apart map_name words = not (bytes_eq words.cart map_name) && (is_apart words.cart words && is_apart map_name words)

card_apart : (name : List ℕ) (card : Option (List ℕ)) → differs_from name (with_card card []) ≡ true → differ_from name card ≡ true
card_apart name None e = refl
card_apart name (Some card) e = (both (not (bytes_eq name card)) _ e).0

from_run : (name : List ℕ) (words : RunWords) → differs_from name (run_names words) ≡ true → is_apart name words ≡ true
from_run name words e =
    let a = both (not (bytes_eq name words.frames)) _ e in
    let b = both (not (bytes_eq name words.samples)) _ a.1 in
    λ i. a.0 i && (b.0 i && card_apart name words.card b.1 i)

pub play_differ : (words : List (List ℕ)) (project map_name : List ℕ) (run : RunWords) → command_of words ≡ Some (Play project map_name run) → are_apart map_name run ≡ true
play_differ words project map_name run is =
    let a = split run.cart (map_name ∷ run_names run) (created_differ words _ is) in
    let cart = both (not (bytes_eq run.cart map_name)) _ a.0 in
    let b = split map_name (run_names run) a.1 in
    λ i. cart.0 i && (from_run run.cart run cart.1 i && from_run map_name run b.0 i)

-- the files of `gen`
pub record AreFour (project cart map_name : List ℕ) : Type 0 where
  pub source_project : bytes_eq source_name project ≡ false
  pub source_cart : bytes_eq source_name cart ≡ false
  pub source_map : bytes_eq source_name map_name ≡ false
  pub project_cart : bytes_eq project cart ≡ false
  pub project_map : bytes_eq project map_name ≡ false
  pub cart_map : bytes_eq cart map_name ≡ false

pub gen_differ : (words : List (List ℕ)) (number project cart map_name : List ℕ) → command_of words ≡ Some (Gen number project cart map_name) → AreFour project cart map_name
gen_differ words number project cart map_name is =
    let a = split source_name (project ∷ cart ∷ map_name ∷ []) (created_differ words _ is) in
    let b = split project (cart ∷ map_name ∷ []) a.1 in
    let c = split cart (map_name ∷ []) b.1 in
    record {
      source_project = differs_first source_name project (cart ∷ map_name ∷ []) a.0;
      source_cart = differs_first source_name cart (map_name ∷ []) (differs_later source_name project (cart ∷ map_name ∷ []) a.0);
      source_map = differs_first source_name map_name [] (differs_later source_name cart (map_name ∷ []) (differs_later source_name project (cart ∷ map_name ∷ []) a.0));
      project_cart = differs_first project cart (map_name ∷ []) b.0;
      project_map = differs_first project map_name [] (differs_later project cart (map_name ∷ []) b.0);
      cart_map = differs_first cart map_name [] c.0;
    }
