-- What the parse of the words comes to is the command that they name.
use Rattle.std.proofs.Common.{◌≡◌, inl, inr, ◌||◌, ◌∙◌, ◌&&◌, Bool, true, false, not, List, [], ◌∷◌, map, Option, None, refl, sym, ap, subst, true≢false}
use Rattle.std.specs.Prelude.{if◌then◌else◌, find, option_map, option_and_then}
use Rattle.std.specs.List.{list_all}
use Rattle.std.specs.Str.{bytes_eq}
use Rattle.std.proofs.lemmas.Slice.Eq.{bytes_eq-Decides}
use Rattle.clap.specs.Walk.{Row, Text, answers_to}
use Rattle.clap.specs.Kinds.{HasKind, IsAmong, Kinds}
use Rattle.clap.specs.Values.{kind_of}
use Rattle.clap.specs.declared.error.Error.{Error}
use Rattle.std.proofs.lemmas.Bool.Decides.{Decides-eqb}
use Rattle.clap.specs.Faults.{fault_of, is_simple_and_free}
use Rattle.clap.specs.Simple.{App, is_simple, subcommand_of}
use Rattle.clap.proofs.OnLiterals.{clap_on_literals}
use Rattle.clap.proofs.WalkLemmas.{both}
use Rattle.clap.specs.declared.error.kind.ErrorKind.{ErrorKind}
use Rattle.clap.specs.declared.error.kind.ErrorKind.TheVariants as kind
use Rattle.kit_words.specs.Forms.{Form, form_named, forms, is_word, name_of}
use Rattle.kit_words.specs.Command.{command_of, command_with, form_of, form_with}
use Rattle.kit_words.specs.inner.CommandLine.{command_in, command_line}
use Rattle.kit_words.proofs.FirstWord.{unmet_fault}
use Rattle.kit_words.proofs.Forms.{Answer, Taken, Refused, Each, IsGood, all_good, form_answer, form_of_words}

pub is_plain_app : is_simple_and_free command_line ≡ true
is_plain_app = refl

pub is_simple_line : is_simple command_line ≡ true
is_simple_line = refl

-- ---- the first word

-- the name is this one, or differs from it
data Compared (name known : Text) : Type 0 where
  Same : known ≡ name → Compared name known
  Other : bytes_eq known name ≡ false → bytes_eq name known ≡ false → Compared name known

compared : (known name : Text) → Compared name known
compared known name = go (bytes_eq known name) (bytes_eq name known) refl refl
  where
    go : (a b : Bool) → bytes_eq known name ≡ a → bytes_eq name known ≡ b → Compared name known
    go true b x y = Same ((bytes_eq-Decides known name).0 x)
    go false true x y = Same (sym ((bytes_eq-Decides name known).0 y))
    go false false x y = Other x y

otherwise : {X : Type 0} (b : Bool) (x y z : X) → b ≡ false → y ≡ z → (if b then x else y) ≡ z
otherwise b x y z is then_is = ap (λ t. if t then x else y) is ∙ then_is

not_either : (b : Bool) → b ≡ false → (b || false) ≡ false
not_either b e = ap (λ t. t || false) e

abbrev row : Form → Text × List Text
row form = (name_of form, [])

-- a form of that name, or none has it
data Found (name : Text) (among : List Form) : Type 0 where
  Here : (form : Form) → name_of form ≡ name → IsGood form → Found name among
  Nowhere : find (λ form. bytes_eq name (name_of form)) among ≡ None → find (answers_to name) (map row among) ≡ None → Found name among

found_among : (name : Text) (among : List Form) → Each IsGood among → Found name among
found_among name [] good = Nowhere refl refl
found_among name (form ∷ later) good = go (compared (name_of form) name) (found_among name later good.1)
  where
    go : Compared name (name_of form) → Found name later → Found name (form ∷ later)
    go (Same is) rest = Here form is good.0
    go (Other x y) (Here other is of) = Here other is of
    go (Other x y) (Nowhere none unmet) = Nowhere (otherwise _ _ _ _ y none) (otherwise _ _ _ _ (not_either _ x) unmet)

answer_by : (name : Text) (words : List Text) → is_word name ≡ true → list_all is_word words ≡ true → Found name forms → Answer (name ∷ words)
unfolding form_named
answer_by name words w e (Here form is of) = subst (λ n. Answer (n ∷ words)) is (form_answer form of.known words e (of.fits words))
answer_by name words w e (Nowhere none unmet) =
    Refused kind.UnknownArgument (kind.InvalidSubcommand ∷ []) (unmet_fault name words w (ap (option_map (λ s. s.0)) unmet))
    (form_of_words name words e ∙ ap (option_and_then (λ form. command_with form words)) none)

no_words_fault : fault_of command_line [] ≡ kind.MissingSubcommand ∷ []
unfolding clap_on_literals
no_words_fault = refl

pub answer : (words : List Text) → list_all is_word words ≡ true → Answer words
answer [] e = Refused kind.MissingSubcommand [] no_words_fault refl
answer (name ∷ words) e =
    let parts = both (is_word name) _ e in
    answer_by name words parts.0 parts.1 (found_among name forms all_good)

-- ---- words that `clap` is not asked

not_false : (b : Bool) → not b ≡ false → b ≡ true
not_false true e = refl
not_false false e = absurd (true≢false e)

unnamed : (name : Text) (words : List Text) → is_word name ≡ false → form_of name words ≡ None
unfolding form_named
unnamed [] words e = refl
unnamed (x ∷ xs) words e = subst (λ y. form_of (y ∷ xs) words ≡ None) (sym ((Decides-eqb x 45).0 (not_false _ e))) refl

if_none : {X : Type 0} (b : Bool) (o : Option X) → o ≡ None → (if b then o else None) ≡ None
if_none true o e = e
if_none false o e = refl

pub no_command : (words : List Text) → list_all is_word words ≡ false → command_of words ≡ None
unfolding form_with
no_command [] e = refl
no_command (name ∷ words) e = go (is_word name) refl e
  where
    go : (b : Bool) → is_word name ≡ b → (b && list_all is_word words) ≡ false → (if list_all is_word words then form_of name words else None) ≡ None
    go true is all = ap (λ t. if t then form_of name words else None) all
    go false is all = if_none _ _ (unnamed name words is)

-- ---- the answers of the parse

abbrev is_none_of : Kinds → Bool
is_none_of [] = true
is_none_of (_ ∷ _) = false

none≢some : (k : ErrorKind) (ks : Kinds) (x : Kinds) → x ≡ [] → x ≡ k ∷ ks → ⊥
none≢some k ks x none some = true≢false (ap is_none_of (sym none ∙ some))

pub command_found : (a : App) (words : List Text) (met : Option (Text × List Row)) → a ≡ command_line → list_all is_word words ≡ true
    → fault_of a words ≡ [] → met ≡ subcommand_of a words → command_in met ≡ command_of words
command_found a words met is e none found = go (answer words e)
  where
    go : Answer words → command_in met ≡ command_of words
    go (Taken _ same) = ap command_in (found ∙ ap (λ x. subcommand_of x words) is) ∙ same
    go (Refused k ks some _) = absurd (none≢some k ks _ (sym (ap (λ x. fault_of x words) is) ∙ none) some)

pub command_refused : (a : App) (words : List Text) (error : Error) → a ≡ command_line → list_all is_word words ≡ true
    → HasKind (fault_of a words) error → (kind_of error ≡ kind.OutOfMemory → ⊥) → command_of words ≡ None
command_refused a words error is e has other = go (answer words e)
  where
    go : Answer words → command_of words ≡ None
    go (Taken none _) = elim has [
      | inl memory ↦ absurd (other memory)
      | inr among ↦ absurd (subst (IsAmong (kind_of error)) (ap (λ x. fault_of x words) is ∙ none) among)
    ]
    go (Refused _ _ _ none) = none
