-- Each form of the table is found by its name, and as many words as it lists make its command.
use Rattle.std.proofs.Common.{ℕ, ◌≡◌, List, [], ◌∷◌, Some, refl}
use Rattle.std.specs.Prelude.{is_some}
use Rattle.kit_words.specs.declared.conversion.Conversion.TheVariants.{Migrate, Assemble, Disassemble}
use Rattle.kit_words.specs.Forms.{Form, Builds, Checks, Converts, Runs, Plays, Watches, TellsBounds, Traces, Generates, are_as_many, form_named, name_of, words_of}
use Rattle.kit_words.specs.Command.{made}

pub named_form : (form : Form) → form_named (name_of form) ≡ Some form
unfolding form_named
named_form Builds = refl
named_form Checks = refl
named_form (Converts Migrate) = refl
named_form (Converts Assemble) = refl
named_form (Converts Disassemble) = refl
named_form Runs = refl
named_form Plays = refl
named_form Watches = refl
named_form TellsBounds = refl
named_form Traces = refl
named_form Generates = refl

pub made_as_many : (form : Form) (arguments : List (List ℕ)) → is_some (made form arguments) ≡ are_as_many (words_of form) arguments
made_as_many Builds (project ∷ cart ∷ map_name ∷ []) = refl
made_as_many Checks (project ∷ []) = refl
made_as_many (Converts conversion) (source ∷ target ∷ []) = refl
made_as_many Runs (cart ∷ pads ∷ frames ∷ samples ∷ count ∷ card ∷ []) = refl
made_as_many Plays (project ∷ cart ∷ map_name ∷ pads ∷ frames ∷ samples ∷ count ∷ card ∷ []) = refl
made_as_many Watches (project ∷ cart ∷ map_name ∷ pads ∷ count ∷ card ∷ []) = refl
made_as_many TellsBounds (project ∷ cart ∷ map_name ∷ text_name ∷ []) = refl
made_as_many Traces (cart ∷ answers ∷ card ∷ steps ∷ []) = refl
made_as_many Generates (number ∷ project ∷ cart ∷ map_name ∷ []) = refl
made_as_many form arguments = refl
