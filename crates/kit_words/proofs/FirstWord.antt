-- What the parse makes of the first word: it names a form, whose words are the rest, or it is a fault.
use Rattle.std.proofs.Common.{◌≡◌, ◌∙◌, ◌&&◌, Bool, true, false, List, [], ◌∷◌, ◌++◌, Some, None, refl, sym, ap, codes}
use Rattle.std.specs.Prelude.{if◌then◌else◌, find, option_map, is_some}
use Rattle.std.specs.List.{fold}
use Rattle.std.specs.Option.{option_map_or}
use Rattle.std.specs.Str.{bytes_eq}
use Rattle.clap.specs.Walk.{after_step, subcommand_or_other, settled, finished, Names, Text, Walk, answers_to, idle, nothing_held, rows_after, subcommand_met, walk, walk_from, walked}
use Rattle.clap.specs.Kinds.{Kinds, or_else}
use Rattle.clap.specs.Faults.{other_fault, step_fault, settle_fault, defaults_fault, check_fault, entered_fault, fault_of, level_fault, turn_fault, walk_fault}
use Rattle.clap.specs.Simple.{App, rows_at, Shape, built, entered, label_of, names_of, subcommand_of}
use Rattle.clap.proofs.OnLiterals.{clap_on_literals}
use Rattle.clap.proofs.WalkLemmas.{walk_stopped}
use Rattle.clap.specs.declared.error.kind.ErrorKind.TheVariants as kind
use Rattle.kit_words.specs.Forms.{is_word}
use Rattle.kit_words.specs.inner.CommandLine.{command_line}
use Rattle.kit_words.proofs.Plain.{plain_fault, plain_met, Pair}

abbrev pub app : App
app = built command_line

abbrev pub names : Names
names = names_of app

-- once a subcommand was met, no word is a fault
still : (s : Shape) (known : Names) (w : Walk) (name : Text) (seen words : List Text) → walk_fault s known (record w { stopped = Some (name, seen) }) words ≡ []
unfolding walked walk_fault
still s known w name seen [] = refl
still s known w name seen (x ∷ xs) = still s known w name (seen ++ x ∷ []) xs

and_false : (b : Bool) → (b && false) ≡ false
and_false true = refl
and_false false = refl

abbrev at_start : Walk
at_start = walk_from nothing_held

abbrev met_at : Text → Walk
met_at name = record at_start { stopped = Some (name, []) }

-- what the parse finds at fault after its walk
abbrev after : Walk → Kinds
after w = or_else (entered_fault app w.stopped) (or_else (settle_fault app.top.rules app.top.args_override_self w.held)
    (or_else (defaults_fault (settled app.top.rules w.held).rows app.top.rules)
    (check_fault app.top (finished app.top.rules w.held) (is_some (entered app w.stopped)))))

module _ (name : Text) (s : Shape) (words : List Text) (named : subcommand_met names idle name ≡ Some s.name) (found : find (λ x. answers_to s.name (label_of x)) app.subs ≡ Some s) where
  first_walk : ◌≡◌ {A = Walk} (walked app.top.rules names at_start name) (met_at s.name)
  unfolding walked
  first_walk = ap (λ o. after_step app.top.rules name at_start
      (subcommand_or_other app.top.rules o idle 1 name nothing_held).0
      (subcommand_or_other app.top.rules o idle 1 name nothing_held).1) named

  first_fault : turn_fault app.top names at_start name ≡ []
  first_fault = (ap (λ o. or_else (other_fault app.top o name nothing_held) (step_fault app.top 1
      (subcommand_or_other app.top.rules o idle 1 name nothing_held).0
      (subcommand_or_other app.top.rules o idle 1 name nothing_held).1)) named)
      ∙ ap (λ b. or_else (if b then kind.DisplayHelp ∷ kind.InvalidSubcommand ∷ [] else []) []) (and_false (bytes_eq s.name (codes "help")))

  whole_walk : ◌≡◌ {A = Walk} (walk app.top.rules names nothing_held (name ∷ words)) (record at_start { stopped = Some (s.name, words) })
  whole_walk = ap (λ w. fold (walked app.top.rules names) w words) first_walk ∙ sym (walk_stopped app.top.rules names at_start s.name [] words)

  whole_fault : walk_fault app.top names at_start (name ∷ words) ≡ []
  unfolding walk_fault
  whole_fault = ap (λ ks. or_else ks (walk_fault app.top names (walked app.top.rules names at_start name) words)) first_fault
      ∙ ap (λ w. walk_fault app.top names w words) first_walk ∙ still app.top names at_start s.name [] words

  pub named_fault : fault_of command_line (name ∷ words) ≡ or_else (level_fault s [] nothing_held words false []) []
  unfolding clap_on_literals
  named_fault =
      ap (λ ks. or_else ks (after (walk app.top.rules names nothing_held (name ∷ words)))) whole_fault
      ∙ ap after whole_walk
      ∙ ap (λ o. or_else (option_map_or (λ x. level_fault x [] nothing_held words false []) o []) (check_fault app.top [] (is_some (option_map (λ x. rows_at x words) o)))) found

  pub named_rows : subcommand_of command_line (name ∷ words) ≡ Some (s.name, rows_after s.rules [] words)
  named_rows = ap (λ (w : Walk). entered app w.stopped) whole_walk ∙ ap (option_map (λ x. rows_at x words)) found

-- ---- the first word names no form

pub unmet_fault : (name : Text) (words : List Text) → is_word name ≡ true → subcommand_met names idle name ≡ None
    → fault_of command_line (name ∷ words) ≡ kind.UnknownArgument ∷ kind.InvalidSubcommand ∷ []
unfolding clap_on_literals
unmet_fault name words e unmet = ap (λ ks. or_else (or_else ks (walk_fault app.top names (walked app.top.rules names at_start name) words)) (after (walk app.top.rules names nothing_held (name ∷ words))))
    (ap (λ o. or_else (other_fault app.top o name nothing_held) (step_fault app.top 1 (subcommand_or_other app.top.rules o idle 1 name nothing_held).0
    (subcommand_or_other app.top.rules o idle 1 name nothing_held).1)) unmet
    ∙ ap (λ ks. or_else ks (step_fault app.top 1 (subcommand_or_other app.top.rules None idle 1 name nothing_held).0
    (subcommand_or_other app.top.rules None idle 1 name nothing_held).1)) (plain_fault app.top name nothing_held e)
    ∙ ap (λ (p : Pair). step_fault app.top 1 p.0 p.1) (plain_met app.top.rules 1 name nothing_held e))
