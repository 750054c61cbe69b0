-- What the files of a run and of a play hold, from the effects that were done.
use Rattle.std.proofs.Common.{ℕ, ◌≡◌, ◌⊎◌, true, List, [], ◌∷◌, refl, sym, ap, subst, ◌∙◌}
use Rattle.std.specs.Prelude.{Option, Some, None, IfSome, IsSomeAnd}
use Rattle.std.specs.FinMap.{get}
use Rattle.std.proofs.lemmas.Bool.{and_parts}
use Rattle.kit_base.specs.Held.{Held}
use Rattle.kit_base.specs.Effects.{all_done}
use Rattle.kit_base.proofs.Cuts.{all_done-append}
use Rattle.project_text.specs.MapText.{map_text}
use Rattle.build_core.specs.declared.building.Built.{Built}
use Rattle.run_core.specs.Outputs.{run_outputs}
use Rattle.output_laws.specs.Standing.{AreApart, AreOther, IsNoCard, IsNone, OutputsStand}
use Rattle.output_laws.proofs.Begun.{other_way}
use Rattle.output_laws.proofs.Outputs.{outputs_whole}
use Rattle.kit_words.specs.Forms.{are_different, differs_from, with_card}
use Rattle.kit_words.specs.Command.{RunWords, Run, command_of}
use Rattle.kit_words.specs.Created.{run_names}
use Rattle.kit_words.proofs.Created.{created_differ, differs_first, differs_later}
use Rattle.kit_tools.specs.Running.{Game, IsRun, RunStands, names_in}
use Rattle.kit_core.specs.Due.{outputs_of, play_effects}
use Rattle.kit_core.specs.Holding.{FilesHold, GameStands, IsRunHeld, PlayFilesStand}
use Rattle.kit_core.proofs.Behind.{some_made}
use Rattle.kit_core.proofs.Writes.{get_written, get_unwritten}

-- ---- the names of a run's files are apart

pub split : (name : List ℕ) (names : List (List ℕ)) → are_different (name ∷ names) ≡ true → (differs_from name names ≡ true) × (are_different names ≡ true)
unfolding are_different
split name names e = and_parts (differs_from name names) _ e

pub no_card : (name : List ℕ) (card : Option (List ℕ)) → differs_from name (with_card card []) ≡ true → IsNoCard name card
no_card name None e = tt
no_card name (Some card) e = differs_first name card [] e

card_other : (name : List ℕ) (o : Option (List ℕ)) → IsNoCard name o → (card : List ℕ) → o ≡ Some card → AreOther card name
card_other name o h card is = other_way name card (subst (IsNoCard name) is h)

pub names_apart : (run : RunWords) → are_different (run_names run) ≡ true → AreApart (names_in run)
names_apart run e =
    let first = split run.frames (run.samples ∷ with_card run.card []) e in
    let second = split run.samples (with_card run.card []) first.1 in
    let frames_samples = differs_first run.frames run.samples (with_card run.card []) first.0 in
    let frames_card = no_card run.frames run.card (differs_later run.frames run.samples (with_card run.card []) first.0) in
    let samples_card = no_card run.samples run.card second.0 in
    record {
      samples_frames = other_way run.frames run.samples frames_samples;
      frames_samples = frames_samples;
      frames_card = frames_card;
      samples_card = samples_card;
      card_frames = card_other run.frames run.card frames_card;
      card_samples = card_other run.samples run.card samples_card;
    }

pub run_apart : (words : List (List ℕ)) (run : RunWords) → command_of words ≡ Some (Run run) → AreApart (names_in run)
run_apart words run named = names_apart run (created_differ words (Run run) named)

-- ---- the outputs of a game that are all done

game_stands : (run : RunWords) (game : Game) (before : Held) (after : Option Held) → AreApart (names_in run)
    → after ≡ all_done (run_outputs (names_in run) game.setup game.count) (Some before) → GameStands run game before after
game_stands run game before after apart is =
    let made = some_made (run_outputs (names_in run) game.setup game.count) before in
    subst (λ o. GameStands run game before o) (sym (is ∙ made.1)) (outputs_whole (names_in run) game.setup game.count before made.0 apart (sym made.1))

run_held : (run : RunWords) (m : Held) (status : ℕ) (after : Option Held) (before put : Option (List ℕ)) → AreApart (names_in run)
    → IsRun run m status after before put → IsRunHeld run m after
run_held run m status after before put apart h = record { game = h.game; is_due = h.is_due; stands = game_stands run h.game m after apart h.outputs }

pub hold_told : (words : List (List ℕ)) (status : ℕ) (told after : Option Held) (before put : Option (List ℕ))
    → IfSome told (λ m. (status ≡ 0) ⊎ (status ≡ 3) → RunStands words m status after before put) → IfSome told (λ m. (status ≡ 0) ⊎ (status ≡ 3) → FilesHold words m after)
hold_told words status None after before put runs = tt
hold_told words status (Some m) after before put runs = λ z run named. run_held run m status after before put (run_apart words run named) (runs z run named)

-- ---- what was built, and then the outputs of its game

-- the name is none of a run's files
pub no_run_file : (name : List ℕ) (run : RunWords) → differs_from name (run_names run) ≡ true → IsNone (names_in run) name
no_run_file name run h =
    let later = differs_later name run.frames (run.samples ∷ with_card run.card []) h in
    record {
      frames = differs_first name run.frames (run.samples ∷ with_card run.card []) h;
      samples = differs_first name run.samples (with_card run.card []) later;
      card = no_card name run.card (differs_later name run.samples (with_card run.card []) later);
    }

-- the cartridge and the map of a play are different files, and none that its run creates
pub record PlayApart (map_name : List ℕ) (run : RunWords) : Type 0 where
  pub run_files : AreApart (names_in run)
  pub cart_map : AreOther run.cart map_name
  pub cart_none : IsNone (names_in run) run.cart
  pub map_none : IsNone (names_in run) map_name

pub play_apart : (map_name : List ℕ) (run : RunWords) → are_different (run.cart ∷ map_name ∷ run_names run) ≡ true → PlayApart map_name run
play_apart map_name run e =
    let first = split run.cart (map_name ∷ run_names run) e in
    let second = split map_name (run_names run) first.1 in
    record {
      run_files = names_apart run second.1;
      cart_map = differs_first run.cart map_name (run_names run) first.0;
      cart_none = no_run_file run.cart run (differs_later run.cart map_name (run_names run) first.0);
      map_none = no_run_file map_name run second.0;
    }

-- the cartridge and the map hold what was built, and every other file is as before
record BuiltStand (cart map_name : List ℕ) (b : Built) (before after : Held) : Type 0 where
  cart_stands : get after cart ≡ Some b.cart
  map_stands : get after map_name ≡ Some (map_text b.map)
  others : (name : List ℕ) → AreOther name cart → AreOther name map_name → get after name ≡ get before name

built_made : (cart map_name : List ℕ) (b : Built) (m : Held) → AreOther cart map_name
    → (made : Held) × (all_done (outputs_of cart map_name b) (Some m) ≡ Some made) × BuiltStand cart map_name b m made
built_made cart map_name b m differ = (
  _,
  refl,
  record {
    cart_stands = get_unwritten _ map_name (map_text b.map) cart differ ∙ get_written m cart b.cart;
    map_stands = get_written _ map_name (map_text b.map);
    others = λ name c n. get_unwritten _ map_name (map_text b.map) name n ∙ get_unwritten m cart b.cart name c;
  },
)

module _ (map_name : List ℕ) (run : RunWords) (b : Built) (game : Game) (m : Held) (apart : PlayApart map_name run) where
  files_at : (made files : Held) → BuiltStand run.cart map_name b m made → OutputsStand (names_in run) game.setup game.count made files → PlayFilesStand map_name run b game m files
  files_at made files built outputs = record {
    cart_stands = outputs.others run.cart apart.cart_none ∙ built.cart_stands;
    map_stands = outputs.others map_name apart.map_none ∙ built.map_stands;
    frames = outputs.frames;
    samples = outputs.samples;
    card = outputs.card;
    no_card = λ name is none.
        outputs.no_card name is none ∙ built.others name (card_other run.cart run.card apart.cart_none.card name is) (card_other map_name run.card apart.map_none.card name is);
    others = λ name c n none. outputs.others name none ∙ built.others name c n;
  }

  some_files : (made : Held) (after : Option Held) → BuiltStand run.cart map_name b m made → GameStands run game made after → IsSomeAnd after (λ files. PlayFilesStand map_name run b game m files)
  some_files made None built outputs = absurd outputs
  some_files made (Some files) built outputs = files_at made files built outputs

  pub play_files : (after : Option Held) → after ≡ all_done (play_effects map_name run b game) (Some m) → IsSomeAnd after (λ files. PlayFilesStand map_name run b game m files)
  play_files after is =
      let made = built_made run.cart map_name b m apart.cart_map in
      let outputs = run_outputs (names_in run) game.setup game.count in
      some_files made.0 after made.2
      (game_stands run game made.0 after apart.run_files (is ∙ all_done-append (outputs_of run.cart map_name b) outputs (Some m) ∙ ap (all_done outputs) made.1))
