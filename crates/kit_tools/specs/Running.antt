-- The command `run`: what it writes, what it puts, and what its statuses 0 and 3 say.
use Rattle.std.specs.Prelude.{ℕ, ◌≡◌, ◌&&◌, Bool, List, ◌++◌, nat_le, Option, Some, option_map, Result, Ok, Err, if◌then◌else◌, Contains}
use Rattle.kit_base.specs.Held.{Held}
use Rattle.kit_base.specs.Effects.{all_done}
use Rattle.kit_base.specs.declared.failure.Failure.TheVariants as failures
use Rattle.cart_format.specs.Cartridge.{Cartridge}
use Rattle.run_files.specs.PadsReading.{pads_of}
use Rattle.run_files.specs.Script.{Script}
use Rattle.v32_console.specs.declared.frame_end.FrameEnd.{FrameEnd}
use Rattle.v32_console.specs.declared.frame_end.FrameEnd.TheVariants.{Full, Waited, Halted, Fault, Undecodable}
use Rattle.v32_console.specs.Setup.{Setup, setup_of}
use Rattle.run_core.specs.Ending.{Lines, end_text, lines_of}
use Rattle.run_core.specs.Outputs.{Names, run_end, run_outputs}
use Rattle.kit_tools.specs.Refusal.{Refusal}
use Rattle.kit_tools.specs.declared.refusal.RefusalCause.TheVariants as refusals
use Rattle.kit_tools.specs.declared.refusal.DueRefusal.TheVariants as dues
use Rattle.kit_words.specs.Command.{RunWords, Run, command_of}
use Rattle.kit_tools.specs.Tracing.{card_names}
use Rattle.kit_tools.specs.Inputs.{◌>>=◌, or_refused, bytes_due, cart_due, card_due}
use Rattle.kit_words.specs.Number.{number_of}
use Rattle.kit_tools.specs.Work.{Work}

-- the refusal of a pads file, by its code and its first faulty line
abbrev pub no_pads : List ℕ → ℕ × ℕ → Refusal
no_pads name (code, line) = failures.Cause (refusals.Due (dues.Bad code name (Some line)))

-- the script of the pads file
abbrev pub pads_due : List ℕ → Held → Result Script Refusal
pads_due name held = do
  bytes ← bytes_due name held
  or_refused (no_pads name) (pads_of bytes)

-- 1 to the greatest number
abbrev pub is_up_to : (greatest count : ℕ) → Bool
is_up_to greatest count = nat_le 1 count && nat_le count greatest

abbrev pub count_up_to : (greatest : ℕ) → List ℕ → Result ℕ Refusal
count_up_to greatest word = if is_up_to greatest (number_of word) then Ok (number_of word) else Err (failures.Cause (refusals.Due (dues.OutOfRange word)))

-- a run has 1 to 3,600 frames
abbrev pub is_count : ℕ → Bool
is_count count = is_up_to 3600 count

abbrev pub count_due : List ℕ → Result ℕ Refusal
count_due word = count_up_to 3600 word

-- what is run: a console's setup, for how many frames, and what tells the place of a fault
pub record Game : Type 0 where
  pub setup : Setup
  pub count : ℕ
  pub lines : Lines

-- what is run beside the cartridge: the script of the gamepads, the words of the card where there is one, and for how many frames
pub record Settings : Type 0 where
  pub script : Script
  pub card : Option (List ℕ)
  pub count : ℕ

-- the pads file, then the card, then the number
abbrev pub settings_up_to : (greatest : ℕ) → (pads : List ℕ) → (card_name : Option (List ℕ)) → (word : List ℕ) → Held → Result Settings Refusal
settings_up_to greatest pads card_name word held = do
  script ← pads_due pads held
  card ← card_due card_name held
  count ← count_up_to greatest word
  Ok (record { script = script; card = card; count = count })

abbrev pub settings_due : RunWords → Held → Result Settings Refusal
settings_due words held = settings_up_to 3600 words.pads words.card words.count held

abbrev pub game_with : Cartridge → Settings → Game
game_with cart s = record { setup = setup_of cart s.script s.card; count = s.count; lines = lines_of cart }

abbrev pub game_due : RunWords → Held → Result Game Refusal
game_due words held = do
  cart ← cart_due words.cart held
  settings ← settings_due words held
  Ok (game_with cart settings)

-- the files that it writes
abbrev pub names_in : RunWords → Names
names_in words = record { frames = words.frames; samples = words.samples; card = words.card }

-- 3 where the run ended by a fault or at an undecodable word, else 0
abbrev pub end_status : FrameEnd → ℕ
end_status Full = 0
end_status Waited = 0
end_status Halted = 0
end_status (Fault number address) = 3
end_status (Undecodable address) = 3

abbrev pub game_end : Game → FrameEnd
game_end game = run_end game.setup game.count

-- A file that is read beside the cartridge: the pads file, or the card once the pads file is of its grammar.
pub data IsReadToSetBy (pads : List ℕ) (card_name : Option (List ℕ)) (held : Held) (name : List ℕ) : Type 0 where
  reads_pads : name ≡ pads → IsReadToSetBy pads card_name held name
  reads_card : (script : Script) → pads_due pads held ≡ Ok script → Contains (card_names card_name) name → IsReadToSetBy pads card_name held name

abbrev pub IsReadToSet : RunWords → Held → (name : List ℕ) → Type 0
IsReadToSet words held name = IsReadToSetBy words.pads words.card held name

-- A file that a run reads: the cartridge, or one beside it once the cartridge is of its grammar.
pub data IsReadToRun (words : RunWords) (held : Held) (name : List ℕ) : Type 0 where
  reads_cart : name ≡ words.cart → IsReadToRun words held name
  reads_beside : (value : Cartridge) → cart_due words.cart held ≡ Ok value → IsReadToSet words held name → IsReadToRun words held name

-- the console's run, written frame by frame; the text is the line of a fault
abbrev pub run_work : Names → Game → Work
run_work names game = record {
  effects = run_outputs names game.setup game.count;
  text = end_text game.lines (game_end game);
  status = end_status (game_end game);
}

abbrev pub run_due : RunWords → Held → Result Work Refusal
run_due words held = do
  game ← game_due words held
  Ok (run_work (names_in words) game)

-- All files were as they should. The frames, samples and card's files have the drawing, the sound and the card of the console's
-- run on that cartridge, script and card, every other file is as before, and the line of a fault was put.
pub record IsRun (words : RunWords) (held : Held) (status : ℕ) (after : Option Held) (before put : Option (List ℕ)) : Type 0 where
  pub game : Game
  pub is_due : game_due words held ≡ Ok game
  pub outputs : after ≡ all_done (run_outputs (names_in words) game.setup game.count) (Some held)
  pub status_is : status ≡ end_status (game_end game)
  pub text : put ≡ option_map (λ bytes. bytes ++ end_text game.lines (game_end game)) before

-- where the words are a run, it was done
abbrev pub RunStands : List (List ℕ) → Held → ℕ → Option Held → (before put : Option (List ℕ)) → Type 0
RunStands words held status after before put =
    (run : RunWords) → command_of words ≡ Some (Run run) → IsRun run held status after before put
