-- What a status 0 says of a watch.
use Rattle.std.specs.Prelude.{ℕ, ◌≡◌, ◌≤◌, ◌+◌, ◌↔◌, true, List, Option, Some, Ok, IsSomeAnd}
use Rattle.std.specs.FinMap.{get}
use Rattle.kit_base.specs.Held.{Held}
use Rattle.kit_base.specs.Effects.{all_done}
use Rattle.kit_base.specs.Outside.{due}
use Rattle.cart_format.specs.Cartridge.{Cartridge}
use Rattle.cart_format.specs.Reading.{cart_of}
use Rattle.project_text.specs.MapText.{map_text}
use Rattle.c_types.specs.Programs.{ProgramT}
use Rattle.c_meaning.specs.Runs.{final_of}
use Rattle.c_image.specs.Imaging.{frame_sizes}
use Rattle.c_watch.specs.declared.verdict.Watched.{Watched}
use Rattle.c_watch.specs.declared.verdict.Watched.TheVariants.{Met}
use Rattle.c_watch.specs.Watching.{verdict_of}
use Rattle.v32_console.specs.Setup.{Setup}
use Rattle.v32_console.specs.Moments.{console_at}
use Rattle.v32_console.specs.History.{operations_at}
use Rattle.run_core.specs.Outputs.{last_moment}
use Rattle.build_core.specs.declared.building.Built.{Built}
use Rattle.build_core.specs.Build.{IsBuilt}
use Rattle.play_laws.specs.Played.{meant_at, played}
use Rattle.play_laws.specs.Keeping.{Follows, IsWhole, KeepsAt, has_ended}
use Rattle.kit_words.specs.Command.{WatchWords, Watch, command_of}
use Rattle.kit_tools.specs.Running.{Settings}
use Rattle.kit_tools.specs.Watching.{watch_line, watch_settings_due}
use Rattle.kit_core.specs.Due.{outputs_of}
use Rattle.kit_core.specs.Meaning.{console_of}
use Rattle.kit_core.specs.Outcome.{putting}
use Rattle.kit_core.specs.Watching.{verdict_at}

-- A verdict on a program after a run of at most so many frames, which is as many instructions and frame edges. It is `Met` exactly where with no bound
-- the program strays, or lacks room for the frame of a call, before the run is over; and else it is how the program ends, with its place. Where it is
-- `Met`, the run is what the program means, with no way out by straying or want of room, and where the run has ended it is the whole of that.
pub record IsJudged (p : ProgramT) (frames : List ℕ) (u : Setup) (count : ℕ) (verdict : Watched) : Type 0 where
  pub k : ℕ
  pub k_is : console_at u k ≡ last_moment u count
  pub judged : (verdict ≡ Met) ↔ KeepsAt p frames u k
  pub fails : (verdict ≡ Met → ⊥) → verdict ≡ verdict_of (final_of p frames ((operations_at u k).instructions + 1) (operations_at u k).answers u.card).end
  pub follows : verdict ≡ Met → (bound : ℕ) → (operations_at u k).instructions ≤ bound → Follows (meant_at p frames bound u k) (played u k)
  pub whole : verdict ≡ Met → has_ended (console_at u k).phase ≡ true → IsWhole (meant_at p frames ((operations_at u k).instructions + 1) u k) (played u k)

-- The project was held. Its cartridge and its map stand, with every other file as before; and the line of the verdict was put that holds of its source,
-- after a run of the cartridge that those bytes are, with that script and that card.
pub record IsWatched (words : WatchWords) (held : Held) (after : Option Held) (before put : Option (List ℕ)) : Type 0 where
  pub text : List ℕ
  pub built : Built
  pub project_is : due held words.project ≡ Ok text
  pub is_built : IsBuilt held text built
  pub outputs : after ≡ all_done (outputs_of words.cart words.map_name built) (Some held)
  pub cart_stands : IsSomeAnd after (λ files. get files words.cart ≡ Some built.cart)
  pub map_stands : IsSomeAnd after (λ files. get files words.map_name ≡ Some (map_text built.map))
  pub cart : Cartridge
  pub cart_is : cart_of built.cart ≡ Ok cart
  pub settings : Settings
  pub settings_are : watch_settings_due words held ≡ Ok settings
  pub verdict : Watched
  pub told : put ≡ putting (watch_line (verdict_at is_built.of.parsed.places verdict)) before
  pub is_judged : IsJudged is_built.of.program (frame_sizes built.map) (console_of cart settings) settings.count verdict

-- where the words are a watch, it was carried out
abbrev pub WatchStands : List (List ℕ) → Held → Option Held → (before put : Option (List ℕ)) → Type 0
WatchStands words held after before put = (watch : WatchWords) → command_of words ≡ Some (Watch watch) → IsWatched watch held after before put
