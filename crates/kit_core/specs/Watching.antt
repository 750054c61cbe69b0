-- The verdict on a source, after a run of its cartridge.
use Rattle.std.specs.Prelude.{ℕ, ◌+◌, Bool, not, List, length}
use Rattle.c_types.specs.Programs.{ProgramT}
use Rattle.c_meaning.specs.Runs.{final_of}
use Rattle.c_front.specs.declared.places.Places.{Places}
use Rattle.c_front.specs.Places.{place_at}
use Rattle.c_watch.specs.declared.verdict.Watched.{Watched}
use Rattle.c_watch.specs.declared.verdict.Watched.TheVariants.{Met, Stray, Deep}
use Rattle.c_watch.specs.Watching.{watched_by}
use Rattle.v32_console.specs.Setup.{Setup}
use Rattle.v32_console.specs.Moments.{goes_on, opening_moment}
use Rattle.v32_console.specs.Machine.{Operations}
use Rattle.v32_console.specs.Runs.{run_operations}
use Rattle.run_core.specs.Outputs.{run_end}
use Rattle.kit_tools.specs.declared.verdict.Verdict.{Verdict}
use Rattle.kit_tools.specs.declared.verdict.Verdict.TheVariants as verdicts

-- what a run of at most so many frames does at the ports
abbrev pub done_in : Setup → (count : ℕ) → Operations
done_in u count = run_operations count u (opening_moment u)

-- it ends by a halt, a fault or an undecodable word
abbrev pub ends_in : Setup → (count : ℕ) → Bool
ends_in u count = not (goes_on (run_end u count))

-- The program is followed under the answers that this run got, with a bound one above the number of its instructions.
unfoldable pub watched_in : ProgramT → (frames : List ℕ) → Setup → (count : ℕ) → Watched
watched_in p frames u count =
    watched_by (length (done_in u count).events) (ends_in u count) (final_of p frames ((done_in u count).instructions + 1) (done_in u count).answers u.card)

-- with the place of the first token of the piece of the source that fails
abbrev pub verdict_at : Places → Watched → Verdict
verdict_at places Met = verdicts.Met
verdict_at places (Stray span) = verdicts.Stray (place_at places span.first).0 (place_at places span.first).1
verdict_at places (Deep span) = verdicts.Deep (place_at places span.first).0 (place_at places span.first).1
