-- The operations of a frame, and of a run of frames.
use Rattle.std.specs.Prelude.{ℕ, zero, suc, ◌≡◌, List, [], ◌∷◌, if◌then◌else◌}
use Rattle.v32_console.specs.Setup.{Setup}
use Rattle.v32_console.specs.Moments.{Moment, Phase, Opened, Running, Left, next, goes_on}
use Rattle.v32_console.specs.Machine.{Operations, none, joined, operations_from}
use Rattle.v32_console.specs.Machine.{operations_of}
use Rattle.v32_console.specs.Moments.{after, opening_moment}
use Rattle.v32_console.specs.Frames.{frame_of, frames_of}

-- on until a frame is left
abbrev pub unless_left : Phase → Operations → Operations
unless_left (Left end) o = none
unless_left (Running done) o = o
unless_left Opened o = o

unfoldable pub operations_within : ℕ → Setup → Moment → Operations
operations_within zero u m = none
operations_within (suc n) u m = joined (operations_from u m m.phase) (unless_left (next u m).phase (operations_within n u (next u m)))

-- those of the next frame
unfoldable pub frame_operations : Setup → Moment → Operations
frame_operations u m = operations_within 250001 u m

abbrev pub where_on : Phase → Operations → Operations
where_on (Left end) later = if goes_on end then later else none
where_on (Running done) later = none
where_on Opened later = none

-- those of at most so many frames
unfoldable pub run_operations : ℕ → Setup → Moment → Operations
run_operations zero u m = none
run_operations (suc count) u m = joined (frame_operations u m) (where_on (frame_of u m).phase (run_operations count u (frame_of u m)))

-- the last of these moments, or else the first
abbrev pub last_after : Moment → List Moment → Moment
last_after m [] = m
last_after m (n ∷ later) = last_after n later

-- So many instructions and frame edges are at most so many frames, with these operations.
pub record IsRun (u : Setup) (count : ℕ) (m : Moment) : Type 0 where
  pub k : ℕ
  pub there : after u k m ≡ last_after m (frames_of count u m)
  pub operations_are : operations_of u k m ≡ run_operations count u m

abbrev pub RunsAreOfInstructions : Type 0
RunsAreOfInstructions = (u : Setup) (count : ℕ) → IsRun u count (opening_moment u)
