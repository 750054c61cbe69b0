-- The frames of a console: where each ends, its screen and its samples.
use Rattle.std.specs.Prelude.{ℕ, zero, suc, List, [], ◌∷◌, map, if◌then◌else◌}
use Rattle.std.specs.List.{flat_map, range_with_len}
use Rattle.gpu_state.specs.Commands.{done}
use Rattle.gpu_state.specs.Colours.{colour}
use Rattle.spu_mix.specs.Settings.{last_sample}
use Rattle.v32_console.specs.Setup.{Setup}
use Rattle.v32_console.specs.Moments.{Moment, Phase, Opened, Running, Left, next, goes_on}

-- on until a frame is left
abbrev pub until_left : Phase → Moment → (Moment → Moment) → Moment
until_left (Left end) m go = m
until_left (Running done) m go = go m
until_left Opened m go = go m

unfoldable pub left_within : ℕ → Setup → Moment → Moment
left_within zero u m = m
left_within (suc n) u m = until_left (next u m).phase (next u m) (left_within n u)

-- the moment at the end of the next frame: after its beginning and at most 250,000 instructions
unfoldable pub frame_of : Setup → Moment → Moment
frame_of u m = left_within 250001 u m

-- the moments at the ends of the frames of a run of at most so many frames
abbrev pub frames_from : Phase → List Moment → List Moment
frames_from (Left end) later = if goes_on end then later else []
frames_from (Running done) later = []
frames_from Opened later = []

unfoldable pub frames_of : ℕ → Setup → Moment → List Moment
frames_of zero u m = []
frames_of (suc count) u m = frame_of u m ∷ frames_from (frame_of u m).phase (frames_of count u (frame_of u m))

-- the 230,400 pixels of the screen by rows, 360 rows of 640
unfoldable pub screen_of : Setup → Moment → List ℕ
screen_of u m = flat_map (λ y. map (λ x. colour x y (done u.textures m.past)) (range_with_len 0 640)) (range_with_len 0 360)

-- the 735 samples that were mixed last
unfoldable pub samples_of : Setup → Moment → List ℕ
samples_of u m = map (last_sample u.sounds m.past) (range_with_len 0 735)
