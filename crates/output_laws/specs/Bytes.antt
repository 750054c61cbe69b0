-- The bytes of the files that a run writes (the page of files: frames, samples and memory cards).
use Rattle.std.specs.Prelude.{ℕ, List, ◌++◌}
use Rattle.std.specs.List.{flat_map}
use Rattle.asset_pack.specs.Words.{words_text}
use Rattle.run_files.specs.Screens.{frames_header, samples_header}
use Rattle.v32_console.specs.Setup.{Setup}
use Rattle.v32_console.specs.Moments.{Moment, opening_moment}
use Rattle.v32_console.specs.Frames.{frames_of, samples_of, screen_of}
use Rattle.run_core.specs.Outputs.{card_words, last_moment}

-- the moments at which the frames end
abbrev pub frame_ends : Setup → ℕ → List Moment
frame_ends u count = frames_of count u (opening_moment u)

-- the header, and then each frame's screen
unfoldable pub frames_bytes : Setup → ℕ → List ℕ
frames_bytes u count = frames_header ++ flat_map (λ m. words_text (screen_of u m)) (frame_ends u count)

-- the header, and then each frame's samples
unfoldable pub samples_bytes : Setup → ℕ → List ℕ
samples_bytes u count = samples_header ++ flat_map (λ m. words_text (samples_of u m)) (frame_ends u count)

-- the words of the card after the run
unfoldable pub card_bytes : Setup → ℕ → List ℕ
card_bytes u count = words_text (card_words (last_moment u count).state)
