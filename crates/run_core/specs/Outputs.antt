-- What a run writes: the frames file, the samples file and the memory card's file. (The command line, on the files that a
-- run writes.)
use Rattle.std.specs.Prelude.{ℕ, ◌+◌, List, [], ◌∷◌, ◌++◌, map, Option, Some, None, if◌then◌else◌}
use Rattle.std.specs.List.{flat_map, range_with_len}
use Rattle.kit_base.specs.Effects.{Effect, Appends, written_file}
use Rattle.asset_pack.specs.Words.{words_text}
use Rattle.run_files.specs.Screens.{frames_header, samples_header}
use Rattle.v32_isa.specs.State.{State}
use Rattle.v32_console.specs.declared.frame_end.FrameEnd.{FrameEnd}
use Rattle.v32_console.specs.declared.frame_end.FrameEnd.TheVariants.{Full}
use Rattle.v32_console.specs.Setup.{Setup}
use Rattle.v32_console.specs.Moments.{Moment, Phase, Opened, Running, Left, opening_moment}
use Rattle.v32_console.specs.Frames.{frames_of, samples_of, screen_of}
use Rattle.v32_console.specs.Runs.{last_after}

-- the names of the files; a card's file where one is named
pub record Names : Type 0 where
  pub frames : List ℕ
  pub samples : List ℕ
  pub card : Option (List ℕ)

-- both files are made anew with their heads
abbrev pub heads : Names → List Effect
heads names = written_file names.frames frames_header ++ written_file names.samples samples_header

-- at the end of a frame its screen is appended, then its samples
abbrev pub frame_outputs : Names → Setup → Moment → List Effect
frame_outputs names u m = Appends names.frames (words_text (screen_of u m)) ∷ Appends names.samples (words_text (samples_of u m)) ∷ []

-- the 262,144 words of the card
unfoldable pub card_words : State → List ℕ
card_words s = map (λ k. s.memory (0x30000000 + k)) (range_with_len 0 0x40000)

-- After the run the card's file is made anew with the card's words. Where no file is named, or no card is connected, nothing
-- is written.
abbrev pub card_outputs : Option (List ℕ) → State → List Effect
card_outputs None s = []
card_outputs (Some name) s = if s.has_card then written_file name (words_text (card_words s)) else []

-- the moment at which a run of at most so many frames ends
unfoldable pub last_moment : Setup → ℕ → Moment
last_moment u count = last_after (opening_moment u) (frames_of count u (opening_moment u))

-- a run of at most so many frames, which a halt, a fault or an undecodable word ends before
unfoldable pub run_outputs : Names → Setup → ℕ → List Effect
run_outputs names u count =
    heads names ++ (flat_map (frame_outputs names u) (frames_of count u (opening_moment u)) ++ card_outputs names.card (last_moment u count).state)

-- how the last frame ended; a run of no frames ends as one that was filled
abbrev pub end_of : Phase → FrameEnd
end_of Opened = Full
end_of (Running done) = Full
end_of (Left end) = end

abbrev pub run_end : Setup → ℕ → FrameEnd
run_end u count = end_of (last_moment u count).phase
