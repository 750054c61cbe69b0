-- A sound with its settings (the system specification, sound chip, ports of the selected sound).
use Rattle.std.specs.Prelude.{ℕ, ◌≤◌, ◌<◌, ◌-◌, ◌==◌, ◌&&◌, nat_le, nat_lt, Bool, false, List, length, if◌then◌else◌}

pub record SoundState : Type 0 where
  pub samples : List ℕ
  pub plays_with_loop : Bool
  pub loop_start : ℕ
  pub loop_end : ℕ

-- the loop lies in the sound
pub record HasLoop (s : SoundState) : Type 0 where
  pub ordered : s.loop_start ≤ s.loop_end
  pub within : s.loop_end < length s.samples

-- at first
abbrev pub first_sound : List ℕ → SoundState
first_sound samples =
    record { samples = samples; plays_with_loop = false; loop_start = 0; loop_end = length samples - 1 }

-- a port of the selected sound is given a word
unfoldable pub sound_told : ℕ → ℕ → SoundState → SoundState
sound_told port word s =
    -- SPU_SoundPlayWithLoop
    if port == 0x305 && nat_lt word 2 then record s { plays_with_loop = word == 1 }
    -- SPU_SoundLoopStart
    else (if port == 0x306 && nat_le word s.loop_end then record s { loop_start = word }
    -- SPU_SoundLoopEnd
    else (if port == 0x307 && nat_le s.loop_start word && nat_lt word (length s.samples) then record s { loop_end = word }
    else s))
