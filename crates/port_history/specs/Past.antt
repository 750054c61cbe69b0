-- What happened at the ports so far, the latest first (the system specification, sections on the ports and on frames).
use Rattle.std.specs.Prelude.{ℕ, ◌+◌, ◌==◌, ◌&&◌, nat_le, Bool, true, List, [], ◌∷◌, if◌then◌else◌}

-- a frame began, a port was read, a port was given a word, the samples of a frame were mixed
pub data Happening : Type 0 where
  Began : Happening
  Asked : ℕ → Happening
  Told : ℕ → ℕ → Happening
  Mixed : Happening

-- the last word that a port accepted, or its start value: a word that a port does not accept is ignored
abbrev pub last_accepted : ℕ → (ℕ → Bool) → ℕ → List Happening → ℕ
last_accepted port accepts start [] = start
last_accepted port accepts start (Began ∷ past) = last_accepted port accepts start past
last_accepted port accepts start (Asked asked ∷ past) = last_accepted port accepts start past
last_accepted port accepts start (Told told word ∷ past) =
    if told == port && accepts word then word else last_accepted port accepts start past
last_accepted port accepts start (Mixed ∷ past) = last_accepted port accepts start past

-- a port that accepts every word
abbrev pub any_word : ℕ → Bool
any_word word = true

-- how many frames began
abbrev pub frames_begun : List Happening → ℕ
frames_begun [] = 0
frames_begun (Began ∷ past) = 1 + frames_begun past
frames_begun (Asked asked ∷ past) = frames_begun past
frames_begun (Told told word ∷ past) = frames_begun past
frames_begun (Mixed ∷ past) = frames_begun past

-- the ports of graphics and of sound
abbrev pub is_graphics_port : ℕ → Bool
is_graphics_port port = nat_le 0x200 port && nat_le port 0x2FF

abbrev pub is_sound_port : ℕ → Bool
is_sound_port port = nat_le 0x300 port && nat_le port 0x3FF

-- The part of a history that concerns sound: its ports are given words, and frames are mixed.
abbrev pub sound_past : List Happening → List Happening
sound_past [] = []
sound_past (Began ∷ past) = sound_past past
sound_past (Asked asked ∷ past) = sound_past past
sound_past (Told told word ∷ past) = if is_sound_port told then Told told word ∷ sound_past past else sound_past past
sound_past (Mixed ∷ past) = Mixed ∷ sound_past past
