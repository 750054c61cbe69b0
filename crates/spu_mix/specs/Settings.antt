-- What sound is after what happened so far, the latest first. `sounds` are the sounds of the cartridge, each the list
-- of its samples (the system specification, sound chip).
use Rattle.std.specs.Prelude.{ℕ, zero, suc, ◌&&◌, nat_lt, List, [], ◌∷◌, length, map, replicate}
use Rattle.port_history.specs.Past.{Happening, Began, Asked, Told, Mixed, last_accepted}
use Rattle.spu_mix.specs.Sounds.{SoundState, first_sound, sound_told}
use Rattle.spu_mix.specs.Channels.{first_channel, changed_at, channels_told}
use Rattle.spu_mix.specs.Mixing.{channel_after, sample_of}
use Rattle.spu_mix.specs.declared.channel.Channel.{Channel}

-- SPU_SelectedSound, SPU_SelectedChannel
abbrev pub selected_sound : List (List ℕ) → List Happening → ℕ
selected_sound sounds past = last_accepted 0x302 (λ word. nat_lt word (length sounds)) 0 past

abbrev pub selected_channel : List (List ℕ) → List Happening → ℕ
selected_channel sounds past = last_accepted 0x303 (λ word. nat_lt 0 (length sounds) && nat_lt word 16) 0 past

-- the sounds with their settings
abbrev pub sounds_after : List (List ℕ) → List Happening → List SoundState
sounds_after sounds [] = map first_sound sounds
sounds_after sounds (Began ∷ past) = sounds_after sounds past
sounds_after sounds (Asked port ∷ past) = sounds_after sounds past
sounds_after sounds (Told port word ∷ past) =
    changed_at (selected_sound sounds past) (sound_told port word) (sounds_after sounds past)
sounds_after sounds (Mixed ∷ past) = sounds_after sounds past

-- the channels
abbrev pub channels_after : List (List ℕ) → List Happening → List Channel
channels_after sounds [] = replicate 16 first_channel
channels_after sounds (Began ∷ past) = channels_after sounds past
channels_after sounds (Asked port ∷ past) = channels_after sounds past
channels_after sounds (Told port word ∷ past) =
    channels_told (sounds_after sounds past) (selected_channel sounds past) port word (channels_after sounds past)
channels_after sounds (Mixed ∷ past) = map (channel_after (sounds_after sounds past) 735) (channels_after sounds past)

-- so many frames are mixed after a past
abbrev pub frames_mixed : ℕ → List Happening → List Happening
frames_mixed zero past = past
frames_mixed (suc n) past = Mixed ∷ frames_mixed n past

-- sample k of a frame that is mixed now
abbrev pub sample_at : List (List ℕ) → List Happening → ℕ → ℕ
sample_at sounds past k = sample_of (sounds_after sounds past) (channels_after sounds past) k

-- sample k of the frame that was mixed last; 0 before the first
abbrev pub last_sample : List (List ℕ) → List Happening → ℕ → ℕ
last_sample sounds [] k = 0
last_sample sounds (Began ∷ past) k = last_sample sounds past k
last_sample sounds (Asked port ∷ past) k = last_sample sounds past k
last_sample sounds (Told port word ∷ past) k = last_sample sounds past k
last_sample sounds (Mixed ∷ past) k = sample_at sounds past k
