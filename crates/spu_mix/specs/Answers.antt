-- What the sound ports answer after what happened so far (the system specification, sound chip, its ports).
use Rattle.std.specs.Prelude.{ℕ, ◌==◌, nat_le, Bool, List, length, Option, Some, None, slice_get, if◌then◌else◌}
use Rattle.std.specs.Option.{option_map_or}
use Rattle.port_history.specs.Past.{Happening}
use Rattle.spu_mix.specs.Sounds.{SoundState}
use Rattle.spu_mix.specs.Settings.{selected_sound, selected_channel, sounds_after, channels_after}
use Rattle.spu_mix.specs.declared.channel.Channel.{Channel}
use Rattle.spu_mix.specs.declared.channel.ChannelState.{ChannelState}
use Rattle.spu_mix.specs.declared.channel.ChannelState.TheVariants.{Stopped, Paused, Playing}

abbrev pub flag_word : Bool → ℕ
flag_word flag = if flag then 1 else 0

abbrev pub state_word : ChannelState → ℕ
state_word Stopped = 0x40
state_word Paused = 0x41
state_word Playing = 0x42

abbrev pub assigned_word : Option ℕ → ℕ
assigned_word None = 0xFFFFFFFF
assigned_word (Some number) = number

-- the ports of the selected sound
unfoldable pub sound_word : ℕ → SoundState → ℕ
sound_word port s =
    -- SPU_SoundLength, SPU_SoundPlayWithLoop, SPU_SoundLoopStart, SPU_SoundLoopEnd
    if port == 0x304 then length s.samples
    else (if port == 0x305 then flag_word s.plays_with_loop
    else (if port == 0x306 then s.loop_start
    else (if port == 0x307 then s.loop_end
    else 0)))

-- the ports of the selected channel
unfoldable pub channel_word : ℕ → Channel → ℕ
channel_word port c =
    -- SPU_ChannelState, SPU_ChannelAssignedSound, SPU_ChannelLoopEnabled, SPU_ChannelPosition
    if port == 0x308 then state_word c.state
    else (if port == 0x309 then assigned_word c.sound
    else (if port == 0x30C then flag_word c.looping
    else (if port == 0x30D then c.position
    else 0)))

-- over the sounds, the channels and what is selected; without sounds every port answers 0
unfoldable pub answer_of : List SoundState → List Channel → ℕ → ℕ → ℕ → ℕ
answer_of sounds channels sound channel port =
    if length sounds == 0 then 0
    -- SPU_SelectedSound, SPU_SelectedChannel
    else (if port == 0x302 then sound
    else (if port == 0x303 then channel
    else (if nat_le port 0x307 then option_map_or (sound_word port) (slice_get sounds sound) 0
    else option_map_or (channel_word port) (slice_get channels channel) 0)))

-- what a readable sound port answers
abbrev pub sound_answer : List (List ℕ) → List Happening → ℕ → ℕ
sound_answer sounds past port =
    answer_of (sounds_after sounds past) (channels_after sounds past) (selected_sound sounds past) (selected_channel sounds past) port
