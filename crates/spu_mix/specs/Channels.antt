-- The sixteen channels, by commands and ports (the system specification, sound chip, commands and ports of channels).
use Rattle.std.specs.Prelude.{◌≡◌, ℕ, zero, suc, ◌<◌, ◌==◌, ◌&&◌, nat_le, nat_lt, Bool, false, List, [], ◌∷◌, Option, Some, None, length, slice_get}
use Rattle.std.specs.Prelude.{map, if◌then◌else◌}
use Rattle.spu_mix.specs.Sounds.{SoundState}
use Rattle.spu_mix.specs.declared.channel.Channel.{Channel}
use Rattle.spu_mix.specs.declared.channel.ChannelState.{ChannelState}
use Rattle.spu_mix.specs.declared.channel.ChannelState.TheVariants.{Stopped, Paused, Playing}

-- at first
abbrev pub first_channel : Channel
first_channel = record { state = Stopped; sound = None; looping = false; position = 0 }

-- the sound that is assigned to a channel
abbrev pub assigned : List SoundState → Option ℕ → Option SoundState
assigned sounds None = None
assigned sounds (Some number) = slice_get sounds number

-- a channel's position lies in its sound
abbrev pub HasPosition : List SoundState → Channel → Type 0
HasPosition sounds c = (s : SoundState) → assigned sounds c.sound ≡ Some s → c.position < length s.samples

-- from the first sample, where a sound is assigned
abbrev pub start_over : Option SoundState → Channel → Channel
start_over None c = c
start_over (Some s) c = record c { state = Playing; looping = s.plays_with_loop; position = 0 }

abbrev pub play_from : ChannelState → Option SoundState → Channel → Channel
play_from Paused sound c = record c { state = Playing }
play_from Stopped sound c = start_over sound c
play_from Playing sound c = start_over sound c

abbrev pub pause_from : ChannelState → Channel → Channel
pause_from Playing c = record c { state = Paused }
pause_from Stopped c = c
pause_from Paused c = c

abbrev pub resume_from : ChannelState → Channel → Channel
resume_from Paused c = record c { state = Playing }
resume_from Stopped c = c
resume_from Playing c = c

-- the commands on one channel
unfoldable pub play : List SoundState → Channel → Channel
play sounds c = play_from c.state (assigned sounds c.sound) c

unfoldable pub pause : Channel → Channel
pause c = pause_from c.state c

unfoldable pub resume : Channel → Channel
resume c = resume_from c.state c

unfoldable pub stop : Channel → Channel
stop c = record c { state = Stopped; position = 0 }

-- a command on the selected channel
unfoldable pub commanded : List SoundState → ℕ → Channel → Channel
commanded sounds word c =
    if word == 0x30 then play sounds c
    else (if word == 0x31 then pause c
    else (if word == 0x32 then stop c
    else c))

-- a command on all channels
abbrev pub is_for_all : ℕ → Bool
is_for_all word = nat_le 0x33 word && nat_le word 0x35

unfoldable pub commanded_all : ℕ → Channel → Channel
commanded_all word c =
    if word == 0x33 then pause c
    else (if word == 0x34 then resume c
    else (if word == 0x35 then stop c
    else c))

-- a sound is assigned while the channel is stopped
abbrev pub assign_from : ChannelState → List SoundState → ℕ → Channel → Channel
assign_from Stopped sounds word c = if nat_lt word (length sounds) then record c { sound = Some word; position = 0 } else c
assign_from Paused sounds word c = c
assign_from Playing sounds word c = c

unfoldable pub assign : List SoundState → ℕ → Channel → Channel
assign sounds word c = assign_from c.state sounds word c

-- a position within the channel's sound
abbrev pub place_in : Option SoundState → ℕ → Channel → Channel
place_in None word c = c
place_in (Some s) word c = if nat_lt word (length s.samples) then record c { position = word } else c

unfoldable pub place : List SoundState → ℕ → Channel → Channel
place sounds word c = place_in (assigned sounds c.sound) word c

-- SPU_Command, or a port of the selected channel, is given a word
unfoldable pub channel_told : List SoundState → ℕ → ℕ → Channel → Channel
channel_told sounds port word c =
    if port == 0x300 then commanded sounds word c
    -- SPU_ChannelAssignedSound
    else (if port == 0x309 then assign sounds word c
    -- SPU_ChannelLoopEnabled
    else (if port == 0x30C && nat_lt word 2 then record c { looping = word == 1 }
    -- SPU_ChannelPosition
    else (if port == 0x30D then place sounds word c
    else c)))

-- one element of a list, changed
unfoldable pub changed_at : {X : Type 0} → ℕ → (X → X) → List X → List X
changed_at n f [] = []
changed_at zero f (x ∷ xs) = f x ∷ xs
changed_at (suc n) f (x ∷ xs) = x ∷ changed_at n f xs

-- all channels, after a word; without sounds every word is ignored
unfoldable pub channels_told : List SoundState → ℕ → ℕ → ℕ → List Channel → List Channel
channels_told sounds selected port word channels =
    if length sounds == 0 then channels
    else (if port == 0x300 && is_for_all word then map (commanded_all word) channels
    else changed_at selected (channel_told sounds port word) channels)
