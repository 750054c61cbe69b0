-- The channels through a frame of 735 samples (the system specification, sound chip, on mixing).
use Rattle.std.specs.Prelude.{ℕ, Bool, true, false, List, [], Option, Some, None, length, if◌then◌else◌, sum_by}
use Rattle.spu_mix.specs.Positions.{position_after}
use Rattle.spu_mix.specs.Sides.{left_at, right_at, mixed_word}
use Rattle.spu_mix.specs.Sounds.{SoundState}
use Rattle.spu_mix.specs.Channels.{assigned}
use Rattle.spu_mix.specs.declared.channel.Channel.{Channel}
use Rattle.spu_mix.specs.declared.channel.ChannelState.{ChannelState}
use Rattle.spu_mix.specs.declared.channel.ChannelState.TheVariants.{Stopped, Paused, Playing}

abbrev pub is_playing : ChannelState → Bool
is_playing Playing = true
is_playing Stopped = false
is_playing Paused = false

-- the position in its sound of a channel that plays, after k samples; none where it has stopped
abbrev pub position_in : Option SoundState → Channel → ℕ → Option ℕ
position_in None c k = None
position_in (Some s) c k = position_after c.looping s.loop_start s.loop_end (length s.samples) c.position k

-- and of any channel: none where it does not play
unfoldable pub channel_position : List SoundState → Channel → ℕ → Option ℕ
channel_position sounds c k = if is_playing c.state then position_in (assigned sounds c.sound) c k else None

-- a channel after k samples: past the last sample it has stopped, with position 0
abbrev pub moved : Channel → Option ℕ → Channel
moved c None = record c { state = Stopped; position = 0 }
moved c (Some p) = record c { position = p }

unfoldable pub channel_after : List SoundState → ℕ → Channel → Channel
channel_after sounds k c = if is_playing c.state then moved c (channel_position sounds c k) else c

-- what a channel adds to sample k
abbrev pub samples_of : Option SoundState → List ℕ
samples_of None = []
samples_of (Some s) = s.samples

abbrev pub left_of : List SoundState → ℕ → Channel → ℕ
left_of sounds k c = left_at (samples_of (assigned sounds c.sound)) (channel_position sounds c k)

abbrev pub right_of : List SoundState → ℕ → Channel → ℕ
right_of sounds k c = right_at (samples_of (assigned sounds c.sound)) (channel_position sounds c k)

-- the word of sample k: per side the clamped sum over the channels
abbrev pub sample_of : List SoundState → List Channel → ℕ → ℕ
sample_of sounds channels k = mixed_word (sum_by (left_of sounds k) channels) (sum_by (right_of sounds k) channels)
