-- What the sound unit keeps, and the histories that it stands for.
use Rattle.std.specs.Prelude.{ℕ, ◌≡◌, ◌<◌, List, slice_index}
use Rattle.port_history.specs.Past.{Happening}
use Rattle.spu_mix.specs.Sounds.{SoundState}
use Rattle.spu_mix.specs.Settings.{selected_sound, selected_channel, sounds_after, channels_after, last_sample}
use Rattle.spu_mix.specs.declared.channel.Channel.{Channel}

-- the sounds and channels with their settings, what is selected, and the samples of the last frame
pub record SoundUnit : Type 0 where
  pub sounds : List SoundState
  pub channels : List Channel
  pub selected_sound : ℕ
  pub selected_channel : ℕ
  pub samples : List ℕ

-- over these sounds, after that past
pub record SoundStands (sounds : List (List ℕ)) (past : List Happening) (unit : SoundUnit) : Type 0 where
  pub sounds_are : unit.sounds ≡ sounds_after sounds past
  pub channels_are : unit.channels ≡ channels_after sounds past
  pub selected_sound_is : unit.selected_sound ≡ selected_sound sounds past
  pub selected_channel_is : unit.selected_channel ≡ selected_channel sounds past
  pub samples_are : (k : ℕ) → k < 735 → slice_index unit.samples k ≡ last_sample sounds past k
