-- A channel, and the samples that it adds, after words that concern neither it nor the loop of its sound, in closed form (the system specification, sound
-- chip, on commands and loops).
use Rattle.std.specs.Prelude.{◌≡◌, ℕ, ◌<◌, ◌≤◌, ◌+◌, ◌-◌, ◌%◌, ◌==◌, ◌&&◌, ◌||◌, Bool, true, false, List, [], ◌∷◌, ◌++◌, length, slice_get, All}
use Rattle.std.specs.Prelude.{Option, Some, None}
use Rattle.port_history.specs.Past.{Happening, Began, Asked, Told, Mixed, is_sound_port}
use Rattle.spu_mix.specs.Sounds.{SoundState}
use Rattle.spu_mix.specs.Channels.{assigned, is_for_all}
use Rattle.spu_mix.specs.Mixing.{is_playing, moved, channel_position, samples_of, sample_of}
use Rattle.spu_mix.specs.Settings.{selected_sound, selected_channel, sounds_after, channels_after, sample_at}
use Rattle.spu_mix.specs.declared.channel.Channel.{Channel}

-- A word concerns a channel: a command to all channels, and, while the channel is selected, any command and a word for its sound, its loop flag or its
-- position.
abbrev pub concerns_channel : (channel selected port word : ℕ) → Bool
concerns_channel channel selected port word =
    (port == 0x300 && is_for_all word) || (selected == channel && (port == 0x300 || (port == 0x309 || (port == 0x30C || port == 0x30D))))

-- A word concerns the loop of a sound: while the sound is selected, its start or its end.
abbrev pub concerns_loop : (sound : Option ℕ) → (selected port : ℕ) → Bool
concerns_loop None selected port = false
concerns_loop (Some sound) selected port = selected == sound && (port == 0x306 || port == 0x307)

-- Nothing that happened after a past concerns the channel or the loop of that sound; the latest stands first.
abbrev pub LeavesAlone : (sounds : List (List ℕ)) → (channel : ℕ) → (sound : Option ℕ) → (past more : List Happening) → Type 0
LeavesAlone sounds channel sound past [] = Unit {0}
LeavesAlone sounds channel sound past (Began ∷ more) = LeavesAlone sounds channel sound past more
LeavesAlone sounds channel sound past (Asked port ∷ more) = LeavesAlone sounds channel sound past more
LeavesAlone sounds channel sound past (Told port word ∷ more) =
    (concerns_channel channel (selected_channel sounds (more ++ past)) port word ≡ false)
    × (concerns_loop sound (selected_sound sounds (more ++ past)) port ≡ false)
    × LeavesAlone sounds channel sound past more
LeavesAlone sounds channel sound past (Mixed ∷ more) = LeavesAlone sounds channel sound past more

-- how many samples were mixed, 735 for each frame
abbrev pub samples_in : List Happening → ℕ
samples_in [] = 0
samples_in (Began ∷ more) = samples_in more
samples_in (Asked port ∷ more) = samples_in more
samples_in (Told port word ∷ more) = samples_in more
samples_in (Mixed ∷ more) = samples_in more + 735

-- Within j samples the loop of the sound turns the channel back.
abbrev pub TurnsBack : SoundState → Channel → (j : ℕ) → Type 0
TurnsBack s c j = (c.looping ≡ true) × (c.position ≤ s.loop_end) × (s.loop_end < c.position + j)

-- the position of a channel that plays, j samples later; none where it has stopped
pub record IsPosition (s : SoundState) (c : Channel) (j : ℕ) (position : Option ℕ) : Type 0 where
  pub in_loop : TurnsBack s c j → position ≡ Some (s.loop_start + (c.position + j - s.loop_start) % (s.loop_end - s.loop_start + 1))
  pub onward : ¬ TurnsBack s c j → c.position + j < length s.samples → position ≡ Some (c.position + j)
  pub over : ¬ TurnsBack s c j → length s.samples ≤ c.position + j → position ≡ None

-- A channel, j samples later: one that does not play is as it was; one that plays is at its position, or has stopped with position 0.
pub record IsLater (s : SoundState) (c : Channel) (j : ℕ) (later : Channel) : Type 0 where
  pub resting : is_playing c.state ≡ false → later ≡ c
  pub playing : is_playing c.state ≡ true → (position : Option ℕ) × IsPosition s c j position × (later ≡ moved c position)

-- What such a channel is later, and what it then adds to sample k of a frame that is mixed: the sample of its sound at its position, or none.
pub record StandsLater (s : SoundState) (c : Channel) (j : ℕ) (sounds : List SoundState) (later : Channel) : Type 0 where
  pub channel : IsLater s c j later
  pub of_sound : samples_of (assigned sounds later.sound) ≡ s.samples
  pub no_sample : (k : ℕ) → is_playing c.state ≡ false → channel_position sounds later k ≡ None
  pub sample : (k : ℕ) → is_playing c.state ≡ true → IsPosition s c (j + k) (channel_position sounds later k)

-- `c` is the channel of that number after `past`, and `s` its sound then.
abbrev pub SoundInClosedForm : Type 0
SoundInClosedForm =
    (sounds : List (List ℕ)) (past more : List Happening) (number : ℕ) (c : Channel) (s : SoundState) → All (λ samples. 0 < length samples) sounds
    → slice_get (channels_after sounds past) number ≡ Some c → assigned (sounds_after sounds past) c.sound ≡ Some s
    → LeavesAlone sounds number c.sound past more
    → (later : Channel) × (slice_get (channels_after sounds (more ++ past)) number ≡ Some later)
    × StandsLater s c (samples_in more) (sounds_after sounds (more ++ past)) later

-- a channel that plays has a sound
abbrev pub PlayingHasSound : Type 0
PlayingHasSound =
    (sounds : List (List ℕ)) (past : List Happening) (number : ℕ) (c : Channel)
    → slice_get (channels_after sounds past) number ≡ Some c → is_playing c.state ≡ true
    → (s : SoundState) × (assigned (sounds_after sounds past) c.sound ≡ Some s)

-- no sound port is given a word
abbrev pub TellsNoSound : List Happening → Type 0
TellsNoSound [] = Unit {0}
TellsNoSound (Began ∷ more) = TellsNoSound more
TellsNoSound (Asked port ∷ more) = TellsNoSound more
TellsNoSound (Told port word ∷ more) = (is_sound_port port ≡ false) × TellsNoSound more
TellsNoSound (Mixed ∷ more) = TellsNoSound more

-- While sound is told nothing, sample k of a frame that is mixed is the clamped sum of what the channels before add to their sample j + k, where j samples
-- were mixed since.
abbrev pub SamplesGoOn : Type 0
SamplesGoOn =
    (sounds : List (List ℕ)) (past more : List Happening) (k : ℕ) → All (λ samples. 0 < length samples) sounds → TellsNoSound more
    → sample_at sounds (more ++ past) k ≡ sample_of (sounds_after sounds past) (channels_after sounds past) (samples_in more + k)
