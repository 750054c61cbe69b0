-- A channel that is not stopped has a sound, whatever happened.
use Rattle.std.proofs.Common.{◌≡◌, ◌⊎◌, inl, inr, ℕ, refl, sym, subst, true, Option, Some, None, List, [], ◌∷◌, length}
use Rattle.std.specs.Prelude.{All, ◌==◌, ◌&&◌, nat_lt}
use Rattle.std.proofs.lemmas.List.Elements.{All-replicate, All-weaker}
use Rattle.port_history.specs.Past.{Happening, Began, Asked, Told, Mixed}
use Rattle.spu_mix.specs.Sounds.{SoundState, sound_told}
use Rattle.spu_mix.specs.Channels.{assigned, first_channel, changed_at, channels_told, channel_told, commanded, commanded_all, is_for_all, play, play_from, start_over, pause, pause_from, resume, resume_from, stop, assign, assign_from, place, place_in}
use Rattle.spu_mix.specs.Mixing.{channel_after, position_in, moved, is_playing}
use Rattle.spu_mix.specs.Settings.{selected_sound, selected_channel, sounds_after, channels_after}
use Rattle.spu_mix.specs.Later.{PlayingHasSound}
use Rattle.spu_mix.specs.declared.channel.Channel.{Channel}
use Rattle.spu_mix.specs.declared.channel.ChannelState.{ChannelState}
use Rattle.spu_mix.specs.declared.channel.ChannelState.TheVariants.{Stopped, Paused, Playing}
use Rattle.spu_mix.proofs.Within.{if_kept, all_changed, all_mapped, all_at, as_in}
use Rattle.spu_mix.proofs.Later.{get_changed}

abbrev Has : List SoundState → Option ℕ → Type 0
Has sounds o = (s : SoundState) × (assigned sounds o ≡ Some s)

abbrev Sounding : List SoundState → Channel → Type 0
Sounding sounds c = (c.state ≡ Stopped) ⊎ Has sounds c.sound

-- the commands
start_sounds : (sounds : List SoundState) (o : Option SoundState) (c : Channel) → assigned sounds c.sound ≡ o → Sounding sounds c → Sounding sounds (start_over o c)
start_sounds sounds None c a h = h
start_sounds sounds (Some s) c a h = inr (s, a)

-- a channel in a state that is not stopped has a sound
has_sound : (sounds : List SoundState) (c : Channel) → ¬ (c.state ≡ Stopped) → Sounding sounds c → Has sounds c.sound
has_sound sounds c other (inl stopped) = absurd (other stopped)
has_sound sounds c other (inr has) = has

play_sounds : (sounds : List SoundState) (o : Option SoundState) (state : ChannelState) (c : Channel) → c.state ≡ state → assigned sounds c.sound ≡ o → Sounding sounds c →
    Sounding sounds (play_from state o c)
play_sounds sounds o Stopped c e a h = start_sounds sounds o c a h
play_sounds sounds o Paused c e a h = inr (has_sound sounds c (λ f. cc) h)
play_sounds sounds o Playing c e a h = start_sounds sounds o c a h

pause_sounds : (sounds : List SoundState) (state : ChannelState) (c : Channel) → c.state ≡ state → Sounding sounds c → Sounding sounds (pause_from state c)
pause_sounds sounds Stopped c e h = h
pause_sounds sounds Paused c e h = h
pause_sounds sounds Playing c e h = inr (has_sound sounds c (λ f. cc) h)

resume_sounds : (sounds : List SoundState) (state : ChannelState) (c : Channel) → c.state ≡ state → Sounding sounds c → Sounding sounds (resume_from state c)
resume_sounds sounds Stopped c e h = h
resume_sounds sounds Paused c e h = inr (has_sound sounds c (λ f. cc) h)
resume_sounds sounds Playing c e h = h

stop_sounds : (sounds : List SoundState) (c : Channel) → Sounding sounds (stop c)
unfolding stop
stop_sounds sounds c = inl refl

one_sounds : (sounds : List SoundState) (word : ℕ) (c : Channel) → Sounding sounds c → Sounding sounds (commanded sounds word c)
unfolding commanded play pause
one_sounds sounds word c h =
    let P : Channel → Type 0 = Sounding sounds in
    if_kept P (word == 0x30) _ _ (λ _. play_sounds sounds (assigned sounds c.sound) c.state c refl refl h)
    (if_kept P (word == 0x31) _ _ (λ _. pause_sounds sounds c.state c refl h) (if_kept P (word == 0x32) _ _ (λ _. stop_sounds sounds c) h))

each_sounds : (sounds : List SoundState) (word : ℕ) (c : Channel) → Sounding sounds c → Sounding sounds (commanded_all word c)
unfolding commanded_all pause resume
each_sounds sounds word c h =
    let P : Channel → Type 0 = Sounding sounds in
    if_kept P (word == 0x33) _ _ (λ _. pause_sounds sounds c.state c refl h)
    (if_kept P (word == 0x34) _ _ (λ _. resume_sounds sounds c.state c refl h) (if_kept P (word == 0x35) _ _ (λ _. stop_sounds sounds c) h))

-- another sound, another position
assign_sounds : (sounds : List SoundState) (word : ℕ) (state : ChannelState) (c : Channel) → c.state ≡ state → Sounding sounds c → Sounding sounds (assign_from state sounds word c)
assign_sounds sounds word Stopped c e h = if_kept (Sounding sounds) (nat_lt word (length sounds)) _ _ (λ _. inl e) h
assign_sounds sounds word Paused c e h = h
assign_sounds sounds word Playing c e h = h

place_sounds : (sounds : List SoundState) (word : ℕ) (o : Option SoundState) (c : Channel) → Sounding sounds c → Sounding sounds (place_in o word c)
place_sounds sounds word None c h = h
place_sounds sounds word (Some s) c h = if_kept (Sounding sounds) (nat_lt word (length s.samples)) _ _ (λ _. h) h

told_sounds : (sounds : List SoundState) (port word : ℕ) (c : Channel) → Sounding sounds c → Sounding sounds (channel_told sounds port word c)
unfolding channel_told assign place
told_sounds sounds port word c h =
    let P : Channel → Type 0 = Sounding sounds in
    if_kept P (port == 0x300) _ _ (λ _. one_sounds sounds word c h)
    (if_kept P (port == 0x309) _ _ (λ _. assign_sounds sounds word c.state c refl h)
    (if_kept P (port == 0x30C && nat_lt word 2) _ _ (λ _. h)
    (if_kept P (port == 0x30D) _ _ (λ _. place_sounds sounds word (assigned sounds c.sound) c h) h)))

all_told_sounds : (sounds : List SoundState) (selected port word : ℕ) (channels : List Channel) → All (Sounding sounds) channels →
    All (Sounding sounds) (channels_told sounds selected port word channels)
unfolding channels_told
all_told_sounds sounds selected port word channels h =
    let P : List Channel → Type 0 = All (Sounding sounds) in
    if_kept P (length sounds == 0) _ _ (λ _. h)
    (if_kept P (port == 0x300 && is_for_all word) _ _
    (λ _. all_mapped (Sounding sounds) (commanded_all word) (each_sounds sounds word) channels h)
    (all_changed (Sounding sounds) (channel_told sounds port word) (λ c k. told_sounds sounds port word c k) selected channels h))

-- a word to a sound leaves it there
still_has : (port word selected : ℕ) (sounds : List SoundState) (o : Option ℕ) → Has sounds o → Has (changed_at selected (sound_told port word) sounds) o
still_has port word selected sounds None h = absurd (none_is_some h.0 h.1)
  where
    none_is_some : (s : SoundState) → None ≡ Some s → ⊥
    none_is_some s e = cc
still_has port word selected sounds (Some n) h = let (t, at, how) = get_changed (sound_told port word) selected n sounds h.0 h.1 in (t, at)

still_sounds : (port word selected : ℕ) (sounds : List SoundState) (c : Channel) → Sounding sounds c → Sounding (changed_at selected (sound_told port word) sounds) c
still_sounds port word selected sounds c (inl stopped) = inl stopped
still_sounds port word selected sounds c (inr has) = inr (still_has port word selected sounds c.sound has)

-- samples later
moved_sounds : (sounds : List SoundState) (c : Channel) (o : Option ℕ) → Sounding sounds c → Sounding sounds (moved c o)
moved_sounds sounds c None h = inl refl
moved_sounds sounds c (Some p) h = h

after_sounds : (sounds : List SoundState) (k : ℕ) (c : Channel) → Sounding sounds c → Sounding sounds (channel_after sounds k c)
after_sounds sounds k c h =
    subst (Sounding sounds) (sym (as_in sounds k c))
    (if_kept (Sounding sounds) (is_playing c.state) _ _ (λ _. moved_sounds sounds c (position_in (assigned sounds c.sound) c k) h) h)

all_sound : (sounds : List (List ℕ)) (past : List Happening) → All (Sounding (sounds_after sounds past)) (channels_after sounds past)
all_sound sounds [] = All-replicate (Sounding (sounds_after sounds [])) 16 first_channel (inl refl)
all_sound sounds (Began ∷ past) = all_sound sounds past
all_sound sounds (Asked port ∷ past) = all_sound sounds past
all_sound sounds (Told port word ∷ past) =
    let before : List SoundState = sounds_after sounds past in
    let channels : List Channel = channels_told before (selected_channel sounds past) port word (channels_after sounds past) in
    All-weaker (Sounding before) (Sounding (changed_at (selected_sound sounds past) (sound_told port word) before))
    (λ c k. still_sounds port word (selected_sound sounds past) before c k) channels
    (all_told_sounds before (selected_channel sounds past) port word (channels_after sounds past) (all_sound sounds past))
all_sound sounds (Mixed ∷ past) =
    let before : List SoundState = sounds_after sounds past in
    all_mapped (Sounding before) (channel_after before 735) (λ c k. after_sounds before 735 c k) (channels_after sounds past) (all_sound sounds past)

playing_is : (state : ChannelState) → is_playing state ≡ true → state ≡ Stopped → ⊥
playing_is Stopped p e = cc
playing_is Paused p e = cc
playing_is Playing p e = cc

pub playing_has_sound : PlayingHasSound
playing_has_sound sounds past number c at playing =
    has_sound (sounds_after sounds past) c (playing_is c.state playing) (all_at (Sounding (sounds_after sounds past)) (channels_after sounds past) number c (all_sound sounds past) at)
