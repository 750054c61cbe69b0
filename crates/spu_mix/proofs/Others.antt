-- What other devices are told or asked is nothing to sound.
use Rattle.std.proofs.Common.{◌≡◌, ℕ, zero, suc, arith, refl, sym, ap, subst, ◌∙◌, Bool, true, false, List, [], ◌∷◌, length}
use Rattle.std.specs.Prelude.{◌==◌, ◌&&◌, nat_lt, nat_le, if◌then◌else◌}
use Rattle.port_history.specs.Past.{Happening, Began, Asked, Told, Mixed, last_accepted, is_sound_port, sound_past}
use Rattle.spu_mix.specs.Sounds.{SoundState, sound_told}
use Rattle.spu_mix.specs.Channels.{changed_at, channels_told, channel_told, is_for_all}
use Rattle.spu_mix.specs.Settings.{selected_sound, selected_channel, sounds_after, channels_after, last_sample}
use Rattle.spu_mix.specs.Stands.{SoundUnit, SoundStands}
use Rattle.spu_mix.specs.declared.channel.Channel.{Channel}
use Rattle.spu_mix.proofs.Within.{if_kept, both_left}

-- another device's port is none of sound's
is_other : (told port : ℕ) → is_sound_port told ≡ false → is_sound_port port ≡ true → (told == port) ≡ true → ⊥
is_other told port other ours e =
    let same : told ≡ port = grind (arith, e) in
    let f : is_sound_port port ≡ false = subst (λ (n : ℕ). is_sound_port n ≡ false) same other in
    cc

accepted_else : (port told word : ℕ) (accepts : ℕ → Bool) (past : List Happening) → is_sound_port port ≡ true → is_sound_port told ≡ false →
    last_accepted port accepts 0 (Told told word ∷ past) ≡ last_accepted port accepts 0 past
accepted_else port told word accepts past ours other =
    if_kept (λ x. x ≡ last_accepted port accepts 0 past) (told == port && accepts word) word (last_accepted port accepts 0 past)
    (λ e. absurd (is_other told port other ours (both_left (told == port) (accepts word) e))) refl

sound_else : (told word : ℕ) (s : SoundState) → is_sound_port told ≡ false → sound_told told word s ≡ s
unfolding sound_told
sound_else told word s other =
    let P : SoundState → Type 0 = λ t. t ≡ s in
    if_kept P (told == 0x305 && nat_lt word 2) _ _ (λ e. absurd (is_other told 0x305 other refl (both_left _ _ e)))
    (if_kept P (told == 0x306 && nat_le word s.loop_end) _ _ (λ e. absurd (is_other told 0x306 other refl (both_left _ _ e)))
    (if_kept P (told == 0x307 && nat_le s.loop_start word && nat_lt word (length s.samples)) _ _
    (λ e. absurd (is_other told 0x307 other refl (both_left _ _ (both_left _ _ e)))) refl))

channel_else : (sounds : List SoundState) (told word : ℕ) (c : Channel) → is_sound_port told ≡ false → channel_told sounds told word c ≡ c
unfolding channel_told
channel_else sounds told word c other =
    let P : Channel → Type 0 = λ d. d ≡ c in
    if_kept P (told == 0x300) _ _ (λ e. absurd (is_other told 0x300 other refl e))
    (if_kept P (told == 0x309) _ _ (λ e. absurd (is_other told 0x309 other refl e))
    (if_kept P (told == 0x30C && nat_lt word 2) _ _ (λ e. absurd (is_other told 0x30C other refl (both_left _ _ e)))
    (if_kept P (told == 0x30D) _ _ (λ e. absurd (is_other told 0x30D other refl e)) refl)))

changed_same : {X : Type 0} (f : X → X) → ((x : X) → f x ≡ x) → (i : ℕ) (xs : List X) → changed_at i f xs ≡ xs
unfolding changed_at
changed_same f same i [] = refl
changed_same f same zero (x ∷ xs) = ap (λ y. y ∷ xs) (same x)
changed_same f same (suc i) (x ∷ xs) = ap (λ ys. x ∷ ys) (changed_same f same i xs)

channels_else : (sounds : List SoundState) (selected told word : ℕ) (channels : List Channel) → is_sound_port told ≡ false →
    channels_told sounds selected told word channels ≡ channels
unfolding channels_told
channels_else sounds selected told word channels other =
    let P : List Channel → Type 0 = λ cs. cs ≡ channels in
    if_kept P (length sounds == 0) _ _ (λ _. refl)
    (if_kept P (told == 0x300 && is_for_all word) _ _ (λ e. absurd (is_other told 0x300 other refl (both_left _ _ e)))
    (changed_same (channel_told sounds told word) (λ c. channel_else sounds told word c other) selected channels))

-- what sound is after two pasts is the same
pub record Alike (sounds : List (List ℕ)) (past other : List Happening) : Type 0 where
  pub sound : selected_sound sounds past ≡ selected_sound sounds other
  pub channel : selected_channel sounds past ≡ selected_channel sounds other
  pub sounds_alike : sounds_after sounds past ≡ sounds_after sounds other
  pub channels_alike : channels_after sounds past ≡ channels_after sounds other
  pub samples : (k : ℕ) → last_sample sounds past k ≡ last_sample sounds other k

told_alike : (sounds : List (List ℕ)) (told word : ℕ) (past other : List Happening) → Alike sounds past other →
    Alike sounds (Told told word ∷ past) (Told told word ∷ other)
told_alike sounds told word past other h = record {
  sound = rw h.sound refl;
  channel = rw h.channel refl;
  sounds_alike = rw (h.sound, h.sounds_alike) refl;
  channels_alike = rw (h.sounds_alike, h.channel, h.channels_alike) refl;
  samples = h.samples;
}

else_alike : (sounds : List (List ℕ)) (told word : ℕ) (past other : List Happening) → is_sound_port told ≡ false → Alike sounds past other →
    Alike sounds past (Told told word ∷ other)
else_alike sounds told word past other p h = record {
  sound = h.sound ∙ sym (accepted_else 0x302 told word _ other refl p);
  channel = h.channel ∙ sym (accepted_else 0x303 told word _ other refl p);
  sounds_alike = h.sounds_alike ∙ sym (changed_same (sound_told told word) (λ s. sound_else told word s p) (selected_sound sounds other) (sounds_after sounds other));
  channels_alike = h.channels_alike ∙ sym (channels_else (sounds_after sounds other) (selected_channel sounds other) told word (channels_after sounds other) p);
  samples = h.samples;
}

mixed_alike : (sounds : List (List ℕ)) (past other : List Happening) → Alike sounds past other → Alike sounds (Mixed ∷ past) (Mixed ∷ other)
mixed_alike sounds past other h = record {
  sound = h.sound;
  channel = h.channel;
  sounds_alike = h.sounds_alike;
  channels_alike = rw (h.sounds_alike, h.channels_alike) refl;
  samples = λ k. rw (h.sounds_alike, h.channels_alike) refl;
}

chosen_alike : (sounds : List (List ℕ)) (told word : ℕ) (past other : List Happening) (b : Bool) → is_sound_port told ≡ b → Alike sounds past other →
    Alike sounds (if b then Told told word ∷ past else past) (Told told word ∷ other)
chosen_alike sounds told word past other true p h = told_alike sounds told word past other h
chosen_alike sounds told word past other false p h = else_alike sounds told word past other p h

pub sound_alike : (sounds : List (List ℕ)) (past : List Happening) → Alike sounds (sound_past past) past
sound_alike sounds [] = record { sound = refl; channel = refl; sounds_alike = refl; channels_alike = refl; samples = λ k. refl }
sound_alike sounds (Began ∷ past) = let h = sound_alike sounds past in
    record { sound = h.sound; channel = h.channel; sounds_alike = h.sounds_alike; channels_alike = h.channels_alike; samples = h.samples }
sound_alike sounds (Asked port ∷ past) = let h = sound_alike sounds past in
    record { sound = h.sound; channel = h.channel; sounds_alike = h.sounds_alike; channels_alike = h.channels_alike; samples = h.samples }
sound_alike sounds (Told told word ∷ past) = chosen_alike sounds told word (sound_past past) past (is_sound_port told) refl (sound_alike sounds past)
sound_alike sounds (Mixed ∷ past) = mixed_alike sounds (sound_past past) past (sound_alike sounds past)

pub stands_for_all : (sounds : List (List ℕ)) (past : List Happening) (unit : SoundUnit) → SoundStands sounds (sound_past past) unit → SoundStands sounds past unit
stands_for_all sounds past unit s =
    let h = sound_alike sounds past in
    record {
      sounds_are = s.sounds_are ∙ h.sounds_alike;
      channels_are = s.channels_are ∙ h.channels_alike;
      selected_sound_is = s.selected_sound_is ∙ h.sound;
      selected_channel_is = s.selected_channel_is ∙ h.channel;
      samples_are = λ k b. s.samples_are k b ∙ h.samples k;
    }

pub stands_for_ours : (sounds : List (List ℕ)) (past : List Happening) (unit : SoundUnit) → SoundStands sounds past unit → SoundStands sounds (sound_past past) unit
stands_for_ours sounds past unit s =
    let h = sound_alike sounds past in
    record {
      sounds_are = s.sounds_are ∙ sym h.sounds_alike;
      channels_are = s.channels_are ∙ sym h.channels_alike;
      selected_sound_is = s.selected_sound_is ∙ sym h.sound;
      selected_channel_is = s.selected_channel_is ∙ sym h.channel;
      samples_are = λ k b. s.samples_are k b ∙ sym (h.samples k);
    }
