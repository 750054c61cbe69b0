-- What is selected exists.
use Rattle.std.proofs.Common.{◌≡◌, ℕ, ◌<◌, arith, refl, ◌∙◌, Bool, true, List, [], ◌∷◌, length}
use Rattle.std.specs.Prelude.{◌==◌, ◌&&◌, nat_lt}
use Rattle.std.proofs.lemmas.List.{length-map, length-replicate}
use Rattle.port_history.specs.Past.{Happening, Began, Asked, Told, Mixed, last_accepted}
use Rattle.spu_mix.specs.Sounds.{SoundState}
use Rattle.spu_mix.specs.Channels.{first_channel, channels_told, channel_told, commanded_all, is_for_all}
use Rattle.spu_mix.specs.Mixing.{channel_after}
use Rattle.spu_mix.specs.Settings.{selected_sound, selected_channel, sounds_after, channels_after}
use Rattle.spu_mix.specs.declared.channel.Channel.{Channel}
use Rattle.spu_mix.proofs.Standing.{length-changed_at, as_many_sounds}
use Rattle.spu_mix.proofs.Within.{if_kept, both_right, is_below}

-- a setting whose accepted words are below a number is below it
accepted_below : (port n : ℕ) (accepts : ℕ → Bool) → ((word : ℕ) → accepts word ≡ true → word < n) → 0 < n → (past : List Happening) →
    last_accepted port accepts 0 past < n
accepted_below port n accepts below h [] = h
accepted_below port n accepts below h (Began ∷ past) = accepted_below port n accepts below h past
accepted_below port n accepts below h (Asked asked ∷ past) = accepted_below port n accepts below h past
accepted_below port n accepts below h (Told told word ∷ past) =
    if_kept (λ x. x < n) (told == port && accepts word) word (last_accepted port accepts 0 past)
    (λ e. below word (both_right (told == port) (accepts word) e)) (accepted_below port n accepts below h past)
accepted_below port n accepts below h (Mixed ∷ past) = accepted_below port n accepts below h past

as_many_told : (sounds : List SoundState) (selected port word : ℕ) (channels : List Channel) →
    length (channels_told sounds selected port word channels) ≡ length channels
unfolding channels_told
as_many_told sounds selected port word channels =
    let P : List Channel → Type 0 = λ cs. length cs ≡ length channels in
    if_kept P (length sounds == 0) _ _ (λ _. refl)
    (if_kept P (port == 0x300 && is_for_all word) _ _ (λ _. length-map channels (commanded_all word))
    (length-changed_at selected (channel_told sounds port word) channels))

pub sixteen : (sounds : List (List ℕ)) (past : List Happening) → length (channels_after sounds past) ≡ 16
sixteen sounds [] = length-replicate 16 first_channel
sixteen sounds (Began ∷ past) = sixteen sounds past
sixteen sounds (Asked port ∷ past) = sixteen sounds past
sixteen sounds (Told port word ∷ past) =
    as_many_told (sounds_after sounds past) (selected_channel sounds past) port word (channels_after sounds past) ∙ sixteen sounds past
sixteen sounds (Mixed ∷ past) = length-map (channels_after sounds past) (channel_after (sounds_after sounds past) 735) ∙ sixteen sounds past

pub sound_exists : (sounds : List (List ℕ)) (past : List Happening) → 0 < length sounds → selected_sound sounds past < length (sounds_after sounds past)
sound_exists sounds past h =
    let n = as_many_sounds sounds past in
    let below = accepted_below 0x302 (length sounds) (λ word. nat_lt word (length sounds)) (λ word e. is_below word (length sounds) e) h past in
    omega arith

pub channel_exists : (sounds : List (List ℕ)) (past : List Happening) → selected_channel sounds past < length (channels_after sounds past)
channel_exists sounds past =
    let n = sixteen sounds past in
    let below = accepted_below 0x303 16 (λ word. nat_lt 0 (length sounds) && nat_lt word 16) (λ word e. is_below word 16 (both_right (nat_lt 0 (length sounds)) (nat_lt word 16) e)) (omega arith) past in
    omega arith
