-- What stands at first, and how many sounds there are after a past.
use Rattle.std.proofs.Common.{◌≡◌, ℕ, zero, suc, arith, refl, ◌∙◌, List, [], ◌∷◌, length}
use Rattle.std.specs.Prelude.{map, replicate}
use Rattle.std.proofs.lemmas.List.{length-map, get_or-replicate}
use Rattle.port_history.specs.Past.{Happening, Began, Asked, Told, Mixed}
use Rattle.spu_mix.specs.Sounds.{first_sound, sound_told}
use Rattle.spu_mix.specs.Channels.{first_channel, changed_at}
use Rattle.spu_mix.specs.Settings.{selected_sound, sounds_after}
use Rattle.spu_mix.specs.Stands.{SoundUnit, SoundStands}

pub length-changed_at : {X : Type 0} (i : ℕ) (f : X → X) (xs : List X) → length (changed_at i f xs) ≡ length xs
unfolding changed_at
length-changed_at i f [] = refl
length-changed_at zero f (x ∷ xs) = refl
length-changed_at (suc i) f (x ∷ xs) = omega (arith, length-changed_at i f xs)

pub as_many_sounds : (sounds : List (List ℕ)) (past : List Happening) → length (sounds_after sounds past) ≡ length sounds
as_many_sounds sounds [] = length-map sounds first_sound
as_many_sounds sounds (Began ∷ past) = as_many_sounds sounds past
as_many_sounds sounds (Asked port ∷ past) = as_many_sounds sounds past
as_many_sounds sounds (Told port word ∷ past) =
    length-changed_at (selected_sound sounds past) (sound_told port word) (sounds_after sounds past) ∙ as_many_sounds sounds past
as_many_sounds sounds (Mixed ∷ past) = as_many_sounds sounds past

pub first_stands : (sounds : List (List ℕ)) (u : SoundUnit) → u.sounds ≡ map first_sound sounds →
    u.channels ≡ replicate 16 first_channel → u.selected_sound ≡ 0 → u.selected_channel ≡ 0 →
    u.samples ≡ replicate 735 0 → SoundStands sounds [] u
first_stands sounds u a b c d e = record {
  sounds_are = a;
  channels_are = b;
  selected_sound_is = c;
  selected_channel_is = d;
  samples_are = λ k h. rw e (get_or-replicate 735 k 0 0 h);
}
