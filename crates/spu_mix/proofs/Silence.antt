-- Samples while sound is told nothing.
use Rattle.std.proofs.Common.{◌≡◌, ℕ, suc, ◌+◌, ◌*◌, arith, refl, sym, ap, ◌∙◌, Bool, true, false, List, [], ◌∷◌, ◌++◌}
use Rattle.std.specs.Prelude.{if◌then◌else◌}
use Rattle.port_history.specs.Past.{Happening, Began, Asked, Told, Mixed, sound_past}
use Rattle.spu_mix.specs.Sounds.{SoundState}
use Rattle.spu_mix.specs.Mixing.{sample_of}
use Rattle.spu_mix.specs.Settings.{sounds_after, channels_after, frames_mixed, sample_at}
use Rattle.spu_mix.specs.Later.{samples_in, TellsNoSound, SamplesGoOn}
use Rattle.spu_mix.specs.declared.channel.Channel.{Channel}
use Rattle.spu_mix.proofs.Frames.{sample_later}
use Rattle.spu_mix.proofs.Others.{sound_alike}

-- how many frames were mixed
abbrev mixes : List Happening → ℕ
mixes [] = 0
mixes (Began ∷ more) = mixes more
mixes (Asked port ∷ more) = mixes more
mixes (Told port word ∷ more) = mixes more
mixes (Mixed ∷ more) = suc (mixes more)

mixes_samples : (more : List Happening) → samples_in more ≡ mixes more * 735
mixes_samples [] = refl
mixes_samples (Began ∷ more) = mixes_samples more
mixes_samples (Asked port ∷ more) = mixes_samples more
mixes_samples (Told port word ∷ more) = mixes_samples more
mixes_samples (Mixed ∷ more) = let h : samples_in more ≡ mixes more * 735 = mixes_samples more in omega arith

if_not : {X : Type 0} (b : Bool) (x y : X) → b ≡ false → (if b then x else y) ≡ y
if_not true x y e = absurd cc
if_not false x y e = refl

mixes_alone : (more past : List Happening) → TellsNoSound more → sound_past (more ++ past) ≡ frames_mixed (mixes more) (sound_past past)
mixes_alone [] past h = refl
mixes_alone (Began ∷ more) past h = mixes_alone more past h
mixes_alone (Asked port ∷ more) past h = mixes_alone more past h
mixes_alone (Told port word ∷ more) past h = if_not _ _ _ h.0 ∙ mixes_alone more past h.1
mixes_alone (Mixed ∷ more) past h = ap (λ (p : List Happening). Mixed ∷ p) (mixes_alone more past h)

same_sample : (sounds : List (List ℕ)) (past other : List Happening) (k : ℕ) → sounds_after sounds past ≡ sounds_after sounds other → channels_after sounds past ≡ channels_after sounds other
    → sample_at sounds past k ≡ sample_at sounds other k
same_sample sounds past other k e f = rw (e, f) refl

pub samples_go_on : SamplesGoOn
samples_go_on sounds past more k full h =
    let whole = sound_alike sounds (more ++ past) in
    let before = sound_alike sounds past in
    let n : ℕ = mixes more in
    let count : n * 735 ≡ samples_in more = sym (mixes_samples more) in
    sym (same_sample sounds (sound_past (more ++ past)) (more ++ past) k whole.sounds_alike whole.channels_alike)
    ∙ ap (λ (p : List Happening). sample_at sounds p k) (mixes_alone more past h)
    ∙ sample_later sounds (sound_past past) n k full
    ∙ ap (λ (ss : List SoundState). sample_of ss (channels_after sounds (sound_past past)) (n * 735 + k)) before.sounds_alike
    ∙ ap (λ (cs : List Channel). sample_of (sounds_after sounds past) cs (n * 735 + k)) before.channels_alike
    ∙ ap (λ (j : ℕ). sample_of (sounds_after sounds past) (channels_after sounds past) (j + k)) count
