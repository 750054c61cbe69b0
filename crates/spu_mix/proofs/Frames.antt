-- Samples after samples, and frames after frames.
use Rattle.std.proofs.Common.{◌≡◌, ℕ, zero, suc, ◌<◌, ◌≤◌, ◌+◌, ◌*◌, arith, refl, Bool, true, false, Option, Some, None, List, [], ◌∷◌, length, sym}
use Rattle.std.specs.Prelude.{All, map, sum_by, if◌then◌else◌}
use Rattle.std.proofs.lemmas.List.Elements.{All-head, All-tail}
use Rattle.std.proofs.lemmas.List.Sums.{sum_by-cons}
use Rattle.port_history.specs.Past.{Happening, Mixed}
use Rattle.spu_mix.specs.Positions.{position_after}
use Rattle.spu_mix.specs.Sounds.{SoundState, HasLoop}
use Rattle.spu_mix.specs.Channels.{HasPosition, assigned}
use Rattle.spu_mix.specs.Mixing.{channel_after, channel_position, position_in, moved, is_playing, left_of, right_of, sample_of}
use Rattle.spu_mix.specs.Settings.{sounds_after, channels_after, frames_mixed, sample_at}
use Rattle.spu_mix.specs.declared.channel.Channel.{Channel}
use Rattle.spu_mix.specs.declared.channel.ChannelState.{ChannelState}
use Rattle.spu_mix.specs.declared.channel.ChannelState.TheVariants.{Stopped, Paused, Playing}
use Rattle.spu_mix.proofs.Positions.{position_from, position_next, position_small}
use Rattle.spu_mix.proofs.Within.{after_in, as_in, assigned_loop, loops_within, positions_within}

-- once stopped, a channel stays so
position_stays : (looping : Bool) (start last count p j k : ℕ) → start ≤ last → last < count → p < count →
    position_after looping start last count p j ≡ None → position_after looping start last count p (j + k) ≡ None
position_stays looping start last count p j zero a b c e = let f : j + 0 ≡ j = omega arith in rw (f, e) refl
position_stays looping start last count p j (suc k) a b c e =
    let f : j + suc k ≡ (j + k) + 1 = omega arith in
    rw (f, position_next looping start last count p (j + k) a b c, position_stays looping start last count p j k a b c e) refl

-- a channel from its parts
of_parts : ChannelState → Option ℕ → Bool → ℕ → Channel
of_parts state sound looping position = record { state = state; sound = sound; looping = looping; position = position }

moved_again : (c : Channel) (q : ℕ) (o : Option ℕ) → moved (record c { position = q }) o ≡ moved c o
moved_again c q None = refl
moved_again c q (Some p) = refl

twice_from : (s : SoundState) (n : Option ℕ) (l : Bool) (p j k : ℕ) (o : Option ℕ) → HasLoop s → p < length s.samples →
    position_after l s.loop_start s.loop_end (length s.samples) p j ≡ o →
    after_in (Some s) (moved (of_parts Playing n l p) o) k ≡ moved (of_parts Playing n l p) (position_after l s.loop_start s.loop_end (length s.samples) p (j + k))
unfolding of_parts
twice_from s n l p j k None loop within e =
    rw (position_stays l s.loop_start s.loop_end (length s.samples) p j k loop.ordered loop.within within e) refl
twice_from s n l p j k (Some q) loop within e =
    let small = position_small l s.loop_start s.loop_end (length s.samples) p j q loop.ordered loop.within e in
    rw (position_from l s.loop_start s.loop_end (length s.samples) p j q k loop.ordered loop.within within small e)
    (moved_again (of_parts Playing n l p) q (position_after l s.loop_start s.loop_end (length s.samples) q k))

twice_made : (o : Option SoundState) (state : ChannelState) (n : Option ℕ) (l : Bool) (p j k : ℕ) →
    ((s : SoundState) → o ≡ Some s → HasLoop s × (p < length s.samples)) →
    after_in o (after_in o (of_parts state n l p) j) k ≡ after_in o (of_parts state n l p) (j + k)
unfolding of_parts
twice_made o Stopped n l p j k h = refl
twice_made o Paused n l p j k h = refl
twice_made None Playing n l p j k h = refl
twice_made (Some s) Playing n l p j k h =
    twice_from s n l p j k (position_after l s.loop_start s.loop_end (length s.samples) p j) (h s refl).0 (h s refl).1 refl

same_sound : (c : Channel) (b : Bool) (o : Option ℕ) → (if b then moved c o else c).sound ≡ c.sound
same_sound c true None = refl
same_sound c true (Some q) = refl
same_sound c false o = refl

pub channel_twice : (sounds : List SoundState) (c : Channel) (j k : ℕ) → All HasLoop sounds → HasPosition sounds c →
    channel_after sounds k (channel_after sounds j c) ≡ channel_after sounds (j + k) c
unfolding of_parts
channel_twice sounds c j k l h =
    let o : Option SoundState = assigned sounds c.sound in
    let e : (after_in o c j).sound ≡ c.sound = same_sound c (is_playing c.state) (position_in o c j) in
    rw (as_in sounds j c, as_in sounds k (after_in o c j), as_in sounds (j + k) c, e)
    (twice_made o c.state c.sound c.looping c.position j k (λ s f. (assigned_loop sounds c.sound s l f, h s f)))

-- the position of a channel, by its sound
abbrev position_at : Option SoundState → Channel → ℕ → Option ℕ
position_at o c k = if is_playing c.state then position_in o c k else None

position_from_moved : (s : SoundState) (n : Option ℕ) (l : Bool) (p j k : ℕ) (o : Option ℕ) → HasLoop s → p < length s.samples →
    position_after l s.loop_start s.loop_end (length s.samples) p j ≡ o →
    position_at (Some s) (moved (of_parts Playing n l p) o) k ≡ position_after l s.loop_start s.loop_end (length s.samples) p (j + k)
unfolding of_parts
position_from_moved s n l p j k None loop within e =
    sym (position_stays l s.loop_start s.loop_end (length s.samples) p j k loop.ordered loop.within within e)
position_from_moved s n l p j k (Some q) loop within e =
    let small = position_small l s.loop_start s.loop_end (length s.samples) p j q loop.ordered loop.within e in
    sym (position_from l s.loop_start s.loop_end (length s.samples) p j q k loop.ordered loop.within within small e)

position_made : (o : Option SoundState) (state : ChannelState) (n : Option ℕ) (l : Bool) (p j k : ℕ) →
    ((s : SoundState) → o ≡ Some s → HasLoop s × (p < length s.samples)) →
    position_at o (after_in o (of_parts state n l p) j) k ≡ position_at o (of_parts state n l p) (j + k)
unfolding of_parts
position_made o Stopped n l p j k h = refl
position_made o Paused n l p j k h = refl
position_made None Playing n l p j k h = refl
position_made (Some s) Playing n l p j k h =
    position_from_moved s n l p j k (position_after l s.loop_start s.loop_end (length s.samples) p j) (h s refl).0 (h s refl).1 refl

pub position_twice : (sounds : List SoundState) (c : Channel) (j k : ℕ) → All HasLoop sounds → HasPosition sounds c →
    channel_position sounds (channel_after sounds j c) k ≡ channel_position sounds c (j + k)
unfolding of_parts channel_position
position_twice sounds c j k l h =
    let o : Option SoundState = assigned sounds c.sound in
    let e : (after_in o c j).sound ≡ c.sound = same_sound c (is_playing c.state) (position_in o c j) in
    rw (as_in sounds j c, e)
    (position_made o c.state c.sound c.looping c.position j k (λ s f. (assigned_loop sounds c.sound s l f, h s f)))

-- frames
same_sounds : (sounds : List (List ℕ)) (past : List Happening) (n : ℕ) → sounds_after sounds (frames_mixed n past) ≡ sounds_after sounds past
same_sounds sounds past zero = refl
same_sounds sounds past (suc n) = same_sounds sounds past n

map_twice : {X : Type 0} (P : X → Type 0) (f g h : X → X) → ((x : X) → P x → f (g x) ≡ h x) → (xs : List X) → All P xs → map f (map g xs) ≡ map h xs
map_twice P f g h same [] a = refl
map_twice P f g h same (x ∷ xs) a = rw (same x (All-head P x xs a), map_twice P f g h same xs (All-tail P x xs a)) refl

pub frames_together : (sounds : List (List ℕ)) (past : List Happening) (n : ℕ) → All (λ s. 0 < length s) sounds →
    channels_after sounds (Mixed ∷ frames_mixed n past) ≡ map (channel_after (sounds_after sounds past) ((n + 1) * 735)) (channels_after sounds past)
frames_together sounds past zero h = refl
frames_together sounds past (suc n) h =
    let unchanged = same_sounds sounds past n in
    let more : (suc n + 1) * 735 ≡ (n + 1) * 735 + 735 = omega arith in
    let before : List SoundState = sounds_after sounds past in
    rw (frames_together sounds past n h, unchanged, more)
    (map_twice (HasPosition before) (channel_after before 735) (channel_after before ((n + 1) * 735)) (channel_after before ((n + 1) * 735 + 735))
    (λ c k. channel_twice before c ((n + 1) * 735) 735 (loops_within sounds past h) k) (channels_after sounds past) (positions_within sounds past h))

-- sums of both sides
pub kept_sound : (sounds : List SoundState) (c : Channel) (j : ℕ) → (channel_after sounds j c).sound ≡ c.sound
kept_sound sounds c j = rw (as_in sounds j c) (same_sound c (is_playing c.state) (position_in (assigned sounds c.sound) c j))

left_twice : (sounds : List SoundState) (j k : ℕ) (c : Channel) → All HasLoop sounds → HasPosition sounds c →
    left_of sounds k (channel_after sounds j c) ≡ left_of sounds (j + k) c
left_twice sounds j k c l h = rw (position_twice sounds c j k l h, kept_sound sounds c j) refl

right_twice : (sounds : List SoundState) (j k : ℕ) (c : Channel) → All HasLoop sounds → HasPosition sounds c →
    right_of sounds k (channel_after sounds j c) ≡ right_of sounds (j + k) c
right_twice sounds j k c l h = rw (position_twice sounds c j k l h, kept_sound sounds c j) refl

sum_twice : {X : Type 0} (P : X → Type 0) (f h : X → ℕ) (g : X → X) → ((x : X) → P x → f (g x) ≡ h x) → (xs : List X) → All P xs →
    sum_by f (map g xs) ≡ sum_by h xs
sum_twice P f h g same [] a = refl
sum_twice P f h g same (x ∷ xs) a =
    rw (sum_by-cons f (g x) (map g xs), sum_by-cons h x xs, same x (All-head P x xs a), sum_twice P f h g same xs (All-tail P x xs a)) refl

pub sample_later : (sounds : List (List ℕ)) (past : List Happening) (n k : ℕ) → All (λ s. 0 < length s) sounds →
    sample_at sounds (frames_mixed n past) k ≡ sample_of (sounds_after sounds past) (channels_after sounds past) (n * 735 + k)
sample_later sounds past zero k h = let e : 0 * 735 + k ≡ k = omega arith in rw e refl
sample_later sounds past (suc n) k h =
    let before : List SoundState = sounds_after sounds past in
    let j : ℕ = (n + 1) * 735 in
    let more : suc n * 735 + k ≡ j + k = omega arith in
    let unchanged = same_sounds sounds past n in
    let loops = loops_within sounds past h in
    let within = positions_within sounds past h in
    rw (
      frames_together sounds past n h,
      unchanged,
      more,
      sum_twice (HasPosition before) (left_of before k) (left_of before (j + k)) (channel_after before j) (λ c p. left_twice before j k c loops p) (channels_after sounds past) within,
      sum_twice (HasPosition before) (right_of before k) (right_of before (j + k)) (channel_after before j) (λ c p. right_twice before j k c loops p) (channels_after sounds past) within,
    )
    refl
