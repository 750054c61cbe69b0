-- What happens to a channel while no word concerns it.
use Rattle.std.proofs.Common.{◌≡◌, ◌⊎◌, inl, inr, ℕ, zero, suc, ◌<◌, ◌≤◌, ◌+◌, arith, refl, sym, ap, subst, ◌∙◌, Bool, true, false, Option, Some, None, List, [], ◌∷◌, ◌++◌, length}
use Rattle.std.specs.Prelude.{All, slice_get, ◌==◌, ◌&&◌, ◌||◌, nat_lt, nat_le, if◌then◌else◌}
use Rattle.std.specs.Option.{option_map}
use Rattle.std.proofs.lemmas.Bool.{cases_lt}
use Rattle.std.proofs.lemmas.Option.{same_Some, slice_get-map}
use Rattle.port_history.specs.Past.{Happening, Began, Asked, Told, Mixed}
use Rattle.spu_mix.specs.Positions.{position_after}
use Rattle.spu_mix.specs.Sounds.{SoundState, HasLoop, sound_told}
use Rattle.spu_mix.specs.Channels.{HasPosition, assigned, changed_at, channels_told, channel_told, is_for_all}
use Rattle.spu_mix.specs.Mixing.{channel_after, channel_position, position_in, moved, is_playing, samples_of}
use Rattle.spu_mix.specs.Settings.{selected_sound, selected_channel, sounds_after, channels_after}
use Rattle.spu_mix.specs.Later.{concerns_channel, concerns_loop, LeavesAlone, samples_in, IsPosition, IsLater, StandsLater, SoundInClosedForm}
use Rattle.spu_mix.specs.declared.channel.Channel.{Channel}
use Rattle.spu_mix.proofs.Positions.{position_none, position_wrapped, position_straight, position_past, straight_on, straight_past}
use Rattle.spu_mix.proofs.Within.{if_kept, both_left, all_at, as_in, loops_within, positions_within, assigned_loop}
use Rattle.spu_mix.proofs.Frames.{channel_twice, position_twice, kept_sound}

-- tests that fail
or_left : (a b : Bool) → (a || b) ≡ false → a ≡ false
or_left true b e = absurd cc
or_left false b e = refl

or_right : (a b : Bool) → (a || b) ≡ false → b ≡ false
or_right true b e = absurd cc
or_right false b e = e

and_right : (a b : Bool) → (a && b) ≡ false → a ≡ true → b ≡ false
and_right true b e t = e
and_right false b e t = absurd cc

not_both : (b : Bool) → b ≡ true → b ≡ false → ⊥
not_both true t f = cc
not_both false t f = cc

if_true : {X : Type 0} (b : Bool) (x y : X) → b ≡ true → (if b then x else y) ≡ x
if_true true x y e = refl
if_true false x y e = absurd cc

if_false : {X : Type 0} (b : Bool) (x y : X) → b ≡ false → (if b then x else y) ≡ y
if_false true x y e = absurd cc
if_false false x y e = refl

-- an element of a list of which one is changed
pub get_changed : {X : Type 0} (f : X → X) (i n : ℕ) (xs : List X) (x : X) → slice_get xs n ≡ Some x →
    (y : X) × (slice_get (changed_at i f xs) n ≡ Some y) × ((y ≡ x) ⊎ (((i == n) ≡ true) × (y ≡ f x)))
unfolding changed_at
get_changed f i n [] x e = absurd cc
get_changed f zero zero (z ∷ xs) x e = (f z, refl, inr (refl, ap f (same_Some z x e)))
get_changed f zero (suc n) (z ∷ xs) x e = (x, e, inl refl)
get_changed f (suc i) zero (z ∷ xs) x e = (x, e, inl refl)
get_changed f (suc i) (suc n) (z ∷ xs) x e =
    let (y, at, how) = get_changed f i n xs x e in
    (y, at, elim how [ inl same ↦ inl same | inr (b, c) ↦ inr (grind (arith, b), c) ])

-- a word that does not concern a channel
channel_alone : (sounds : List SoundState) (port word : ℕ) (c : Channel) → (port == 0x300 || (port == 0x309 || (port == 0x30C || port == 0x30D))) ≡ false →
    channel_told sounds port word c ≡ c
unfolding channel_told
channel_alone sounds port word c e =
    let P : Channel → Type 0 = λ d. d ≡ c in
    let other : (port == 0x309 || (port == 0x30C || port == 0x30D)) ≡ false = or_right _ _ e in
    let last : (port == 0x30C || port == 0x30D) ≡ false = or_right _ _ other in
    if_kept P (port == 0x300) _ _ (λ t. absurd (not_both (port == 0x300) t (or_left _ _ e)))
    (if_kept P (port == 0x309) _ _ (λ t. absurd (not_both (port == 0x309) t (or_left _ _ other)))
    (if_kept P (port == 0x30C && nat_lt word 2) _ _ (λ t. absurd (not_both (port == 0x30C) (both_left _ _ t) (or_left _ _ last)))
    (if_kept P (port == 0x30D) _ _ (λ t. absurd (not_both (port == 0x30D) t (or_right _ _ last))) refl)))

channels_alone : (sounds : List SoundState) (selected port word n : ℕ) (channels : List Channel) (c : Channel) → concerns_channel n selected port word ≡ false →
    slice_get channels n ≡ Some c → slice_get (channels_told sounds selected port word channels) n ≡ Some c
unfolding channels_told
channels_alone sounds selected port word n channels c alone e =
    let P : List Channel → Type 0 = λ cs. slice_get cs n ≡ Some c in
    let (d, at, how) = get_changed (channel_told sounds port word) selected n channels c e in
    let same : d ≡ c = elim how [ inl same ↦ same | inr (chosen, f) ↦ f ∙ channel_alone sounds port word c (and_right _ _ (or_right _ _ alone) chosen) ] in
    if_kept P (length sounds == 0) _ _ (λ t. e)
    (if_kept P (port == 0x300 && is_for_all word) _ _ (λ t. absurd (not_both (port == 0x300 && is_for_all word) t (or_left _ _ alone)))
    (at ∙ ap Some same))

-- a word that does not concern the loop of a sound
record SameLoop (s t : SoundState) : Type 0 where
  samples : t.samples ≡ s.samples
  start : t.loop_start ≡ s.loop_start
  last : t.loop_end ≡ s.loop_end

same_loop : (s t u : SoundState) → SameLoop s t → SameLoop t u → SameLoop s u
same_loop s t u h k = record { samples = k.samples ∙ h.samples; start = k.start ∙ h.start; last = k.last ∙ h.last }

sound_alone : (port word : ℕ) (s : SoundState) → (port == 0x306 || port == 0x307) ≡ false → SameLoop s (sound_told port word s)
unfolding sound_told
sound_alone port word s e =
    let P : SoundState → Type 0 = SameLoop s in
    if_kept P (port == 0x305 && nat_lt word 2) _ _ (λ t. record { samples = refl; start = refl; last = refl })
    (if_kept P (port == 0x306 && nat_le word s.loop_end) _ _
    (λ t. absurd (not_both (port == 0x306) (both_left _ _ t) (or_left _ _ e)))
    (if_kept P (port == 0x307 && nat_le s.loop_start word && nat_lt word (length s.samples)) _ _
    (λ t. absurd (not_both (port == 0x307) (both_left _ _ (both_left _ _ t)) (or_right _ _ e)))
    (record { samples = refl; start = refl; last = refl })))

-- the assigned sound is there, with that loop
record IsThere (sounds : List SoundState) (o : Option ℕ) (s : SoundState) : Type 0 where
  sound : SoundState
  at : assigned sounds o ≡ Some sound
  same : SameLoop s sound

still_there : (sounds : List SoundState) (o : Option ℕ) (selected port word : ℕ) (s : SoundState) → concerns_loop o selected port ≡ false → IsThere sounds o s →
    IsThere (changed_at selected (sound_told port word) sounds) o s
still_there sounds None selected port word s alone h = let e : None ≡ Some h.sound = h.at in absurd cc
still_there sounds (Some n) selected port word s alone h =
    let (t, at, how) = get_changed (sound_told port word) selected n sounds h.sound h.at in
    let alike : SameLoop h.sound t = elim how [
      | inl same ↦ subst (SameLoop h.sound) (sym same) (record { samples = refl; start = refl; last = refl })
      | inr (chosen, f) ↦ subst (SameLoop h.sound) (sym f) (sound_alone port word h.sound (and_right _ _ alone chosen))
    ] in
    record { sound = t; at = at; same = same_loop s h.sound t h.same alike }

-- the position over a sound with the same loop
same_position : (s t : SoundState) (c : Channel) (k : ℕ) → SameLoop s t → position_in (Some t) c k ≡ position_in (Some s) c k
same_position s t c k h = rw (h.samples, h.start, h.last) refl

same_after : (sounds before : List SoundState) (s : SoundState) (c : Channel) (k : ℕ) → assigned before c.sound ≡ Some s → IsThere sounds c.sound s →
    channel_after sounds k c ≡ channel_after before k c
same_after sounds before s c k a h = rw (as_in sounds k c, as_in before k c, a, h.at, same_position s h.sound c k h.same) refl

same_channel_position : (sounds before : List SoundState) (s : SoundState) (c : Channel) (k : ℕ) → assigned before c.sound ≡ Some s → IsThere sounds c.sound s →
    channel_position sounds c k ≡ channel_position before c k
unfolding channel_position
same_channel_position sounds before s c k a h = rw (a, h.at, same_position s h.sound c k h.same) refl

-- no sample later
after_none : (sounds : List SoundState) (s : SoundState) (c : Channel) → HasLoop s → c.position < length s.samples → assigned sounds c.sound ≡ Some s → channel_after sounds 0 c ≡ c
after_none sounds s c l p a =
    rw (as_in sounds 0 c, a)
    (if_kept (λ d. d ≡ c) (is_playing c.state) (moved c (position_in (Some s) c 0)) c
    (λ _. rw (position_none c.looping s.loop_start s.loop_end (length s.samples) c.position l.ordered l.within p) refl) refl)

-- the closed form of a position
position_onward : (looping : Bool) (start last count p j : ℕ) → ¬ ((looping ≡ true) × (p ≤ last) × (last < p + j)) → p + j < count →
    position_after looping start last count p j ≡ Some (p + j)
position_onward false start last count p j n h = straight_on start last count p j h
position_onward true start last count p j n h = elim (cases_lt last p) [
  | inl beyond ↦ position_straight true start last count p j (inl beyond) h
  | inr upto ↦ elim (cases_lt last (p + j)) [
    | inl turned ↦ absurd (n (refl, upto, turned))
    | inr before ↦ position_straight true start last count p j (inr before) h
  ]
]

position_over : (looping : Bool) (start last count p j : ℕ) → last < count → ¬ ((looping ≡ true) × (p ≤ last) × (last < p + j)) → count ≤ p + j →
    position_after looping start last count p j ≡ None
position_over false start last count p j w n h = straight_past start last count p j h
position_over true start last count p j w n h = elim (cases_lt last p) [
  | inl beyond ↦ position_past start last count p j beyond h
  | inr upto ↦ absurd (n (refl, upto, omega arith))
]

is_position : (s : SoundState) (c : Channel) (j : ℕ) → HasLoop s → IsPosition s c j (position_in (Some s) c j)
is_position s c j l = record {
  in_loop = λ t. let e : c.looping ≡ true = t.0 in rw e (position_wrapped s.loop_start s.loop_end (length s.samples) c.position j t.1 t.2);
  onward = λ n h. position_onward c.looping s.loop_start s.loop_end (length s.samples) c.position j n h;
  over = λ n h. position_over c.looping s.loop_start s.loop_end (length s.samples) c.position j l.within n h;
}

is_later : (sounds : List SoundState) (s : SoundState) (c : Channel) (j : ℕ) → HasLoop s → assigned sounds c.sound ≡ Some s → IsLater s c j (channel_after sounds j c)
is_later sounds s c j l a = rw (as_in sounds j c, a) (record {
  resting = λ e. if_false (is_playing c.state) _ _ e;
  playing = λ e. (position_in (Some s) c j, is_position s c j l, if_true (is_playing c.state) _ _ e);
})

-- from a past on
module _ (sounds : List (List ℕ)) (past : List Happening) (number : ℕ) (c : Channel) (s : SoundState) (full : All (λ samples. 0 < length samples) sounds)
    (here : slice_get (channels_after sounds past) number ≡ Some c) (its : assigned (sounds_after sounds past) c.sound ≡ Some s) where
  abbrev before : List SoundState
  before = sounds_after sounds past

  loops : All HasLoop before
  loops = loops_within sounds past full

  within : HasPosition before c
  within = all_at (HasPosition before) (channels_after sounds past) number c (positions_within sounds past full) here

  there : (more : List Happening) → LeavesAlone sounds number c.sound past more → IsThere (sounds_after sounds (more ++ past)) c.sound s
  there [] h = record { sound = s; at = its; same = record { samples = refl; start = refl; last = refl } }
  there (Began ∷ more) h = there more h
  there (Asked port ∷ more) h = there more h
  there (Told port word ∷ more) h = still_there (sounds_after sounds (more ++ past)) c.sound (selected_sound sounds (more ++ past)) port word s h.1 (there more h.2)
  there (Mixed ∷ more) h = there more h

  there_moved : (more : List Happening) → LeavesAlone sounds number c.sound past more → (j : ℕ) → IsThere (sounds_after sounds (more ++ past)) (channel_after before j c).sound s
  there_moved more h j = rw (kept_sound before c j) (there more h)

  its_moved : (j : ℕ) → assigned before (channel_after before j c).sound ≡ Some s
  its_moved j = rw (kept_sound before c j) its

  later_at : (more : List Happening) → LeavesAlone sounds number c.sound past more →
      slice_get (channels_after sounds (more ++ past)) number ≡ Some (channel_after before (samples_in more) c)
  later_at [] h = here ∙ ap Some (sym (after_none before s c (assigned_loop before c.sound s loops its) (within s its) its))
  later_at (Began ∷ more) h = later_at more h
  later_at (Asked port ∷ more) h = later_at more h
  later_at (Told port word ∷ more) h =
      channels_alone (sounds_after sounds (more ++ past)) (selected_channel sounds (more ++ past)) port word number (channels_after sounds (more ++ past))
      (channel_after before (samples_in more) c) h.0 (later_at more h.2)
  later_at (Mixed ∷ more) h =
      let j : ℕ = samples_in more in
      let after : List SoundState = sounds_after sounds (more ++ past) in
      let same : channel_after after 735 (channel_after before j c) ≡ channel_after before 735 (channel_after before j c)
      = same_after after before s (channel_after before j c) 735 (its_moved j) (there_moved more h j) in
      slice_get-map (channel_after after 735) (channels_after sounds (more ++ past)) number
      ∙ ap (option_map (channel_after after 735)) (later_at more h)
      ∙ ap Some (same ∙ channel_twice before c j 735 loops within)

  sample_later : (more : List Happening) → LeavesAlone sounds number c.sound past more → (k : ℕ) →
      channel_position (sounds_after sounds (more ++ past)) (channel_after before (samples_in more) c) k ≡ channel_position before c (samples_in more + k)
  sample_later more h k =
      let j : ℕ = samples_in more in
      same_channel_position (sounds_after sounds (more ++ past)) before s (channel_after before j c) k (its_moved j) (there_moved more h j)
      ∙ position_twice before c j k loops within

  position_is : (k : ℕ) → is_playing c.state ≡ true → channel_position before c k ≡ position_in (Some s) c k
  unfolding channel_position
  position_is k e = rw (e, its) refl

  none_is : (k : ℕ) → is_playing c.state ≡ false → channel_position before c k ≡ None
  unfolding channel_position
  none_is k e = rw e refl

  stands_later : (more : List Happening) → LeavesAlone sounds number c.sound past more →
      StandsLater s c (samples_in more) (sounds_after sounds (more ++ past)) (channel_after before (samples_in more) c)
  stands_later more h =
      let loop : HasLoop s = assigned_loop before c.sound s loops its in
      let held = there_moved more h (samples_in more) in
      record {
        channel = is_later before s c (samples_in more) loop its;
        of_sound = ap samples_of held.at ∙ held.same.samples;
        no_sample = λ k e. sample_later more h k ∙ none_is (samples_in more + k) e;
        sample = λ k e. subst (IsPosition s c (samples_in more + k)) (sym (sample_later more h k ∙ position_is (samples_in more + k) e)) (is_position s c (samples_in more + k) loop);
      }

pub closed_form : SoundInClosedForm
closed_form sounds past more number c s full here its alone = (
  channel_after (sounds_after sounds past) (samples_in more) c,
  later_at sounds past number c s full here its more alone,
  stands_later sounds past number c s full here its more alone,
)
