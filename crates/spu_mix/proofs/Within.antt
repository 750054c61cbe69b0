-- Loops and positions lie in their sounds, whatever happened.
use Rattle.std.proofs.Common.{◌≡◌, ℕ, zero, suc, ◌<◌, ◌≤◌, arith, refl, sym, ap, subst, ◌∙◌, Bool, true, false, Option, Some, None, List, [], ◌∷◌, length}
use Rattle.std.specs.Prelude.{All, map, slice_get, ◌==◌, ◌&&◌, nat_lt, nat_le, if◌then◌else◌}
use Rattle.std.proofs.lemmas.List.Elements.{All-nil, All-cons, All-head, All-tail, All-replicate, All-map, All-weaker}
use Rattle.std.proofs.lemmas.Option.{same_Some, slice_get_within, get_or_from_slice_get}
use Rattle.port_history.specs.Past.{Happening, Began, Asked, Told, Mixed}
use Rattle.spu_mix.specs.Positions.{position_after}
use Rattle.spu_mix.specs.Sounds.{SoundState, HasLoop, first_sound, sound_told}
use Rattle.spu_mix.specs.Channels.{HasPosition, assigned, first_channel, changed_at, channels_told, channel_told, commanded, commanded_all, is_for_all, play, play_from, start_over, pause, pause_from, resume, resume_from, stop, assign, assign_from, place, place_in}
use Rattle.spu_mix.specs.Mixing.{channel_after, channel_position, position_in, moved, is_playing}
use Rattle.spu_mix.specs.Settings.{selected_sound, selected_channel, sounds_after, channels_after}
use Rattle.spu_mix.specs.declared.channel.Channel.{Channel}
use Rattle.spu_mix.specs.declared.channel.ChannelState.{ChannelState}
use Rattle.spu_mix.specs.declared.channel.ChannelState.TheVariants.{Stopped, Paused, Playing}
use Rattle.spu_mix.proofs.Positions.{position_small}

-- one element changed keeps what holds of all, where the change keeps it
pub all_changed : {X : Type 0} (P : X → Type 0) (f : X → X) → ((x : X) → P x → P (f x)) → (i : ℕ) (xs : List X) → All P xs → All P (changed_at i f xs)
unfolding changed_at
all_changed P f keeps i [] h = All-nil P
all_changed P f keeps zero (x ∷ xs) h = All-cons P (f x) xs (keeps x (All-head P x xs h)) (All-tail P x xs h)
all_changed P f keeps (suc i) (x ∷ xs) h = All-cons P x (changed_at i f xs) (All-head P x xs h) (all_changed P f keeps i xs (All-tail P x xs h))

pub all_mapped : {X : Type 0} (P : X → Type 0) (f : X → X) → ((x : X) → P x → P (f x)) → (xs : List X) → All P xs → All P (map f xs)
all_mapped P f keeps xs h = All-map P f xs (All-weaker P (λ x. P (f x)) keeps xs h)

-- a choice keeps what both of its parts keep
pub if_kept : {X : Type 0} (P : X → Type 0) (b : Bool) (x y : X) → (b ≡ true → P x) → P y → P (if b then x else y)
if_kept P true x y f g = f refl
if_kept P false x y f g = g

pub both_right : (a b : Bool) → (a && b) ≡ true → b ≡ true
both_right true b e = e
both_right false b e = absurd cc

pub both_left : (a b : Bool) → (a && b) ≡ true → a ≡ true
both_left true b e = refl
both_left false b e = absurd cc

pub is_below : (m n : ℕ) → nat_lt m n ≡ true → m < n
is_below m n e = grind (arith, e)

is_upto : (m n : ℕ) → nat_le m n ≡ true → m ≤ n
is_upto m n e = grind (arith, e)

pub all_at : {X : Type 0} (P : X → Type 0) (xs : List X) (i : ℕ) (x : X) → All P xs → slice_get xs i ≡ Some x → P x
all_at P xs i x h e = subst P (get_or_from_slice_get xs i x x e) (h i x (slice_get_within xs i x e))

-- a word to the selected sound keeps its loop within it, and its samples
told_loop : (port word : ℕ) (s : SoundState) → HasLoop s → HasLoop (sound_told port word s)
unfolding sound_told
told_loop port word s h =
    if_kept HasLoop (port == 0x305 && nat_lt word 2) _ _ (λ _. record { ordered = h.ordered; within = h.within })
    (if_kept HasLoop (port == 0x306 && nat_le word s.loop_end) _ _
    (λ e. record { ordered = is_upto word s.loop_end (both_right _ _ e); within = h.within })
    (if_kept HasLoop (port == 0x307 && nat_le s.loop_start word && nat_lt word (length s.samples)) _ _
    (λ e. record { ordered = is_upto s.loop_start word (both_right _ _ (both_left _ _ e)); within = is_below word (length s.samples) (both_right _ _ e) }) h))

told_samples : (port word : ℕ) (s : SoundState) → (sound_told port word s).samples ≡ s.samples
unfolding sound_told
told_samples port word s =
    let P : SoundState → Type 0 = λ t. t.samples ≡ s.samples in
    if_kept P (port == 0x305 && nat_lt word 2) _ _ (λ _. refl)
    (if_kept P (port == 0x306 && nat_le word s.loop_end) _ _ (λ _. refl)
    (if_kept P (port == 0x307 && nat_le s.loop_start word && nat_lt word (length s.samples)) _ _ (λ _. refl) refl))

first_loop : (samples : List ℕ) → 0 < length samples → HasLoop (first_sound samples)
first_loop samples h = record { ordered = omega arith; within = omega arith }

pub loops_within : (sounds : List (List ℕ)) (past : List Happening) → All (λ s. 0 < length s) sounds → All HasLoop (sounds_after sounds past)
loops_within sounds [] h = All-map HasLoop first_sound sounds (All-weaker (λ s. 0 < length s) (λ s. HasLoop (first_sound s)) first_loop sounds h)
loops_within sounds (Began ∷ past) h = loops_within sounds past h
loops_within sounds (Asked port ∷ past) h = loops_within sounds past h
loops_within sounds (Told port word ∷ past) h =
    all_changed HasLoop (sound_told port word) (told_loop port word) (selected_sound sounds past) (sounds_after sounds past) (loops_within sounds past h)
loops_within sounds (Mixed ∷ past) h = loops_within sounds past h

-- where a sound was changed, it had as many samples before
changed_keeps : {X Y : Type 0} (g : X → Y) (f : X → X) → ((x : X) → g (f x) ≡ g x) → (i k : ℕ) (xs : List X) (y : X) →
    slice_get (changed_at i f xs) k ≡ Some y → (x : X) × (slice_get xs k ≡ Some x) × (g y ≡ g x)
unfolding changed_at
changed_keeps g f same i k [] y e = absurd cc
changed_keeps g f same zero zero (x ∷ xs) y e = (x, refl, ap g (sym (same_Some (f x) y e)) ∙ same x)
changed_keeps g f same zero (suc k) (x ∷ xs) y e = (y, e, refl)
changed_keeps g f same (suc i) zero (x ∷ xs) y e = (y, e, refl)
changed_keeps g f same (suc i) (suc k) (x ∷ xs) y e = changed_keeps g f same i k xs y e

-- so a position stays within its sound
still_assigned : (port word i : ℕ) (sounds : List SoundState) (n : Option ℕ) (p : ℕ) →
    ((s : SoundState) → assigned sounds n ≡ Some s → p < length s.samples) →
    (t : SoundState) → assigned (changed_at i (sound_told port word) sounds) n ≡ Some t → p < length t.samples
still_assigned port word i sounds None p h t e = absurd cc
still_assigned port word i sounds (Some n) p h t e =
    let (s, f, g) = changed_keeps (λ (s : SoundState). s.samples) (sound_told port word) (told_samples port word) i n sounds t e in
    rw g (h s f)

-- the commands
start_kept : (sounds : List SoundState) (o : Option SoundState) (c : Channel) → HasPosition sounds c → HasPosition sounds (start_over o c)
start_kept sounds None c h = h
start_kept sounds (Some s) c h = λ t e. let p : c.position < length t.samples = h t e in omega arith

play_kept : (sounds : List SoundState) (o : Option SoundState) (state : ChannelState) (c : Channel) → HasPosition sounds c → HasPosition sounds (play_from state o c)
play_kept sounds o Stopped c h = start_kept sounds o c h
play_kept sounds o Paused c h = h
play_kept sounds o Playing c h = start_kept sounds o c h

pause_kept : (sounds : List SoundState) (state : ChannelState) (c : Channel) → HasPosition sounds c → HasPosition sounds (pause_from state c)
pause_kept sounds Stopped c h = h
pause_kept sounds Paused c h = h
pause_kept sounds Playing c h = h

resume_kept : (sounds : List SoundState) (state : ChannelState) (c : Channel) → HasPosition sounds c → HasPosition sounds (resume_from state c)
resume_kept sounds Stopped c h = h
resume_kept sounds Paused c h = h
resume_kept sounds Playing c h = h

stop_kept : (sounds : List SoundState) (c : Channel) → HasPosition sounds c → HasPosition sounds (stop c)
unfolding stop
stop_kept sounds c h = λ t e. let p : c.position < length t.samples = h t e in omega arith

one_kept : (sounds : List SoundState) (word : ℕ) (c : Channel) → HasPosition sounds c → HasPosition sounds (commanded sounds word c)
unfolding commanded play pause
one_kept sounds word c h =
    let P : Channel → Type 0 = HasPosition sounds in
    if_kept P (word == 0x30) _ _ (λ _. play_kept sounds (assigned sounds c.sound) c.state c h)
    (if_kept P (word == 0x31) _ _ (λ _. pause_kept sounds c.state c h) (if_kept P (word == 0x32) _ _ (λ _. stop_kept sounds c h) h))

each_kept : (sounds : List SoundState) (word : ℕ) (c : Channel) → HasPosition sounds c → HasPosition sounds (commanded_all word c)
unfolding commanded_all pause resume
each_kept sounds word c h =
    let P : Channel → Type 0 = HasPosition sounds in
    if_kept P (word == 0x33) _ _ (λ _. pause_kept sounds c.state c h)
    (if_kept P (word == 0x34) _ _ (λ _. resume_kept sounds c.state c h) (if_kept P (word == 0x35) _ _ (λ _. stop_kept sounds c h) h))

-- another sound, another position
assign_kept : (sounds : List SoundState) (word : ℕ) (state : ChannelState) (c : Channel) → All HasLoop sounds → HasPosition sounds c →
    HasPosition sounds (assign_from state sounds word c)
assign_kept sounds word Stopped c l h =
    if_kept (HasPosition sounds) (nat_lt word (length sounds)) _ _
    (λ _ t e. let w : t.loop_end < length t.samples = (all_at HasLoop sounds word t l e).within in omega arith) h
assign_kept sounds word Paused c l h = h
assign_kept sounds word Playing c l h = h

place_kept : (sounds : List SoundState) (word : ℕ) (o : Option SoundState) (c : Channel) → assigned sounds c.sound ≡ o → HasPosition sounds c →
    HasPosition sounds (place_in o word c)
place_kept sounds word None c o h = h
place_kept sounds word (Some s) c o h =
    if_kept (HasPosition sounds) (nat_lt word (length s.samples)) _ _
    (λ b t e. let same : s ≡ t = same_Some s t (sym o ∙ e) in subst (λ (u : SoundState). word < length u.samples) same (is_below word (length s.samples) b)) h

told_kept : (sounds : List SoundState) (port word : ℕ) (c : Channel) → All HasLoop sounds → HasPosition sounds c → HasPosition sounds (channel_told sounds port word c)
unfolding channel_told assign place
told_kept sounds port word c l h =
    let P : Channel → Type 0 = HasPosition sounds in
    if_kept P (port == 0x300) _ _ (λ _. one_kept sounds word c h)
    (if_kept P (port == 0x309) _ _ (λ _. assign_kept sounds word c.state c l h)
    (if_kept P (port == 0x30C && nat_lt word 2) _ _ (λ _. h)
    (if_kept P (port == 0x30D) _ _ (λ _. place_kept sounds word (assigned sounds c.sound) c refl h) h)))

all_told : (sounds : List SoundState) (selected port word : ℕ) (channels : List Channel) → All HasLoop sounds → All (HasPosition sounds) channels →
    All (HasPosition sounds) (channels_told sounds selected port word channels)
unfolding channels_told
all_told sounds selected port word channels l h =
    let P : List Channel → Type 0 = All (HasPosition sounds) in
    if_kept P (length sounds == 0) _ _ (λ _. h)
    (if_kept P (port == 0x300 && is_for_all word) _ _
    (λ _. all_mapped (HasPosition sounds) (commanded_all word) (each_kept sounds word) channels h)
    (all_changed (HasPosition sounds) (channel_told sounds port word) (λ c k. told_kept sounds port word c l k) selected channels h))

-- a channel through k samples, by its sound
abbrev pub after_in : Option SoundState → Channel → ℕ → Channel
after_in o c k = if is_playing c.state then moved c (position_in o c k) else c

pub as_in : (sounds : List SoundState) (k : ℕ) (c : Channel) → channel_after sounds k c ≡ after_in (assigned sounds c.sound) c k
unfolding channel_after channel_position
as_in sounds k c = elim (is_playing c.state) as (λ b. (if b then moved c (if b then position_in (assigned sounds c.sound) c k else None) else c)
    ≡ (if b then moved c (position_in (assigned sounds c.sound) c k) else c)) [
      | true ↦ refl
      | false ↦ refl
    ]

moved_kept : (sounds : List SoundState) (c : Channel) (o : Option ℕ) → ((q : ℕ) → o ≡ Some q → HasPosition sounds (record c { position = q })) →
    HasPosition sounds c → HasPosition sounds (moved c o)
moved_kept sounds c None f h = λ t e. let p : c.position < length t.samples = h t e in omega arith
moved_kept sounds c (Some q) f h = f q refl

after_kept_in : (sounds : List SoundState) (k : ℕ) (c : Channel) (o : Option SoundState) → All HasLoop sounds → assigned sounds c.sound ≡ o →
    ((s : SoundState) → assigned sounds c.sound ≡ Some s → HasLoop s) → HasPosition sounds c → HasPosition sounds (after_in o c k)
after_kept_in sounds k c None l o w h = if_kept (HasPosition sounds) (is_playing c.state) _ _ (λ _. moved_kept sounds c None (λ q e. absurd cc) h) h
after_kept_in sounds k c (Some s) l o w h =
    if_kept (HasPosition sounds) (is_playing c.state) _ _
    (λ _. moved_kept sounds c (position_after c.looping s.loop_start s.loop_end (length s.samples) c.position k)
    (λ q e t a.
    let same : s ≡ t = same_Some s t (sym o ∙ a) in
    let loop : HasLoop s = w s o in
    subst (λ (u : SoundState). q < length u.samples) same
    (position_small c.looping s.loop_start s.loop_end (length s.samples) c.position k q loop.ordered loop.within e)) h) h

pub assigned_loop : (sounds : List SoundState) (n : Option ℕ) (s : SoundState) → All HasLoop sounds → assigned sounds n ≡ Some s → HasLoop s
assigned_loop sounds None s l e = absurd cc
assigned_loop sounds (Some n) s l e = all_at HasLoop sounds n s l e

pub after_kept : (sounds : List SoundState) (k : ℕ) (c : Channel) → All HasLoop sounds → HasPosition sounds c → HasPosition sounds (channel_after sounds k c)
after_kept sounds k c l h =
    subst (HasPosition sounds) (sym (as_in sounds k c))
    (after_kept_in sounds k c (assigned sounds c.sound) l refl (λ s e. assigned_loop sounds c.sound s l e) h)

pub positions_within : (sounds : List (List ℕ)) (past : List Happening) → All (λ s. 0 < length s) sounds →
    All (HasPosition (sounds_after sounds past)) (channels_after sounds past)
positions_within sounds [] h = All-replicate (HasPosition (sounds_after sounds [])) 16 first_channel (λ s e. absurd cc)
positions_within sounds (Began ∷ past) h = positions_within sounds past h
positions_within sounds (Asked port ∷ past) h = positions_within sounds past h
positions_within sounds (Told port word ∷ past) h =
    let before : List SoundState = sounds_after sounds past in
    let channels : List Channel = channels_told before (selected_channel sounds past) port word (channels_after sounds past) in
    All-weaker (HasPosition before) (HasPosition (changed_at (selected_sound sounds past) (sound_told port word) before))
    (λ c k. still_assigned port word (selected_sound sounds past) before c.sound c.position k) channels
    (all_told before (selected_channel sounds past) port word (channels_after sounds past) (loops_within sounds past h) (positions_within sounds past h))
positions_within sounds (Mixed ∷ past) h =
    let before : List SoundState = sounds_after sounds past in
    all_mapped (HasPosition before) (channel_after before 735) (λ c k. after_kept before 735 c (loops_within sounds past h) k)
    (channels_after sounds past) (positions_within sounds past h)
