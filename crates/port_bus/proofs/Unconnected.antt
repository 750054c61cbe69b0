-- The controls of a gamepad that is not connected.
use Rattle.std.proofs.Common.{◌≡◌, ◌≢◌, ℕ, zero, suc, ◌+◌, Bool, true, false, cond, ltb, List, [], ◌∷◌, refl, sym, ap, ◌∙◌, All}
use Rattle.std.proofs.lemmas.Bool.{and_parts, eqb-true, false_from_ne_true}
use Rattle.std.proofs.lemmas.List.Elements.{All-head, All-tail}
use Rattle.run_files.specs.declared.pads.PadEvent.{PadEvent}
use Rattle.run_files.specs.Script.{Script, IsEvent, IsScript, is_connected}
use Rattle.port_bus.specs.Controls.{concerns, after_events, events_before, is_down_in, downs_of, down_now, was_down, count_now, signed_count, control_word}

true_is_not_false : true ≢ false
true_is_not_false e = absurd cc

not_concerned : (connected pad control : ℕ) (e : PadEvent) → is_connected connected pad ≡ false → IsEvent connected e → concerns pad control e ≡ false
not_concerned connected pad control e apart event = false_from_ne_true _ (λ h.
    let same : e.pad ≡ pad = eqb-true e.pad pad (and_parts _ _ h).0 in
    true_is_not_false (sym event.pad ∙ ap (is_connected connected) same ∙ apart))

stays_up : (connected pad control n : ℕ) (es : List PadEvent) → is_connected connected pad ≡ false → All (IsEvent connected) es → after_events pad control false (events_before n es) ≡ false
stays_up connected pad control n [] apart events = refl
stays_up connected pad control n (e ∷ es) apart events =
    let P : PadEvent → Type 0 = IsEvent connected in
    let rest : after_events pad control false (events_before n es) ≡ false = stays_up connected pad control n es apart (All-tail P e es events) in
    let other : concerns pad control e ≡ false = not_concerned connected pad control e apart (All-head P e es events) in
    elim (ltb e.frame n) as (λ b. after_events pad control false (cond b (e ∷ events_before n es) (events_before n es)) ≡ false) [
      | true ↦ ap (λ (b : Bool). after_events pad control (cond b e.down false) (events_before n es)) other ∙ rest
      | false ↦ rest
    ]

-- up in each frame
abbrev AllUp : List Bool → Type 0
AllUp [] = Unit {0}
AllUp (b ∷ bs) = (b ≡ false) × AllUp bs

all_up : (s : Script) (n pad control : ℕ) → IsScript s → is_connected s.connected pad ≡ false → AllUp (downs_of s.events n pad control)
unfolding downs_of is_down_in
all_up s zero pad control is apart = tt
all_up s (suc n) pad control is apart = (stays_up s.connected pad control (n + 1) s.events apart is.events, all_up s n pad control is apart)

never_down : (bs : List Bool) → AllUp bs → was_down bs ≡ false
never_down [] up = refl
never_down (b ∷ bs) up = rw up.0 (never_down bs up.1)

counted_up : (bs : List Bool) → AllUp bs → signed_count (down_now bs) (count_now bs) ≡ 0xFFFF_F1F0
counted_up [] up = refl
counted_up (b ∷ bs) up = rw (up.0, never_down bs up.1) refl

pub stays_at_start : (s : Script) (n pad control : ℕ) → IsScript s → is_connected s.connected pad ≡ false → control_word s.events n pad control ≡ 0xFFFF_F1F0
unfolding control_word
stays_at_start s n pad control is apart = counted_up (downs_of s.events n pad control) (all_up s n pad control is apart)
