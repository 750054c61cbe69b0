-- The events of a script, one after another.
use Rattle.std.proofs.Common.{◌≡◌, ◌≢◌, ℕ, zero, suc, ◌+◌, ◌*◌, ◌<◌, ◌≤◌, arith, refl, Bool, true, false, cond, eqb, Option, Some, None, List, [], ◌∷◌, ◌++◌, take, set, length, get_or, get_or-set_same, inl, inr, ap, sym, ◌∙◌, slice_get, IfSome, add-one}
use Rattle.std.proofs.lemmas.Bool.{cases_eq, and_parts, and_from, eqb-true, eq-eqb, ltb-true, false_from_ne_true}
use Rattle.std.proofs.lemmas.Grind.{take_at_read, elements}
use Rattle.std.proofs.lemmas.Option.{slice_get_within, get_or_from_slice_get}
use Rattle.std.proofs.lemmas.List.Elements.{All-get_or}
use Rattle.std.proofs.Math.ListN.{length-set}
use Rattle.run_files.specs.declared.pads.PadEvent.{PadEvent}
use Rattle.run_files.specs.Script.{Script, IsScript, IsEvent, NeverFall, is_connected}
use Rattle.port_bus.specs.Controls.{concerns, after_events, events_before, is_down_in, downs_of, down_now}
use Rattle.port_bus.specs.inner.Kept.{place, PartsAt, AreDowns}

-- ---- what a script keeps, event by event

pad_of_four : (connected pad : ℕ) → is_connected connected pad ≡ true → pad ≤ 3
unfolding is_connected
pad_of_four connected pad h = let less : pad < 4 = ltb-true pad 4 (and_parts _ _ h).0 in omega arith

event_of : (s : Script) (i : ℕ) (e : PadEvent) → IsScript s → slice_get s.events i ≡ Some e → IsEvent s.connected e
event_of s i e is read =
    let P : PadEvent → Type 0 = IsEvent s.connected in
    let here : get_or s.events i e ≡ e = get_or_from_slice_get s.events i e e read in
    rw here at (All-get_or P s.events i e (slice_get_within s.events i e read) is.events)

-- the pad and the control of an event, where there is one
pub pad_in_range : (s : Script) (i : ℕ) (r : Option PadEvent) → IsScript s → r ≡ slice_get s.events i → IfSome r (λ e. e.pad ≤ 3)
pad_in_range s i None is read = tt
pad_in_range s i (Some e) is read = let event : IsEvent s.connected e = event_of s i e is (sym read) in pad_of_four s.connected e.pad event.pad

pub control_in_range : (s : Script) (i : ℕ) (r : Option PadEvent) → IsScript s → r ≡ slice_get s.events i → IfSome r (λ e. e.control ≤ 10)
control_in_range s i None is read = tt
control_in_range s i (Some e) is read = (event_of s i e is (sym read)).control

later : (frame : ℕ) (es : List PadEvent) (i : ℕ) (e : PadEvent) → NeverFall frame es → slice_get es i ≡ Some e → frame ≤ e.frame
later frame [] i e sorted read = absurd cc
later frame (x ∷ xs) zero e sorted read = let same : x ≡ e = cc in let ordered : frame ≤ x.frame = sorted.0 in omega (arith, ap (λ (y : PadEvent). y.frame) same)
later frame (x ∷ xs) (suc i) e sorted read = let rest : x.frame ≤ e.frame = later x.frame xs i e sorted.1 read in let ordered : frame ≤ x.frame = sorted.0 in omega arith

pub never_falls : (frame : ℕ) (es : List PadEvent) (i j : ℕ) (d e : PadEvent) → NeverFall frame es → i ≤ j → slice_get es i ≡ Some d → slice_get es j ≡ Some e → d.frame ≤ e.frame
never_falls frame [] i j d e sorted order first second = absurd cc
never_falls frame (x ∷ xs) zero zero d e sorted order first second = let same : d ≡ e = cc in omega (arith, ap (λ (y : PadEvent). y.frame) same)
never_falls frame (x ∷ xs) zero (suc j) d e sorted order first second =
    let same : x ≡ d = cc in let rest : x.frame ≤ e.frame = later x.frame xs j e sorted.1 second in omega (arith, ap (λ (y : PadEvent). y.frame) same)
never_falls frame (x ∷ xs) (suc i) zero d e sorted order first second = absurd (omega arith)
never_falls frame (x ∷ xs) (suc i) (suc j) d e sorted order first second = never_falls x.frame xs i j d e sorted.1 (omega arith) first second

-- ---- one event more

after_one : (pad control : ℕ) (down : Bool) (es : List PadEvent) (e : PadEvent) →
    after_events pad control down (es ++ e ∷ []) ≡ cond (concerns pad control e) e.down (after_events pad control down es)
after_one pad control down [] e = refl
after_one pad control down (x ∷ xs) e = after_one pad control (cond (concerns pad control x) x.down down) xs e

one_place : (p q c d : ℕ) → c ≤ 10 → d ≤ 10 → 11 * p + c ≡ 11 * q + d → (p ≡ q) × (c ≡ d)
one_place p q c d hc hd e = (omega arith, omega arith)

concerned : (pad control : ℕ) (e : PadEvent) → control ≤ 10 → e.control ≤ 10 → place e.pad e.control ≡ place pad control → concerns pad control e ≡ true
concerned pad control e hc he same =
    let parts = one_place e.pad pad e.control control he hc same in
    and_from (eqb e.pad pad) _ (eq-eqb e.pad pad parts.0) (eq-eqb e.control control parts.1)

not_concerned : (pad control : ℕ) (e : PadEvent) → place e.pad e.control ≢ place pad control → concerns pad control e ≡ false
not_concerned pad control e other = false_from_ne_true _ (λ h.
    let both : (eqb e.pad pad ≡ true) × (eqb e.control control ≡ true) = and_parts _ _ h in
    let p : e.pad ≡ pad = eqb-true _ _ both.0 in
    let c : e.control ≡ control = eqb-true _ _ both.1 in
    other (omega arith))

down_at : (es : List PadEvent) (at : ℕ) (e : PadEvent) (downs : List Bool) (pad control : ℕ) → slice_get es at ≡ Some e → e.control ≤ 10 → control ≤ 10 → place pad control < length downs →
    get_or downs (place pad control) false ≡ after_events pad control false (take at es) →
    get_or (set downs (place e.pad e.control) e.down) (place pad control) false ≡ after_events pad control false (take (at + 1) es)
down_at es at e downs pad control here he hc within was =
    let in_list : at < length es = slice_get_within es at e here in
    let read : get_or es at e ≡ e = get_or_from_slice_get es at e e here in
    let more : take (at + 1) es ≡ take at es ++ get_or es at e ∷ [] = (take_at_read es at e in_list).1 in
    rw (more, read, after_one pad control false (take at es) e) (elim (cases_eq (place e.pad e.control) (place pad control)) [
      | inl same ↦ rw (same, get_or-set_same, concerned pad control e hc he same) refl
      | inr other ↦ rw (not_concerned pad control e other) (grind (arith, elements, was, other))
    ])

pub downs_more : (es : List PadEvent) (at : ℕ) (e : PadEvent) (downs : List Bool) → slice_get es at ≡ Some e → e.control ≤ 10 → AreDowns es at downs
    → AreDowns es (at + 1) (set downs (place e.pad e.control) e.down)
downs_more es at e downs here he are = record {
  size = simp length-set are.size;
  at = λ pad control hp hc. down_at es at e downs pad control here he hc (let size = are.size in omega arith) (are.at pad control hp hc);
}

-- ---- the events before an index are those of the first frames

parted : (n index : ℕ) (es : List PadEvent) →
    ((i : ℕ) (e : PadEvent) → i < index → slice_get es i ≡ Some e → e.frame < n) →
    ((i : ℕ) (e : PadEvent) → index ≤ i → slice_get es i ≡ Some e → n ≤ e.frame) →
    take index es ≡ events_before n es
parted n zero [] before after = refl
parted n (suc index) [] before after = refl
parted n zero (e ∷ es) before after =
    let h : n ≤ e.frame = after 0 e (omega arith) refl in
    let rest : take 0 es ≡ events_before n es = parted n 0 es (λ i d k f. absurd (omega arith)) (λ i d k f. after (suc i) d (omega arith) f) in
    grind (arith, rest)
parted n (suc index) (e ∷ es) before after =
    let h : e.frame < n = before 0 e (omega arith) refl in
    let rest : take index es ≡ events_before n es = parted n index es (λ i d k f. before (suc i) d (omega arith) f) (λ i d k f. after (suc i) d (omega arith) f) in
    grind (arith, rest)

none_before : (es : List PadEvent) → events_before 0 es ≡ []
none_before [] = refl
none_before (e ∷ es) = let rest = none_before es in grind (arith, rest)

-- what the events below the index leave is how the control is in the last of the frames
pub down_is : (n index : ℕ) (es : List PadEvent) (pad control : ℕ) → PartsAt es n index → after_events pad control false (take index es) ≡ down_now (downs_of es n pad control)
unfolding downs_of is_down_in
down_is zero index es pad control parts = ap (after_events pad control false) (parted 0 index es parts.before parts.after ∙ none_before es)
down_is (suc n) index es pad control parts =
    ap (after_events pad control false) (parted (suc n) index es parts.before parts.after ∙ ap (λ (m : ℕ). events_before m es) (sym (add-one n)))

-- ---- where the events of a frame end

pub stopped : (s : Script) (frame next at : ℕ) (event : PadEvent) → IsScript s → PartsAt s.events frame next → next ≤ at → at ≤ length s.events
    → ((i : ℕ) (e : PadEvent) → i < at → slice_get s.events i ≡ Some e → e.frame < frame + 1)
    → slice_get s.events at ≡ Some event → event.frame ≢ frame → PartsAt s.events (frame + 1) at
stopped s frame next at event is parts further within before here other =
    let least : frame ≤ event.frame = parts.after at event further here in
    record {
      within = within;
      before = before;
      after = λ i e h g. let order : event.frame ≤ e.frame = never_falls 0 s.events at i event e is.order h here g in omega arith;
    }

past_last : (es : List PadEvent) (at i : ℕ) (e : PadEvent) → slice_get es at ≡ None → at ≤ i → slice_get es i ≡ Some e → ⊥
past_last [] at i e none h read = absurd cc
past_last (x ∷ xs) zero i e none h read = absurd cc
past_last (x ∷ xs) (suc at) zero e none h read = absurd (omega arith)
past_last (x ∷ xs) (suc at) (suc i) e none h read = past_last xs at i e none (omega arith) read

pub ended : (s : Script) (frame at : ℕ) → at ≤ length s.events → ((i : ℕ) (e : PadEvent) → i < at → slice_get s.events i ≡ Some e → e.frame < frame + 1)
    → slice_get s.events at ≡ None → PartsAt s.events (frame + 1) at
ended s frame at within before none = record { within = within; before = before; after = λ i e h g. absurd (past_last s.events at i e none h g) }
