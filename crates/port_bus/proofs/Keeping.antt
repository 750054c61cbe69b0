-- What the devices keep, from the first frame on.
use Rattle.std.proofs.Common.{◌≡◌, ℕ, ◌+◌, ◌<◌, ◌≤◌, arith, refl, Bool, false, List, [], ◌∷◌, take, length, get_or, replicate, slice_index, slice_index_or, sym, ap, ◌∙◌, add-one}
use Rattle.std.proofs.lemmas.List.{length-replicate, get_or-replicate}
use Rattle.run_files.specs.declared.pads.PadEvent.{PadEvent}
use Rattle.port_bus.specs.Controls.{after_events, is_down_in, downs_of, down_now, count_now, signed_count, control_word}
use Rattle.port_bus.specs.inner.Kept.{place, PartsAt, AreDowns, IsKept}
use Rattle.port_bus.proofs.Applying.{down_is}

none_taken : (es : List PadEvent) → take 0 es ≡ []
none_taken [] = refl
none_taken (e ∷ es) = refl

downs_opened : (es : List PadEvent) (pad control : ℕ) → pad ≤ 3 → control ≤ 10 → get_or (replicate 44 false) (place pad control) false ≡ after_events pad control false (take 0 es)
downs_opened es pad control hp hc = get_or-replicate 44 (place pad control) false false (omega arith) ∙ ap (after_events pad control false) (sym (none_taken es))

counts_opened : (es : List PadEvent) (pad control : ℕ) → pad ≤ 3 → control ≤ 10 → get_or (replicate 44 3600) (place pad control) 0 ≡ count_now (downs_of es 0 pad control)
unfolding downs_of
counts_opened es pad control hp hc = get_or-replicate 44 (place pad control) 3600 0 (omega arith)

pub opened : (es : List PadEvent) → IsKept es 0 0 0 (replicate 44 false) (replicate 44 3600)
opened es = record {
  selected = omega arith;
  parts = record { within = omega arith; before = λ i e h g. absurd (omega arith); after = λ i e h g. omega arith };
  downs_are = record { size = length-replicate {A = Bool} 44 false; at = downs_opened es };
  counts_are = record { size = length-replicate {A = ℕ} 44 3600; at = counts_opened es };
}

-- ---- a frame

abbrev Counted : List Bool → List Bool → List ℕ → List ℕ → Type 0
Counted before now old new = (k : ℕ) (past : List Bool) → k < 44 → slice_index_or before k false ≡ down_now past → slice_index old k ≡ count_now past
    → slice_index new k ≡ count_now (slice_index_or now k false ∷ past)

pub a_frame_more : (es : List PadEvent) (n pad control : ℕ) → downs_of es (n + 1) pad control ≡ is_down_in es n pad control ∷ downs_of es n pad control
unfolding downs_of
a_frame_more es n pad control = rw add-one refl

count_at : (es : List PadEvent) (n pad control : ℕ) (down : Bool) (count : ℕ) → down ≡ down_now (downs_of es (n + 1) pad control) → count ≡ count_now (down ∷ downs_of es n pad control)
    → count ≡ count_now (downs_of es (n + 1) pad control)
count_at es n pad control down count is e =
    let more = a_frame_more es n pad control in
    let same : down ≡ is_down_in es n pad control = is ∙ ap down_now more in
    e ∙ ap (λ (b : Bool). count_now (b ∷ downs_of es n pad control)) same ∙ ap count_now (sym more)

pub frame_begun : (es : List PadEvent) (n index next pad : ℕ) (downs now : List Bool) (counts new : List ℕ) → IsKept es n index pad downs counts
    → PartsAt es (n + 1) next → AreDowns es next now → length new ≡ 44 → Counted downs now counts new → IsKept es (n + 1) next pad now new
frame_begun es n index next pad downs now counts new kept parts are size counted = record {
  selected = kept.selected;
  parts = parts;
  downs_are = are;
  counts_are = record {
    size = size;
    at = λ p c hp hc. count_at es n p c (get_or now (place p c) false) (get_or new (place p c) 0) (are.at p c hp hc ∙ down_is (n + 1) next es p c parts)
        (counted (place p c) (downs_of es n p c) (omega arith) (kept.downs_are.at p c hp hc ∙ down_is n index es p c kept.parts) (kept.counts_are.at p c hp hc));
  };
}

-- ---- the word of a control

pub word_is : (es : List PadEvent) (n index pad control : ℕ) (downs : List Bool) (counts : List ℕ) → IsKept es n index pad downs counts → control ≤ 10
    → signed_count (get_or downs (place pad control) false) (get_or counts (place pad control) 0) ≡ control_word es n pad control
unfolding control_word
word_is es n index pad control downs counts kept h =
    let down : get_or downs (place pad control) false ≡ down_now (downs_of es n pad control) = kept.downs_are.at pad control kept.selected h ∙ down_is n index es pad control kept.parts in
    let count : get_or counts (place pad control) 0 ≡ count_now (downs_of es n pad control) = kept.counts_are.at pad control kept.selected h in
    ap (λ (b : Bool). signed_count b (get_or counts (place pad control) 0)) down ∙ ap (signed_count (down_now (downs_of es n pad control))) count
