-- The counts of a control against the rule of a frame.
use Rattle.std.proofs.Common.{◌≡◌, ℕ, ◌+◌, ◌-◌, ◌<◌, ◌≤◌, min, Bool, true, false, cond, ltb, List, [], ◌∷◌, refl, sym, ap, ◌∙◌, arith}
use Rattle.std.proofs.lemmas.Bool.{and_from, and_parts, lt-ltb, le-leb, ltb-true, leb-true, false_from_ne_true}
use Rattle.run_files.specs.declared.pads.PadEvent.{PadEvent}
use Rattle.port_bus.specs.Controls.{run_before, was_down, down_now, count_now, signed_count, is_down_in, downs_of, control_word}
use Rattle.port_bus.specs.FrameRule.{minus, is_positive, is_negative, value_after, FollowsRule}
use Rattle.port_bus.proofs.Keeping.{a_frame_more}

-- ---- the rule on a count

more_down : (count : ℕ) → 1 ≤ count → count ≤ 3600 → value_after true count ≡ min (count + 1) 3600
unfolding value_after
more_down count some few =
    let positive : is_positive count ≡ true = and_from (ltb 0 count) _ (lt-ltb 0 count (omega arith)) (lt-ltb count 0x8000_0000 (omega arith)) in
    rw positive refl

from_up : (count : ℕ) → count ≤ 3600 → value_after true (minus count) ≡ 1
unfolding value_after
from_up count few =
    let other : is_positive (minus count) ≡ false = false_from_ne_true _ (λ h.
    let both : (ltb 0 (minus count) ≡ true) × (ltb (minus count) 0x8000_0000 ≡ true) = and_parts _ _ h in
    let less : minus count < 0x8000_0000 = ltb-true (minus count) 0x8000_0000 both.1 in
    absurd (omega arith)) in
    rw other refl

more_up : (count : ℕ) → count ≤ 3600 → value_after false (minus count) ≡ minus (min (count + 1) 3600)
unfolding value_after
more_up count few =
    let negative : is_negative (minus count) ≡ true = le-leb 0x8000_0000 (minus count) (omega arith) in
    let magnitude : 4294967296 - (4294967296 - count) ≡ count = omega arith in
    rw (negative, magnitude) refl

from_down : (count : ℕ) → count ≤ 3600 → value_after false count ≡ minus 1
unfolding value_after
from_down count few =
    let other : is_negative count ≡ false = false_from_ne_true _ (λ h. let least : 0x8000_0000 ≤ count = leb-true 0x8000_0000 count h in absurd (omega arith)) in
    rw other refl

-- ---- the rule on the frames so far

abbrev word_of : List Bool → ℕ
word_of downs = signed_count (down_now downs) (count_now downs)

capped : (r : ℕ) → (1 ≤ min 3600 (1 + r)) × (min 3600 (1 + r) ≤ 3600)
capped r = (omega arith, omega arith)

still_up : (was : Bool) (r : ℕ) → minus (cond was (min 3600 (1 + (1 + r))) 3600) ≡ value_after false (minus (cond was (min 3600 (1 + r)) 3600))
still_up true r =
    let c = capped r in
    let next : min 3600 (1 + (1 + r)) ≡ min (min 3600 (1 + r) + 1) 3600 = omega arith in
    ap minus next ∙ sym (more_up (min 3600 (1 + r)) c.1)
still_up false r = sym (more_up 3600 (omega arith))

few_up : (was : Bool) (r : ℕ) → cond was (min 3600 (1 + r)) 3600 ≤ 3600
few_up true r = omega arith
few_up false r = omega arith

ruled : (now : Bool) (before : List Bool) → word_of (now ∷ before) ≡ value_after now (word_of before)
ruled true [] = sym (from_up 3600 (omega arith))
ruled false [] = sym (more_up 3600 (omega arith))
ruled true (true ∷ bs) =
    let c = capped (run_before true bs) in
    let next : min 3600 (1 + (1 + run_before true bs)) ≡ min (min 3600 (1 + run_before true bs) + 1) 3600 = omega arith in
    next ∙ sym (more_down (min 3600 (1 + run_before true bs)) c.0 c.1)
ruled true (false ∷ bs) = sym (from_up (count_now (false ∷ bs)) (few_up (was_down bs) (run_before false bs)))
ruled false (true ∷ bs) = let c = capped (run_before true bs) in sym (from_down (min 3600 (1 + run_before true bs)) c.1)
ruled false (false ∷ bs) = still_up (was_down bs) (run_before false bs)

starts : (es : List PadEvent) (pad control : ℕ) → control_word es 0 pad control ≡ minus 3600
unfolding control_word downs_of
starts es pad control = refl

goes : (es : List PadEvent) (n pad control : ℕ) → control_word es (n + 1) pad control ≡ value_after (is_down_in es n pad control) (control_word es n pad control)
unfolding control_word
goes es n pad control = ap word_of (a_frame_more es n pad control) ∙ ruled (is_down_in es n pad control) (downs_of es n pad control)

pub follows : (es : List PadEvent) (pad control : ℕ) → FollowsRule es pad control
follows es pad control = record { start = starts es pad control; frame = λ n. goes es n pad control }
