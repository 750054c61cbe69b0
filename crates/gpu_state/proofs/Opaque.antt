-- The screen stays opaque.
use Rattle.std.proofs.Common.{◌≡◌, ℕ, ◌<◌, ◌≤◌, ◌/◌, ◌%◌, arith, refl, true, false, get_or, List, ◌++◌, take, drop, length, Option, Some, None, Fits, w32}
use Rattle.std.proofs.lemmas.List.{take_at}
use Rattle.std.specs.Prelude.{if◌then◌else◌, nat_le}
use Rattle.gpu_state.specs.Places.{place}
use Rattle.gpu_state.specs.Commands.{Command, Draw, Clear, Drawing, cost, covers}
use Rattle.gpu_state.specs.Colours.{painted, after_command}
use Rattle.gpu_state.specs.Changes.{Does, IsOpaque, after_asked}
use Rattle.gpu_state.proofs.Pixels.{drawn_opaque}

painted_opaque : (d : Drawing) (x y old : ℕ) → 4278190080 ≤ painted d x y old
unfolding painted
painted_opaque d x y old = drawn_opaque d.mode d.multiply _ old

record_opaque : (r : Command) (x y old : ℕ) → 4278190080 ≤ old → 4278190080 ≤ after_command r x y old
record_opaque (Clear c) x y old h = omega arith
record_opaque (Draw d) x y old h = elim (covers d x y) as (λ b. 4278190080 ≤ (if b then painted d x y old else old)) [ true ↦ painted_opaque d x y old | false ↦ h ]

asked_opaque : (a : Option Command) (left x y old : ℕ) → 4278190080 ≤ old → 4278190080 ≤ after_asked a left x y old
asked_opaque None left x y old h = h
asked_opaque (Some r) left x y old h =
    elim (nat_le (cost r) left) as (λ b. 4278190080 ≤ (if b then after_command r x y old else old)) [ true ↦ record_opaque r x y old h | false ↦ h ]

pub does_opaque : (a : Option Command) (left left' : ℕ) (s s' : List ℕ) → Does a left s left' s' →
    ((k : ℕ) → k < 230400 → IsOpaque (get_or s k 0)) → ((k : ℕ) → Fits w32 (get_or s' k 0)) → (k : ℕ) → k < 230400 → IsOpaque (get_or s' k 0)
does_opaque a left left' s s' does before fits k h =
    let at : place (k % 640) (k / 640) ≡ k = omega arith in
    let was : 4278190080 ≤ get_or s (place (k % 640) (k / 640)) 0 = rw at (before k h).0 in
    let now : 4278190080 ≤ get_or s' (place (k % 640) (k / 640)) 0 =
    rw (does.screen_is (k % 640) (k / 640) (omega arith) (omega arith)) (asked_opaque a left (k % 640) (k / 640) _ was) in
    (rw at at now, omega (arith, fits k))

pub whole_written : (xs ys : List ℕ) (n : ℕ) → length ys ≡ length xs → n ≡ length xs → take n (ys ++ drop (length ys) xs) ≡ ys
whole_written xs ys n h k = rw (take_at ys (drop (length ys) xs) n (omega arith)) refl
