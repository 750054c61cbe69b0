-- A command, done or left out.
use Rattle.std.proofs.Common.{◌≡◌, ℕ, ◌<◌, ◌≤◌, ◌+◌, ◌-◌, ◌*◌, ◌⊎◌, inl, inr, arith, refl, Bool, get_or, List, Some}
use Rattle.std.specs.Prelude.{if◌then◌else◌, ◌&&◌, nat_le, nat_lt}
use Rattle.std.proofs.lemmas.Bool.{cases_lt}
use Rattle.pix_lanes.specs.Pixels.{drawn}
use Rattle.gpu_state.specs.Colours.{texel, painted, after_command}
use Rattle.gpu_state.specs.Places.{count_below, place, texture_place}
use Rattle.gpu_state.specs.Commands.{Command, Draw, Drawing, cost, points_of, is_column, is_row, covers}
use Rattle.gpu_state.specs.Changes.{Does}
use Rattle.gpu_state.proofs.Counts.{count_below_span}

pub left_out : (r : Command) (left : ℕ) (screen : List ℕ) → left < cost r → Does (Some r) left screen left screen
left_out r left screen h = record { left_is = grind arith; screen_is = λ x y a b. grind arith }

pub done_now : (r : Command) (left left' : ℕ) (screen screen' : List ℕ) → cost r ≤ left → left' ≡ left - cost r →
    ((x y : ℕ) → x < 640 → y < 360 → get_or screen' (place x y) 0 ≡ after_command r x y (get_or screen (place x y) 0)) →
    Does (Some r) left screen left' screen'
done_now r left left' screen screen' le e h = record { left_is = grind arith; screen_is = λ x y a b. grind (arith, h x y a b) }

abbrev IsSpan : ℕ → ℕ → ℕ → (ℕ → Bool) → Type 0
IsSpan n from to p = (x : ℕ) → x < n → p x ≡ (nat_le from x && nat_lt x to)

count_whole : (n a b : ℕ) (p : ℕ → Bool) → a ≤ b → b ≤ n → IsSpan n a b p → count_below n p ≡ b - a
count_whole n a b p le within h = omega (arith, count_below_span n a b p le h)

pub points_are : (d : Drawing) (a b e f : ℕ) → a ≤ b → b ≤ 640 → e ≤ f → f ≤ 360 → IsSpan 640 a b (is_column d) → IsSpan 360 e f (is_row d) →
    points_of d ≡ (b - a) * (f - e)
unfolding points_of
points_are d a b e f le in_row le' in_column h k =
    rw (count_whole 640 a b (is_column d) le in_row h, count_whole 360 e f (is_row d) le' in_column k) refl

-- whether a pixel is in a rectangle
in_range : (a b e f x y p q : ℕ) → a ≤ x → x < b → e ≤ y → y < f → (if (nat_le a x && nat_lt x b) && (nat_le e y && nat_lt y f) then p else q) ≡ p
in_range a b e f x y p q h k l m = grind arith

out_of_columns : (a b e f x y p q : ℕ) → (x < a) ⊎ (b ≤ x) → (if (nat_le a x && nat_lt x b) && (nat_le e y && nat_lt y f) then p else q) ≡ q
out_of_columns a b e f x y p q h = grind arith

out_of_rows : (a b e f x y p q : ℕ) → (y < e) ⊎ (f ≤ y) → (if (nat_le a x && nat_lt x b) && (nat_le e y && nat_lt y f) then p else q) ≡ q
out_of_rows a b e f x y p q h = grind arith

rectangle : (a b e f x y p q now : ℕ) → (a ≤ x → x < b → e ≤ y → y < f → now ≡ p) → ((x < a) ⊎ (b ≤ x) → now ≡ q) → ((y < e) ⊎ (f ≤ y) → now ≡ q) →
    now ≡ (if (nat_le a x && nat_lt x b) && (nat_le e y && nat_lt y f) then p else q)
rectangle a b e f x y p q now inside beside above = elim (cases_lt x a) [
  | inl h ↦ rw (out_of_columns a b e f x y p q (inl h)) (beside (inl h))
  | inr h ↦ elim (cases_lt x b) [
    | inr k ↦ rw (out_of_columns a b e f x y p q (inr k)) (beside (inr k))
    | inl k ↦ elim (cases_lt y e) [
      | inl l ↦ rw (out_of_rows a b e f x y p q (inl l)) (above (inl l))
      | inr l ↦ elim (cases_lt y f) [
        | inr m ↦ rw (out_of_rows a b e f x y p q (inr m)) (above (inr m))
        | inl m ↦ rw (in_range a b e f x y p q h k l m) (inside h k l m)
      ]
    ]
  ]
]

pub pixel_after : (d : Drawing) (a b i e f j x y old now : ℕ) → is_column d x ≡ (nat_le a x && nat_lt x b) → is_row d y ≡ (nat_le e y && nat_lt y f) →
    (a ≤ x → x < b → texture_place d.x d.region.hotspot_x x ≡ i + (x - a)) → (e ≤ y → y < f → texture_place d.y d.region.hotspot_y y ≡ j + (y - e)) →
    (a ≤ x → x < b → e ≤ y → y < f → now ≡ drawn d.mode d.multiply (texel d.image (i + (x - a)) (j + (y - e))) old) →
    ((x < a) ⊎ (b ≤ x) → now ≡ old) → ((y < e) ⊎ (f ≤ y) → now ≡ old) → now ≡ after_command (Draw d) x y old
unfolding covers painted
pixel_after d a b i e f j x y old now column row u v inside beside above =
    rw (column, row) (rectangle a b e f x y _ old now (λ h k l m. rw (u h k, v l m) (inside h k l m)) beside above)
