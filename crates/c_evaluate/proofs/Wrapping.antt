-- Pointers that wrap, and the room beside the globals.
use Rattle.obj_mem.specs.declared.cell.Cell.{Cell}
use Rattle.obj_mem.specs.declared.cell.Cell.TheVariants.{Unwritten, Num, Ptr, Null}
use Rattle.obj_mem.specs.Queries.{further}
use Rattle.std.proofs.Common.{◌≡◌, ℕ, ◌+◌, ◌*◌, ◌/◌, ◌%◌, ◌^◌, add_assoc, ◌≤◌, leb, min, sym, ap, ◌∙◌, refl, arith, inl, inr}
use Rattle.std.proofs.lemmas.Bool.{cases_lt}
use Rattle.std.proofs.lemmas.Bool.Decides.{leb_tells}
use Rattle.std.proofs.Math.Nat.{min-eq_left, min-eq_right, add-mul-mod_self_right, mod-add-div'}

same_test : (a b c : ℕ) → (a ≤ c → b ≤ c) → (b ≤ c → a ≤ c) → leb a c ≡ leb b c
same_test a b c f g = elim (leb_tells a c) [
  | inl h ↦ elim (leb_tells b c) [
    | inl k ↦ h.0 ∙ sym k.0
    | inr k ↦ absurd (omega (arith, f h.1, k.1))
  ]
  | inr h ↦ elim (leb_tells b c) [
    | inl k ↦ absurd (omega (arith, g k.1, h.1))
    | inr k ↦ h.0 ∙ sym k.0
  ]
]

-- globals that are cut at a word's limit leave as little room as before
pub room_capped : (used frame total g : ℕ) → g ≡ min total 0xFFFFFFFF → leb (used + (frame + 2) + total) 4194304 ≡ leb (used + frame + 2 + g) 4194304
room_capped used frame total g e = elim (cases_lt 0xFFFFFFFF total) [
  | inl h ↦ let low : g ≡ 0xFFFFFFFF = e ∙ min-eq_right (omega (arith, h)) in same_test _ _ _ (λ k. absurd (omega (arith, k, h))) (λ k. absurd (omega (arith, k, low)))
  | inr h ↦ let same : g ≡ total = e ∙ min-eq_left h in same_test _ _ _ (λ k. omega (arith, k, same)) (λ k. omega (arith, k, same))
]

add-mod_second : (i w m : ℕ) → (i + w % m) % m ≡ (i + w) % m
add-mod_second i w m = sym (add-mul-mod_self_right (i + w % m) (w / m) m) ∙ ap (λ z. z % m) (add_assoc i (w % m) (w / m * m) ∙ ap (λ z. i + z) (mod-add-div' w m))

-- a pointer goes on by a number of words as by what is left of it in a word
pub far_on : (p : Cell) (words : ℕ) → further p (words % 2 ^ 32) ≡ further p words
far_on Unwritten words = refl
far_on (Num x) words = refl
far_on (Ptr o i) words = ap (Ptr o) (add-mod_second i words (2 ^ 32))
far_on Null words = refl
