-- Places along one side, in whole numbers with sign.
use Rattle.std.proofs.Common.{◌≡◌, ◌↔◌, ℕ, suc, ◌+◌, ◌-◌, ◌<◌, ◌≤◌, arith, ℤ, pos, negsuc, ◌+ℤ◌, ◌-ℤ◌, to_z, w32, inl, inr}
use Rattle.std.proofs.lemmas.Bool.{cases_lt}
use Rattle.std.proofs.lemmas.Int.{ints, to_z_pos}
use Rattle.gpu_state.specs.Places.{raised}

to_z_negative : (n : ℕ) → 2147483648 ≤ n → to_z w32 n ≡ negsuc (4294967296 - suc n)
to_z_negative n h = grind arith

raised_is : (n : ℕ) → n < 4294967296 → to_z w32 n +ℤ pos 2147483648 ≡ pos (raised n)
raised_is n h = elim (cases_lt n 2147483648) [
  | inl low ↦ rw (to_z_pos w32 n low) (omega (arith, ints))
  | inr high ↦ rw (to_z_negative n high) (omega (arith, ints))
]

signs_cancel : (x u p h : ℕ) (a b : ℤ) → a +ℤ pos 2147483648 ≡ pos p → b +ℤ pos 2147483648 ≡ pos h →
    (pos x ≡ (a +ℤ pos u) -ℤ b) ↔ (x + h ≡ p + u)
signs_cancel x u p h a b e f = (λ g. omega (arith, ints), λ g. omega (arith, ints))

pub place_is_sum : (point hotspot u x : ℕ) → point < 4294967296 → hotspot < 4294967296 →
    (pos x ≡ (to_z w32 point +ℤ pos u) -ℤ to_z w32 hotspot) ↔ (x + raised hotspot ≡ raised point + u)
place_is_sum point hotspot u x h k =
    signs_cancel x u (raised point) (raised hotspot) (to_z w32 point) (to_z w32 hotspot) (raised_is point h) (raised_is hotspot k)
