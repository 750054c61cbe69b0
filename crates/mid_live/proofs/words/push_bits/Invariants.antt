use Rattle.std.proofs.Common.{◌-◌, ◌≡◌, ℕ, ◌/◌, ◌%◌, ◌≤◌, ◌||◌, ◌&&◌, eqb, ltb}
use Rattle.mid_code.specs.Live.{is_among}
use Rattle.mid_live.specs.inner.Words.{bit}
use Rattle.mid_live.proofs.words.push_bits.Given as goal

abbrev pub invariant-bits : goal.invariant-bits
invariant-bits l = (l.b ≤ 128) × ((y : ℕ) → is_among l.found.items y ≡ (is_among l.initial.found.items y || (eqb l.at (y / 64) && (bit l.w (y % 64) && ltb (y % 64) l.b))))

abbrev pub decreases-bits : goal.decreases-bits
decreases-bits l = 128 - l.b
