-- A position, sample by sample.
use Rattle.std.proofs.Common.{◌≡◌, ◌⊎◌, inl, inr, ℕ, zero, suc, ◌<◌, ◌≤◌, ◌+◌, ◌-◌, ◌%◌, arith, refl, Bool, true, false, Some, None, ap, sym, ◌∙◌, add-one}
use Rattle.std.proofs.Math.Nat.{suc-mod, mod-eq_of_lt, mod_self}
use Rattle.std.proofs.lemmas.Nat.{mod_below}
use Rattle.std.proofs.lemmas.Bool.{cases_lt}
use Rattle.spu_mix.specs.Positions.{position_after, next_position}

-- a remainder after one more
next_mod : (n m : ℕ) → 0 < m → ((n % m + 1 ≡ m) × ((n + 1) % m ≡ 0)) ⊎ ((n % m + 1 < m) × ((n + 1) % m ≡ n % m + 1))
next_mod n m h = elim (cases_lt (suc (n % m)) m) [
  | inl below ↦ inr (omega arith, rw (add-one, suc-mod n m) (mod-eq_of_lt below ∙ sym (add-one (n % m))))
  | inr above ↦
      let full : suc (n % m) ≡ m = omega (arith, mod_below n m h) in
      inl (omega arith, rw (add-one, suc-mod n m, full) (mod_self m))
]

pub position_none : (looping : Bool) (start last count p : ℕ) → start ≤ last → last < count → p < count → position_after looping start last count p 0 ≡ Some p
unfolding position_after
position_none true start last count p h k l = grind arith
position_none false start last count p h k l = grind arith

-- past the end of the loop
pub position_wrapped : (start last count p j : ℕ) → p ≤ last → last < p + j →
    position_after true start last count p j ≡ Some (start + (p + j - start) % (last - start + 1))
unfolding position_after
position_wrapped start last count p j h k = grind arith

-- before it
pub position_straight : (looping : Bool) (start last count p j : ℕ) → (last < p) ⊎ (p + j ≤ last) → p + j < count →
    position_after looping start last count p j ≡ Some (p + j)
unfolding position_after
position_straight true start last count p j h k = grind arith
position_straight false start last count p j h k = grind arith

pub position_past : (start last count p j : ℕ) → last < p → count ≤ p + j → position_after true start last count p j ≡ None
unfolding position_after
position_past start last count p j h k = grind arith

once : (start last count p j : ℕ) → position_after false start last count p (j + 1) ≡ next_position false start last count (position_after false start last count p j)
unfolding position_after
once start last count p j = elim (cases_lt (p + j + 1) count) [
  | inl h ↦ grind arith
  | inr h ↦ elim (cases_lt (p + j) count) [ inl k ↦ grind arith | inr k ↦ grind arith ]
]

pub position_next : (looping : Bool) (start last count p j : ℕ) → start ≤ last → last < count → p < count →
    position_after looping start last count p (j + 1) ≡ next_position looping start last count (position_after looping start last count p j)
position_next false start last count p j h k l = once start last count p j
position_next true start last count p j h k l = elim (cases_lt last p) [
  | inl beyond ↦ elim (cases_lt (p + j + 1) count) [
    | inl within ↦ rw (position_straight true start last count p (j + 1) (inl beyond) (omega arith), position_straight true start last count p j (inl beyond) (omega arith)) (grind arith)
    | inr past ↦ elim (cases_lt (p + j) count) [
      | inl at_end ↦ rw (position_past start last count p (j + 1) beyond (omega arith), position_straight true start last count p j (inl beyond) at_end) (grind arith)
      | inr over ↦ rw (position_past start last count p (j + 1) beyond (omega arith), position_past start last count p j beyond over) refl
    ]
  ]
  | inr upto ↦ elim (cases_lt last (p + j)) [
    | inl wrapped ↦
        let m : ℕ = last - start + 1 in
        let n : ℕ = p + j - start in
        let e : p + (j + 1) - start ≡ n + 1 = omega arith in
        rw (position_wrapped start last count p (j + 1) upto (omega arith), position_wrapped start last count p j upto wrapped, e)
        (elim (next_mod n m (omega arith)) [
          | inl f ↦ let q : start + n % m ≡ last = omega arith in rw (f.1, q) (grind arith)
          | inr f ↦ let q : start + n % m < last = omega arith in rw f.1 (grind arith)
        ])
    | inr before ↦ elim (cases_lt (p + j) last) [
      | inl less ↦ rw (position_straight true start last count p (j + 1) (inr (omega arith)) (omega arith), position_straight true start last count p j (inr before) (omega arith)) (grind arith)
      | inr more ↦
          let at : p + j ≡ last = omega arith in
          let e : p + (j + 1) - start ≡ last - start + 1 = omega arith in
          rw (position_wrapped start last count p (j + 1) upto (omega arith), position_straight true start last count p j (inr before) (omega arith), e, mod_self (last - start + 1), at)
          (grind arith)
    ]
  ]
]

-- from the position after some samples on
pub position_from : (looping : Bool) (start last count p j q k : ℕ) → start ≤ last → last < count → p < count → q < count →
    position_after looping start last count p j ≡ Some q → position_after looping start last count p (j + k) ≡ position_after looping start last count q k
position_from looping start last count p j q zero a b c d e =
    let f : j + 0 ≡ j = omega arith in
    rw (f, e, position_none looping start last count q a b d) refl
position_from looping start last count p j q (suc k) a b c d e =
    let f : j + suc k ≡ (j + k) + 1 = omega arith in
    let g : suc k ≡ k + 1 = omega arith in
    rw (
      f,
      g,
      position_next looping start last count p (j + k) a b c,
      position_next looping start last count q k a b d,
      position_from looping start last count p j q k a b c d e,
    ) refl

pub straight_on : (start last count p j : ℕ) → p + j < count → position_after false start last count p j ≡ Some (p + j)
unfolding position_after
straight_on start last count p j h = grind arith

pub straight_past : (start last count p j : ℕ) → count ≤ p + j → position_after false start last count p j ≡ None
unfolding position_after
straight_past start last count p j h = grind arith

-- the run of samples from a position on, where it does not come to the loop's end
pub run_position : (looping : Bool) (start last count p j q i : ℕ) → start ≤ last → last < count → p < count → q < count →
    position_after looping start last count p j ≡ Some q → q + i < count → (looping ≡ true → q ≤ last → q + i ≤ last) →
    position_after looping start last count p (j + i) ≡ Some (q + i)
run_position false start last count p j q i a b c d e f g = rw (position_from false start last count p j q i a b c d e) (straight_on start last count q i f)
run_position true start last count p j q i a b c d e f g =
    rw (position_from true start last count p j q i a b c d e) (elim (cases_lt last q) [
      | inl h ↦ position_straight true start last count q i (inl h) f
      | inr h ↦ position_straight true start last count q i (inr (g refl h)) f
    ])

pub run_wraps : (start last count p j q i : ℕ) → start ≤ last → last < count → p < count → q ≤ last → q + i ≡ last + 1 →
    position_after true start last count p j ≡ Some q → position_after true start last count p (j + i) ≡ Some start
run_wraps start last count p j q i a b c d e f =
    let g : q + i - start ≡ last - start + 1 = omega arith in
    rw (position_from true start last count p j q i a b c (omega arith) f, position_wrapped start last count q i d (omega arith), g, mod_self (last - start + 1))
    (ap Some (omega arith))

pub run_stops : (looping : Bool) (start last count p j q i : ℕ) → start ≤ last → last < count → p < count → q < count → (looping ≡ true → last < q) →
    position_after looping start last count p j ≡ Some q → count ≤ q + i → position_after looping start last count p (j + i) ≡ None
run_stops false start last count p j q i a b c d e f g = rw (position_from false start last count p j q i a b c d f) (straight_past start last count q i g)
run_stops true start last count p j q i a b c d e f g = rw (position_from true start last count p j q i a b c d f) (position_past start last count q i (e refl) g)

-- a position past the samples is an end at once
pub position_outside : (looping : Bool) (start last count p j : ℕ) → last < count → count ≤ p → position_after looping start last count p j ≡ None
position_outside true start last count p j h k = position_past start last count p j (omega arith) (omega arith)
position_outside false start last count p j h k = straight_past start last count p j (omega arith)

pub position_small : (looping : Bool) (start last count p j q : ℕ) → start ≤ last → last < count → position_after looping start last count p j ≡ Some q → q < count
unfolding position_after
position_small looping start last count p j q a b e =
    let m : (p + j - start) % (last - start + 1) < last - start + 1 = mod_below (p + j - start) (last - start + 1) (omega arith) in
    grind (arith, m, e)
