-- Bits of words, and what is in a set.
use Rattle.std.proofs.Common.{◌≡◌, ◌≢◌, ℕ, zero, suc, ◌+◌, ◌-◌, ◌*◌, ◌/◌, ◌%◌, ◌^◌, ◌<◌, ◌≤◌, min, max, ◌⊎◌, inl, inr, Bool, true, false, ◌||◌, ◌&&◌, not, eqb, ltb, cond, List, [], ◌∷◌, length, get_or, set, replicate, refl, ap, sym, ◌∙◌, arith, w64}
use Rattle.std.specs.Int.{bit_at, bit_not}
use Rattle.std.specs.Int.RustNames.{bit_or}
use Rattle.std.proofs.Common.{bit_and}
use Rattle.std.proofs.lemmas.Bool.{eq-eqb, ne_eqb, eqb-true, eqb-false, ltb-true, ltb-false}
use Rattle.std.proofs.lemmas.Nat.Bits.{shr_and_one, bit_at-lt, bit_at-zero, bit_at_and, bit_at_or, bit_at_not, bit_at_set_same, bit_at_set_other, bit_at_clear_same, bit_at_clear_other, bit_at-trailing_zeros, bit_at_above}
use Rattle.mid_live.specs.Sets.{on, room}
use Rattle.mid_live.specs.inner.Words.{bit}
use Rattle.std.proofs.lemmas.List.{get_or-set_same, get_or-set_other}
use Rattle.std.proofs.lemmas.Nat.{shr-shr, shr_le}
use Rattle.std.specs.Int.{trailing_zeros}

-- ---- a list with one word written

pub get_set : (xs : List ℕ) (r q v : ℕ) → r < length xs → get_or (set xs r v) q 0 ≡ cond (eqb q r) v (get_or xs q 0)
get_set xs r q v h = turn (eqb q r) refl
  where
    turn : (b : Bool) → eqb q r ≡ b → get_or (set xs r v) q 0 ≡ cond (eqb q r) v (get_or xs q 0)
    turn true e = ap (λ z. get_or (set xs r v) z 0) (eqb-true q r e) ∙ get_or-set_same xs r v 0 h ∙ sym (ap (λ b. cond b v (get_or xs q 0)) e)
    turn false e = get_or-set_other xs r q v 0 (eqb-false q r e) ∙ sym (ap (λ b. cond b v (get_or xs q 0)) e)

pub has_is : (s : List ℕ) (x : ℕ) → eqb (bit_and (get_or s (x / 64) 0 / 2 ^ (x % 64)) 1) 1 ≡ on s x
unfolding on
has_is s x = ap (λ z. eqb z 1) (shr_and_one (get_or s (x / 64) 0) (x % 64))

pub lt_or : (a b : ℕ) → (a < b) ⊎ (b ≤ a)
lt_or a b = turn (ltb a b) refl
  where
    turn : (t : Bool) → ltb a b ≡ t → (a < b) ⊎ (b ≤ a)
    turn true e = inl (ltb-true a b e)
    turn false e = inr (ltb-false a b e)

-- ---- a number by its word and its bit
same_number : (x y : ℕ) → x / 64 ≡ y / 64 → x % 64 ≡ y % 64 → x ≡ y
same_number x y d m = omega (arith, d, m)

pub small : (x : ℕ) → x % 64 < 64
small x = omega arith

pub within : (n k : ℕ) → k < 64 * n → k / 64 < n
within n k h = omega (arith, h)

put_bit : (n x y : ℕ) → x / 64 ≡ y / 64 → eqb (bit_at (bit_or n (1 * 2 ^ (x % 64) % 2 ^ 64)) (y % 64)) 1 ≡ (eqb x y || eqb (bit_at n (y % 64)) 1)
put_bit n x y d = turn (eqb x y) refl
  where
    turn : (b : Bool) → eqb x y ≡ b → eqb (bit_at (bit_or n (1 * 2 ^ (x % 64) % 2 ^ 64)) (y % 64)) 1 ≡ (eqb x y || eqb (bit_at n (y % 64)) 1)
    turn true e = ap (λ z. eqb (bit_at (bit_or n (1 * 2 ^ (x % 64) % 2 ^ 64)) (z % 64)) 1) (sym (eqb-true x y e)) ∙ ap (λ z. eqb z 1) (bit_at_set_same w64 n (x % 64) (small x)) ∙ sym (ap (λ b. b || eqb (bit_at n (y % 64)) 1) e)
    turn false e = ap (λ z. eqb z 1) (bit_at_set_other w64 n (x % 64) (small x) (y % 64) (λ q. eqb-false x y e (same_number x y d (sym q)))) ∙ sym (ap (λ b. b || eqb (bit_at n (y % 64)) 1) e)

strike_bit : (n x y : ℕ) → x / 64 ≡ y / 64 → eqb (bit_at (bit_and n (bit_not w64 (1 * 2 ^ (x % 64) % 2 ^ 64))) (y % 64)) 1 ≡ cond (eqb x y) false (eqb (bit_at n (y % 64)) 1)
strike_bit n x y d = turn (eqb x y) refl
  where
    turn : (b : Bool) → eqb x y ≡ b → eqb (bit_at (bit_and n (bit_not w64 (1 * 2 ^ (x % 64) % 2 ^ 64))) (y % 64)) 1 ≡ cond (eqb x y) false (eqb (bit_at n (y % 64)) 1)
    turn true e = ap (λ z. eqb (bit_at (bit_and n (bit_not w64 (1 * 2 ^ (x % 64) % 2 ^ 64))) (z % 64)) 1) (sym (eqb-true x y e)) ∙ ap (λ z. eqb z 1) (bit_at_clear_same w64 n (x % 64) (small x)) ∙ sym (ap (λ b. cond b false (eqb (bit_at n (y % 64)) 1)) e)
    turn false e = ap (λ z. eqb z 1) (bit_at_clear_other w64 n (x % 64) (small x) (y % 64) (small y) (λ q. eqb-false x y e (same_number x y d (sym q)))) ∙ sym (ap (λ b. cond b false (eqb (bit_at n (y % 64)) 1)) e)

-- ---- a word of a set written

pub other_word : (s : List ℕ) (i y v : ℕ) → i < length s → i ≢ y / 64 → on (set s i v) y ≡ on s y
unfolding on
other_word s i y v h n = ap (λ z. eqb (bit_at z (y % 64)) 1) (get_set s i (y / 64) v h ∙ ap (λ b. cond b v (get_or s (y / 64) 0)) (ne_eqb (y / 64) i (λ e. n (sym e))))

pub this_word : (s : List ℕ) (i y v : ℕ) → i < length s → i ≡ y / 64 → on (set s i v) y ≡ eqb (bit_at v (y % 64)) 1
unfolding on
this_word s i y v h n = ap (λ z. eqb (bit_at z (y % 64)) 1) (get_set s i (y / 64) v h ∙ ap (λ b. cond b v (get_or s (y / 64) 0)) (eq-eqb (y / 64) i (sym n)))

pub eq_or : (a b : ℕ) → (a ≡ b) ⊎ (a ≢ b)
eq_or a b = turn (eqb a b) refl
  where
    turn : (t : Bool) → eqb a b ≡ t → (a ≡ b) ⊎ (a ≢ b)
    turn true e = inl (eqb-true a b e)
    turn false e = inr (eqb-false a b e)

pub put_is : (s : List ℕ) (x y : ℕ) → x / 64 < length s → on (set s (x / 64) (bit_or (get_or s (x / 64) 0) (1 * 2 ^ (x % 64) % 2 ^ 64))) y ≡ (eqb x y || on s y)
unfolding on
put_is s x y h = elim (eq_or (x / 64) (y / 64)) [
  | inl e ↦ this_word s (x / 64) y (bit_or (get_or s (x / 64) 0) (1 * 2 ^ (x % 64) % 2 ^ 64)) h e ∙ put_bit (get_or s (x / 64) 0) x y e ∙ ap (λ z. eqb x y || eqb (bit_at (get_or s z 0) (y % 64)) 1) e
  | inr d ↦ other_word s (x / 64) y (bit_or (get_or s (x / 64) 0) (1 * 2 ^ (x % 64) % 2 ^ 64)) h d ∙ sym (ap (λ b. b || on s y) (ne_eqb x y (λ q. d (ap (λ z. z / 64) q))))
]

pub strike_is : (s : List ℕ) (x y : ℕ) → x / 64 < length s → on (set s (x / 64) (bit_and (get_or s (x / 64) 0) (bit_not w64 (1 * 2 ^ (x % 64) % 2 ^ 64)))) y ≡ cond (eqb x y) false (on s y)
unfolding on
strike_is s x y h = elim (eq_or (x / 64) (y / 64)) [
  | inl e ↦ this_word s (x / 64) y (bit_and (get_or s (x / 64) 0) (bit_not w64 (1 * 2 ^ (x % 64) % 2 ^ 64))) h e ∙ strike_bit (get_or s (x / 64) 0) x y e ∙ ap (λ z. cond (eqb x y) false (eqb (bit_at (get_or s z 0) (y % 64)) 1)) e
  | inr d ↦ other_word s (x / 64) y (bit_and (get_or s (x / 64) 0) (bit_not w64 (1 * 2 ^ (x % 64) % 2 ^ 64))) h d ∙ sym (ap (λ b. cond b false (on s y)) (ne_eqb x y (λ q. d (ap (λ z. z / 64) q))))
]

-- past the words nothing is on
pub past : (s : List ℕ) (y : ℕ) → room s ≤ y → on s y ≡ false
unfolding on
past s y h = ap (λ z. eqb (bit_at z (y % 64)) 1) (beyond s (y / 64) (omega (arith, h))) ∙ ap (λ z. eqb z 1) (bit_at-zero (y % 64))
  where
    beyond : (s : List ℕ) (i : ℕ) → length s ≤ i → get_or s i 0 ≡ 0
    beyond [] i h = refl
    beyond (x ∷ s) zero h = absurd (omega (arith, h))
    beyond (x ∷ s) (suc i) h = beyond s i (omega (arith, h))

-- ---- an empty set

pub zeros : (n i : ℕ) → get_or {A = ℕ} (replicate n 0) i 0 ≡ 0
zeros zero i = refl
zeros (suc n) zero = refl
zeros (suc n) (suc i) = zeros n i

pub none_on : (n y : ℕ) → on (replicate n 0) y ≡ false
unfolding on
none_on n y = ap (λ z. eqb (bit_at z (y % 64)) 1) (zeros n (y / 64)) ∙ ap (λ z. eqb z 1) (bit_at-zero (y % 64))

pub wide : (n : ℕ) → n ≤ 64 * (n / 64 + 1)
wide n = omega arith

-- ---- two words

pub either_bit : (a b : ℕ) → a < 2 → b < 2 → eqb (max a b) 1 ≡ (eqb a 1 || eqb b 1)
either_bit zero zero h k = refl
either_bit zero (suc zero) h k = refl
either_bit zero (suc (suc b)) h k = absurd (omega (arith, k))
either_bit (suc zero) zero h k = refl
either_bit (suc zero) (suc zero) h k = refl
either_bit (suc zero) (suc (suc b)) h k = absurd (omega (arith, k))
either_bit (suc (suc a)) b h k = absurd (omega (arith, h))

joined_word : (s : List ℕ) (i m y : ℕ) → i < length s → i ≡ y / 64 → on (set s i (bit_or (get_or s i 0) m)) y ≡ (on s y || eqb (bit_at m (y % 64)) 1)
unfolding on
joined_word s i m y h e = this_word s i y (bit_or (get_or s i 0) m) h e ∙ ap (λ z. eqb z 1) (bit_at_or (get_or s i 0) m (y % 64)) ∙ either_bit (bit_at (get_or s i 0) (y % 64)) (bit_at m (y % 64)) (bit_at-lt (get_or s i 0) (y % 64)) (bit_at-lt m (y % 64)) ∙ ap (λ z. eqb (bit_at (get_or s z 0) (y % 64)) 1 || eqb (bit_at m (y % 64)) 1) e

only_bit : (a b : ℕ) → a < 2 → b < 2 → min a (1 - b) ≡ 0 → (eqb a 1 && not (eqb b 1)) ≡ false
only_bit zero b h k e = refl
only_bit (suc zero) zero h k e = absurd (omega (arith, e))
only_bit (suc zero) (suc zero) h k e = refl
only_bit (suc zero) (suc (suc b)) h k e = absurd (omega (arith, k))
only_bit (suc (suc a)) b h k e = absurd (omega (arith, h))

-- ---- one word

pub is_bit_is : (w b : ℕ) → eqb (bit_and (w / 2 ^ b) 1) 1 ≡ bit w b
unfolding bit
is_bit_is w b = ap (λ z. eqb z 1) (shr_and_one w b)

pub no_bit : (k : ℕ) → bit 0 k ≡ false
unfolding bit
no_bit k = ap (λ z. eqb z 1) (bit_at-zero k)

pub bit_on : (s : List ℕ) (i y : ℕ) → i ≡ y / 64 → bit (get_or s i 0) (y % 64) ≡ on s y
unfolding bit on
bit_on s i y e = ap (λ z. eqb (bit_at (get_or s z 0) (y % 64)) 1) e

pub or_bit : (a b k : ℕ) → bit (bit_or a b) k ≡ (bit a k || bit b k)
unfolding bit
or_bit a b k = ap (λ z. eqb z 1) (bit_at_or a b k) ∙ either_bit (bit_at a k) (bit_at b k) (bit_at-lt a k) (bit_at-lt b k)

less_bits : (a b : ℕ) → a < 2 → b < 2 → eqb (min a (1 - b)) 1 ≡ (eqb a 1 && not (eqb b 1))
less_bits zero b h k = ap (λ z. eqb z 1) (let e : min 0 (1 - b) ≡ 0 = omega arith in e)
less_bits (suc zero) zero h k = refl
less_bits (suc zero) (suc zero) h k = refl
less_bits (suc zero) (suc (suc b)) h k = absurd (omega (arith, k))
less_bits (suc (suc a)) b h k = absurd (omega (arith, h))

pub less_bit : (a b k : ℕ) → b < 2 ^ 64 → k < 64 → bit (bit_and a (bit_not w64 b)) k ≡ (bit a k && not (bit b k))
unfolding bit
less_bit a b k w h = ap (λ z. eqb z 1) (bit_at_and a (bit_not w64 b) k ∙ ap (min (bit_at a k)) (bit_at_not w64 b k w h)) ∙ less_bits (bit_at a k) (bit_at b k) (bit_at-lt a k) (bit_at-lt b k)

-- ---- the next bit

shifted : (w k j : ℕ) → bit_at w (k + j) ≡ bit_at (w / 2 ^ k) j
shifted w k j = ap (λ z. z % 2) (sym (shr-shr w k j))

later : (w k j : ℕ) → k ≤ j → bit_at w j ≡ bit_at (w / 2 ^ k) (j - k)
later w k j h = (let at : j ≡ k + (j - k) = omega (arith, h) in ap (bit_at w) at ∙ shifted w k (j - k))

pub none_left : (s : List ℕ) (i j : ℕ) → get_or s (i / 64) 0 / 2 ^ (i % 64) ≡ 0 → i ≤ j → j < 64 * (i / 64 + 1) → on s j ≡ false
unfolding on
none_left s i j e h l =
    let q : j / 64 ≡ i / 64 = omega (arith, h, l) in
    let k : i % 64 ≤ j % 64 = omega (arith, h, q) in
    ap (λ z. eqb (bit_at (get_or s z 0) (j % 64)) 1) q ∙ ap (λ z. eqb z 1) (later (get_or s (i / 64) 0) (i % 64) (j % 64) k ∙ ap (λ z. bit_at z (j % 64 - i % 64)) e ∙ bit_at-zero (j % 64 - i % 64))

module _ (w k : ℕ) (fits : w < 2 ^ 64) (more : w / 2 ^ k ≢ 0) (inside : k < 64) where
  abbrev z : ℕ
  z = trailing_zeros w64 (w / 2 ^ k)

  found : (z < 64) × (bit_at (w / 2 ^ k) z ≡ 1) × ((i : ℕ) → i < z → bit_at (w / 2 ^ k) i ≡ 0)
  found = (let le = shr_le w k in bit_at-trailing_zeros w64 (w / 2 ^ k) (omega (arith, more)) (omega (arith, le, fits)))

  pub zeros_few : z < 64
  zeros_few = found.0

  above : (64 ≤ k + z) → ⊥
  above h = (let a = bit_at_above w 64 (k + z) fits h in let b = shifted w k z in let c = found.1 in omega (arith, a, b, c))

  pub zeros_inside : k + z < 64
  zeros_inside = elim (lt_or (k + z) 64) [ inl l ↦ l | inr g ↦ absurd (above g) ]

  pub none_between : (j : ℕ) → k ≤ j → j < k + z → bit_at w j ≡ 0
  none_between j h l = later w k j h ∙ found.2 (j - k) (omega (arith, h, l))

pub none_before : (s : List ℕ) (i j : ℕ) → get_or s (i / 64) 0 < 2 ^ 64 → get_or s (i / 64) 0 / 2 ^ (i % 64) ≢ 0 → i ≤ j → j < i + trailing_zeros w64 (get_or s (i / 64) 0 / 2 ^ (i % 64)) → on s j ≡ false
unfolding on
none_before s i j fits more h l =
    let m = zeros_inside (get_or s (i / 64) 0) (i % 64) fits more (small i) in
    let q : j / 64 ≡ i / 64 = omega (arith, h, l, m) in
    let a : i % 64 ≤ j % 64 = omega (arith, h, q) in
    ap (λ z. eqb (bit_at (get_or s z 0) (j % 64)) 1) q ∙ ap (λ z. eqb z 1) (none_between (get_or s (i / 64) 0) (i % 64) fits more (small i) (j % 64) a (omega (arith, h, l, q)))

pub zeros_few_at : (s : List ℕ) (i : ℕ) → get_or s (i / 64) 0 < 2 ^ 64 → get_or s (i / 64) 0 / 2 ^ (i % 64) ≢ 0 → trailing_zeros w64 (get_or s (i / 64) 0 / 2 ^ (i % 64)) < 64
zeros_few_at s i fits more = zeros_few (get_or s (i / 64) 0) (i % 64) fits more (small i)
