-- What an operation leaves in each lane.
use Rattle.std.proofs.Common.{◌≡◌, ℕ, ◌+◌, ◌-◌, ◌*◌, ◌/◌, ◌%◌, ◌^◌, ◌<◌, ◌≤◌, inl, inr, List, Bool, false, cond, length, get_or, map, replicate, min, refl, sym, ap, ◌∙◌, arith, w16, bit_and}
use Rattle.std.specs.Simd.Lanes.{zip2}
use Rattle.word_lanes.proofs.LaneSteps.{two_at}
use Rattle.std.proofs.lemmas.Bool.{cases_eq}
use Rattle.pix_lanes.specs.inner.Lanes.{AreBytes}

pub less_at : (n : ℕ) (a b : List ℕ) (k : ℕ) → length a ≡ n → length b ≡ n → k < n → get_or b k 0 ≤ get_or a k 0 → get_or a k 0 < 65536 →
    get_or (zip2 (λ x y. (x + (65536 - y)) % 65536) a b) k 0 ≡ get_or a k 0 - get_or b k 0
less_at n a b k p q h le fits = two_at (λ x y. (x + (65536 - y)) % 65536) n a b k p q h ∙ omega arith

-- of the four bytes of a word, two by two
halves_of : (x b0 b1 b2 b3 lower upper : ℕ) → b0 ≡ x / 256 ^ 0 % 256 → b1 ≡ x / 256 ^ 1 % 256 → b2 ≡ x / 256 ^ 2 % 256 → b3 ≡ x / 256 ^ 3 % 256 →
    lower ≡ b0 + 256 * b1 → upper ≡ b2 + 256 * b3 → (lower ≡ x % 65536) × (x < 4294967296 → upper ≡ x / 65536)
halves_of x b0 b1 b2 b3 lower upper e f g h l u = (omega arith, λ fits. omega arith)

-- the places of a word's bytes, counted by halves and by words
pub lower_half : (w b r : List ℕ) (j : ℕ) → ((i : ℕ) → j < 8 → i < 4 → get_or b (4 * j + i) 0 ≡ get_or w j 0 / 256 ^ i % 256) →
    ((k : ℕ) → k < 16 → get_or r k 0 ≡ get_or b (2 * k) 0 + 256 * get_or b (2 * k + 1) 0) → j < 8 → get_or r (2 * j) 0 ≡ get_or w j 0 % 65536
lower_half w b r j bytes halves h =
    let at : 2 * (2 * j) ≡ 4 * j + 0 = omega arith in
    let next : 2 * (2 * j) + 1 ≡ 4 * j + 1 = omega arith in
    let l : get_or r (2 * j) 0 ≡ get_or b (4 * j + 0) 0 + 256 * get_or b (4 * j + 1) 0 = rw (next, at) at (halves (2 * j) (omega arith)) in
    (halves_of (get_or w j 0) _ _ _ _ _ _ (bytes 0 h (omega arith)) (bytes 1 h (omega arith)) (bytes 2 h (omega arith)) (bytes 3 h (omega arith)) l refl).0

pub upper_half : (w b r : List ℕ) (j : ℕ) → get_or w j 0 < 4294967296 → ((i : ℕ) → j < 8 → i < 4 → get_or b (4 * j + i) 0 ≡ get_or w j 0 / 256 ^ i % 256) →
    ((k : ℕ) → k < 16 → get_or r k 0 ≡ get_or b (2 * k) 0 + 256 * get_or b (2 * k + 1) 0) → j < 8 → get_or r (2 * j + 1) 0 ≡ get_or w j 0 / 65536
upper_half w b r j fits bytes halves h =
    let at : 2 * (2 * j + 1) ≡ 4 * j + 2 = omega arith in
    let next : 2 * (2 * j + 1) + 1 ≡ 4 * j + 3 = omega arith in
    let u : get_or r (2 * j + 1) 0 ≡ get_or b (4 * j + 2) 0 + 256 * get_or b (4 * j + 3) 0 = rw (next, at) at (halves (2 * j + 1) (omega arith)) in
    (halves_of (get_or w j 0) _ _ _ _ _ _ (bytes 0 h (omega arith)) (bytes 1 h (omega arith)) (bytes 2 h (omega arith)) (bytes 3 h (omega arith)) refl u).1 fits

word_of : (x y b0 b1 b2 b3 r : ℕ) → x < 65536 → y < 65536 → b0 ≡ x / 256 ^ 0 % 256 → b1 ≡ x / 256 ^ 1 % 256 → b2 ≡ y / 256 ^ 0 % 256 → b3 ≡ y / 256 ^ 1 % 256 →
    r ≡ b0 + 256 * (b1 + 256 * (b2 + 256 * b3)) → r ≡ x + 65536 * y
word_of x y b0 b1 b2 b3 r k l e f g h u = omega arith

pub whole_word : (v b r : List ℕ) (j : ℕ) → get_or v (2 * j) 0 < 65536 → get_or v (2 * j + 1) 0 < 65536 →
    ((k i : ℕ) → k < 16 → i < 2 → get_or b (2 * k + i) 0 ≡ get_or v k 0 / 256 ^ i % 256) →
    get_or r j 0 ≡ get_or b (4 * j) 0 + 256 * (get_or b (4 * j + 1) 0 + 256 * (get_or b (4 * j + 2) 0 + 256 * get_or b (4 * j + 3) 0)) → j < 8 →
    get_or r j 0 ≡ get_or v (2 * j) 0 + 65536 * get_or v (2 * j + 1) 0
whole_word v b r j fits fits' bytes word h =
    let at0 : 2 * (2 * j) + 0 ≡ 4 * j = omega arith in
    let at1 : 2 * (2 * j) + 1 ≡ 4 * j + 1 = omega arith in
    let at2 : 2 * (2 * j + 1) + 0 ≡ 4 * j + 2 = omega arith in
    let at3 : 2 * (2 * j + 1) + 1 ≡ 4 * j + 3 = omega arith in
    word_of (get_or v (2 * j) 0) (get_or v (2 * j + 1) 0) _ _ _ _ _ fits fits'
    (rw at0 at (bytes (2 * j) 0 (omega arith) (omega arith))) (rw at1 at (bytes (2 * j) 1 (omega arith) (omega arith)))
    (rw at2 at (bytes (2 * j + 1) 0 (omega arith) (omega arith))) (rw at3 at (bytes (2 * j + 1) 1 (omega arith) (omega arith))) word

-- lanes that come in pairs hold bytes where each of a pair is a byte
pub bytes_of_pairs : (v rest : List ℕ) → ((j : ℕ) → j < 8 → get_or v (2 * j) 0 ≡ get_or rest (2 * j + 1) 0) →
    ((j : ℕ) → j < 8 → get_or v (2 * j + 1) 0 ≡ get_or rest (2 * j + 1) 0) → AreBytes rest → AreBytes v
bytes_of_pairs v rest first second bytes = record {
  byte = λ k h.
      let byte : get_or rest (2 * (k / 2) + 1) 0 ≤ 255 = bytes.byte (2 * (k / 2) + 1) (omega arith) in
      elim (cases_eq (2 * (k / 2)) k) [
        | inl even ↦ rw (← even) (let e = first (k / 2) (omega arith) in omega arith)
        | inr odd ↦
            let at : 2 * (k / 2) + 1 ≡ k = omega arith in
            rw (← at) (let e = second (k / 2) (omega arith) in omega arith)
      ];
}

-- the upper of two bytes, in both halves of a word
pub spread_half : (x y w u r s : ℕ) → x ≤ 255 → y ≤ 255 → w ≡ x + 65536 * y → u ≡ w / 65536 → r ≡ u * 65536 % 2 ^ 32 → s ≡ (u + r) % 2 ^ 32 →
    (s % 65536 ≡ y) × (s / 65536 ≡ y)
spread_half x y w u r s a b e f g h = (omega arith, omega arith)
