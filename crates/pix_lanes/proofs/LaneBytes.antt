-- The bytes of the lanes of a vector, and the lanes of bytes.
use Rattle.std.proofs.Common.{◌≡◌, ℕ, ◌+◌, ◌*◌, ◌/◌, ◌%◌, ◌^◌, ◌<◌, List, [], ◌∷◌, length, get_or, refl, ap, ◌∙◌, arith, w8, w16, w32, Fits}
use Rattle.std.proofs.Math.Nat.{add-zero}
use Rattle.std.specs.Simd.Lanes.{Each1, number_l, digits_l, chunk}
use Rattle.std.proofs.lemmas.Simd.{below_from_Fits, get_or_wider, get_or_narrower, length-chunk, get_or-chunk}

pub word_byte : (w : List ℕ) (j i : ℕ) → Each1 (Fits w32) w → j < 8 → i < 4 →
    get_or (digits_l 256 32 (number_l 4294967296 w)) (4 * j + i) 0 ≡ get_or w j 0 / 256 ^ i % 256
word_byte w j i fits h k = get_or_narrower 4294967296 4 256 32 w j i refl (below_from_Fits w32 w fits) k (omega arith)

pub half_byte : (w : List ℕ) (j i : ℕ) → Each1 (Fits w16) w → j < 16 → i < 2 →
    get_or (digits_l 256 32 (number_l 65536 w)) (2 * j + i) 0 ≡ get_or w j 0 / 256 ^ i % 256
half_byte w j i fits h k = get_or_narrower 65536 2 256 32 w j i refl (below_from_Fits w16 w fits) k (omega arith)

number_two : (v : List ℕ) → length v ≡ 2 → number_l 256 v ≡ get_or v 0 0 + 256 * get_or v 1 0
number_two [] e = omega arith
number_two (a ∷ []) e = omega arith
number_two (a ∷ b ∷ []) e = omega arith
number_two (a ∷ b ∷ c ∷ v) e = omega arith

number_four : (v : List ℕ) → length v ≡ 4 →
    number_l 256 v ≡ get_or v 0 0 + 256 * (get_or v 1 0 + 256 * (get_or v 2 0 + 256 * get_or v 3 0))
number_four [] e = omega arith
number_four (a ∷ []) e = omega arith
number_four (a ∷ b ∷ []) e = omega arith
number_four (a ∷ b ∷ c ∷ []) e = omega arith
number_four (a ∷ b ∷ c ∷ d ∷ []) e = omega arith
number_four (a ∷ b ∷ c ∷ d ∷ f ∷ v) e = omega arith

pub half_at : (b : List ℕ) (k : ℕ) → length b ≡ 32 → Each1 (Fits w8) b → k < 16 →
    get_or (digits_l 65536 16 (number_l 256 b)) k 0 ≡ get_or b (2 * k) 0 + 256 * get_or b (2 * k + 1) 0
half_at b k long fits h =
    let e = get_or_wider 256 2 65536 16 b k refl (below_from_Fits w8 b fits) h in
    let n = number_two (chunk (2 * k) 2 b) (length-chunk (2 * k) 2 b (omega arith)) in
    let first : get_or (chunk (2 * k) 2 b) 0 0 ≡ get_or b (2 * k) 0 = get_or-chunk (2 * k) 2 b 0 0 (omega arith) ∙ ap (λ (i : ℕ). get_or b i 0) (add-zero (2 * k)) in
    let second : get_or (chunk (2 * k) 2 b) 1 0 ≡ get_or b (2 * k + 1) 0 = get_or-chunk (2 * k) 2 b 1 0 (omega arith) in
    e ∙ n ∙ omega arith

pub word_at : (b : List ℕ) (j : ℕ) → length b ≡ 32 → Each1 (Fits w8) b → j < 8 →
    get_or (digits_l 4294967296 8 (number_l 256 b)) j 0
    ≡ get_or b (4 * j) 0 + 256 * (get_or b (4 * j + 1) 0 + 256 * (get_or b (4 * j + 2) 0 + 256 * get_or b (4 * j + 3) 0))
word_at b j long fits h =
    let e = get_or_wider 256 4 4294967296 8 b j refl (below_from_Fits w8 b fits) h in
    let n = number_four (chunk (4 * j) 4 b) (length-chunk (4 * j) 4 b (omega arith)) in
    let first : get_or (chunk (4 * j) 4 b) 0 0 ≡ get_or b (4 * j) 0 = get_or-chunk (4 * j) 4 b 0 0 (omega arith) ∙ ap (λ (i : ℕ). get_or b i 0) (add-zero (4 * j)) in
    let second : get_or (chunk (4 * j) 4 b) 1 0 ≡ get_or b (4 * j + 1) 0 = get_or-chunk (4 * j) 4 b 1 0 (omega arith) in
    let third : get_or (chunk (4 * j) 4 b) 2 0 ≡ get_or b (4 * j + 2) 0 = get_or-chunk (4 * j) 4 b 2 0 (omega arith) in
    let fourth : get_or (chunk (4 * j) 4 b) 3 0 ≡ get_or b (4 * j + 3) 0 = get_or-chunk (4 * j) 4 b 3 0 (omega arith) in
    e ∙ n ∙ omega arith
