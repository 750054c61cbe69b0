-- Words as chunks of four bytes.
use Rattle.std.proofs.Common.{◌≡◌, ℕ, zero, suc, ◌+◌, ◌*◌, ◌<◌, List, [], ◌∷◌, ◌++◌, length, drop, slice_index, refl, sym, ap, ◌∙◌, arith}
use Rattle.std.specs.Int.{w32, from_le_bytes, to_le_bytes}
use Rattle.std.proofs.lemmas.List.{drop-drop}
use Rattle.std.proofs.lemmas.List.Concat.{flat_map-cons}
use Rattle.std.proofs.lemmas.Nat.{le_bytes_4, from_le_bytes-to_le_bytes_4}
use Rattle.byteorder.specs.Endian.{little_number}
use Rattle.asset_pack.specs.Words.{words_text, words_of, AreWords}
use Rattle.asset_pack.specs.Words.{IsBytes}

-- what is written is read again
pub words_again : (ws : List ℕ) → AreWords ws → words_of (words_text ws) ≡ ws
unfolding words_of
words_again [] fits = refl
words_again (w ∷ ws) fits =
    ap words_of (flat_map-cons (to_le_bytes w32) w ws) ∙ ap (λ (x : ℕ). x ∷ words_of (words_text ws)) (from_le_bytes-to_le_bytes_4 w fits.0) ∙ ap (λ (x : List ℕ). w ∷ x) (words_again ws fits.1)

byte_each : (a b c d : ℕ) (rest : List ℕ) → IsBytes (a ∷ b ∷ c ∷ d ∷ rest) → IsBytes (a ∷ b ∷ c ∷ d ∷ [])
byte_each a b c d rest fits zero = fits 0
byte_each a b c d rest fits (suc zero) = fits 1
byte_each a b c d rest fits (suc (suc zero)) = fits 2
byte_each a b c d rest fits (suc (suc (suc zero))) = fits 3
byte_each a b c d rest fits (suc (suc (suc (suc i)))) = omega arith

-- what is read is spelled so
pub words_back : (n : ℕ) (bytes : List ℕ) → length bytes ≡ 4 * n → IsBytes bytes → words_text (words_of bytes) ≡ bytes
unfolding words_of
words_back n [] size fits = refl
words_back n (a ∷ []) size fits = absurd (omega arith)
words_back n (a ∷ b ∷ []) size fits = absurd (omega arith)
words_back n (a ∷ b ∷ c ∷ []) size fits = absurd (omega arith)
words_back zero (a ∷ b ∷ c ∷ d ∷ rest) size fits = absurd (omega arith)
words_back (suc n) (a ∷ b ∷ c ∷ d ∷ rest) size fits =
    let four : List ℕ = a ∷ b ∷ c ∷ d ∷ [] in
    let word : to_le_bytes w32 (from_le_bytes w32 four) ≡ four = le_bytes_4 four (from_le_bytes w32 four) refl (byte_each a b c d rest fits) refl in
    flat_map-cons (to_le_bytes w32) (from_le_bytes w32 four) (words_of rest) ∙ ap (λ (x : List ℕ). x ++ words_text (words_of rest)) word
    ∙ ap (λ (x : List ℕ). four ++ x) (words_back n rest (omega arith) (λ i. fits (suc (suc (suc (suc i))))))

pub length-words : (n : ℕ) (bytes : List ℕ) → length bytes ≡ 4 * n → length (words_of bytes) ≡ n
unfolding words_of
length-words n [] size = omega arith
length-words n (a ∷ []) size = absurd (omega arith)
length-words n (a ∷ b ∷ []) size = absurd (omega arith)
length-words n (a ∷ b ∷ c ∷ []) size = absurd (omega arith)
length-words zero (a ∷ b ∷ c ∷ d ∷ rest) size = absurd (omega arith)
length-words (suc n) (a ∷ b ∷ c ∷ d ∷ rest) size = let more = length-words n rest (omega arith) in omega arith

pub words_fit : (bytes : List ℕ) → IsBytes bytes → AreWords (words_of bytes)
unfolding words_of
words_fit [] fits = tt
words_fit (a ∷ []) fits = tt
words_fit (a ∷ b ∷ []) fits = tt
words_fit (a ∷ b ∷ c ∷ []) fits = tt
words_fit (a ∷ b ∷ c ∷ d ∷ rest) fits =
    (omega (arith, fits 0, fits 1, fits 2, fits 3), words_fit rest (λ i. fits (suc (suc (suc (suc i))))))

pub length-words_text : (ws : List ℕ) → length (words_text ws) ≡ 4 * length ws
length-words_text [] = refl
length-words_text (w ∷ ws) = let more = length-words_text ws in ap length (flat_map-cons (to_le_bytes w32) w ws) ∙ omega arith

-- words that are read one by one, each at four times its number
pub read_each : (words bytes : List ℕ) → length bytes ≡ 4 * length words → ((k : ℕ) → k < length words → slice_index words k ≡ little_number 4 (drop (4 * k) bytes)) → words ≡ words_of bytes
unfolding words_of
read_each [] [] size each = refl
read_each [] (a ∷ bytes) size each = absurd (omega arith)
read_each (w ∷ ws) [] size each = absurd (omega arith)
read_each (w ∷ ws) (a ∷ []) size each = absurd (omega arith)
read_each (w ∷ ws) (a ∷ b ∷ []) size each = absurd (omega arith)
read_each (w ∷ ws) (a ∷ b ∷ c ∷ []) size each = absurd (omega arith)
read_each (w ∷ ws) (a ∷ b ∷ c ∷ d ∷ rest) size each =
    let first : w ≡ from_le_bytes w32 (a ∷ b ∷ c ∷ d ∷ []) = each 0 (omega arith) ∙ omega arith in
    let others : ws ≡ words_of rest = read_each ws rest (omega arith) (λ k lt.
    let four : 4 * suc k ≡ 4 + 4 * k = omega arith in
    each (suc k) (omega arith) ∙ ap (λ (n : ℕ). little_number 4 (drop n (a ∷ b ∷ c ∷ d ∷ rest))) four ∙ ap (little_number 4) (sym (drop-drop (4 * k) 4 (a ∷ b ∷ c ∷ d ∷ rest)))) in
    ap (λ (x : ℕ). x ∷ ws) first ∙ ap (λ (x : List ℕ). from_le_bytes w32 (a ∷ b ∷ c ∷ d ∷ []) ∷ x) others
