-- Words among bytes.
use Rattle.std.proofs.Common.{◌≡◌, ℕ, ◌+◌, ◌^◌, ◌<◌, ◌≤◌, List, length, take, drop, refl, arith, inl, inr}
use Rattle.std.proofs.lemmas.Bool.{cases_lt}
use Rattle.std.proofs.lemmas.List.{length-take, length-drop, get_or-drop, get_or-take, get_or_past}
use Rattle.std.proofs.lemmas.Nat.{le_bytes_4}
use Rattle.asset_pack.specs.Words.{IsBytes, word_text, word_at}

pub IsBytes-drop : (n : ℕ) (bytes : List ℕ) → IsBytes bytes → IsBytes (drop n bytes)
IsBytes-drop n bytes h i = rw get_or-drop (h (n + i))

pub IsBytes-take : (n : ℕ) (bytes : List ℕ) → IsBytes bytes → IsBytes (take n bytes)
IsBytes-take n bytes h i =
    elim (cases_lt i n) [
      | inl lt ↦ rw (get_or-take n bytes i 0 lt) (h i)
      | inr le ↦ rw (get_or_past (take n bytes) i 0 (omega (arith, length-take n bytes))) (omega arith)
    ]

-- a word that is read is spelled so
pub word_back : (place : ℕ) (bytes : List ℕ) → IsBytes bytes → place + 4 ≤ length bytes → word_text (word_at place bytes) ≡ take 4 (drop place bytes)
word_back place bytes fits long =
    le_bytes_4 (take 4 (drop place bytes)) (word_at place bytes) (omega (arith, length-take 4 (drop place bytes), length-drop place bytes))
    (IsBytes-take 4 (drop place bytes) (IsBytes-drop place bytes fits)) refl

pub word_below : (place : ℕ) (bytes : List ℕ) → IsBytes bytes → word_at place bytes < 2 ^ 32
word_below place bytes fits =
    let four = IsBytes-take 4 (drop place bytes) (IsBytes-drop place bytes fits) in
    omega (arith, four 0, four 1, four 2, four 3)
