-- Words in a file: four bytes each, the lowest first.
use Rattle.std.specs.Prelude.{◌≡◌, ℕ, ◌<◌, ◌^◌, List, [], ◌∷◌, ◌++◌, take, drop, get_or}
use Rattle.std.specs.List.{flat_map, AllByRecursion}
use Rattle.std.specs.Int.{w32, to_le_bytes, from_le_bytes}

abbrev pub word_text : ℕ → List ℕ
word_text w = to_le_bytes w32 w

abbrev pub words_text : List ℕ → List ℕ
words_text ws = flat_map (to_le_bytes w32) ws

-- each of them is a byte
abbrev pub IsBytes : List ℕ → Type 0
IsBytes bytes = (i : ℕ) → get_or bytes i 0 < 256

-- numbers that have a text
abbrev pub AreWords : List ℕ → Type 0
AreWords ws = AllByRecursion (λ w. w < 2 ^ 32) ws

-- the word whose first byte is at that place
abbrev pub word_at : ℕ → List ℕ → ℕ
word_at place bytes = from_le_bytes w32 (take 4 (drop place bytes))

-- the words of these bytes, one after the other
unfoldable pub words_of : List ℕ → List ℕ
words_of [] = []
words_of (a ∷ []) = []
words_of (a ∷ b ∷ []) = []
words_of (a ∷ b ∷ c ∷ []) = []
words_of (a ∷ b ∷ c ∷ d ∷ rest) = from_le_bytes w32 (a ∷ b ∷ c ∷ d ∷ []) ∷ words_of rest

-- what a buffer holds after a refusal: what it held, then a front of the text that was to be added
abbrev pub AddsFront : (old text new : List ℕ) → Type 0
AddsFront old text new = (n : ℕ) × (new ≡ old ++ take n text)
