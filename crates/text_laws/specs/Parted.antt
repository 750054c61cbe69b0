-- The lines of a text (the page of files): each but the last ends with LF or CR LF, and the last may.
use Rattle.std.specs.Prelude.{◌≡◌, ℕ, List, [], ◌∷◌, ◌++◌, Bool, not, ◌==◌, true, false}
use Rattle.std.specs.List.{list_all}

abbrev pub is_no_lf : ℕ → Bool
is_no_lf b = not (b == 10)

abbrev pub is_free : List ℕ → Bool
is_free text = list_all is_no_lf text

-- the text ends with CR
abbrev pub ends_with_return : List ℕ → Bool
ends_with_return [] = false
ends_with_return (b ∷ []) = b == 13
ends_with_return (b ∷ c ∷ bs) = ends_with_return (c ∷ bs)

-- what stands before an LF, less one CR directly before that
pub data IsEnded (text line : List ℕ) : Type 0 where
  by_return : text ≡ line ++ 13 ∷ [] → IsEnded text line
  alone : text ≡ line → ends_with_return text ≡ false → IsEnded text line

pub data AreLines : List ℕ → List (List ℕ) → Type 0 where
  -- no byte is left, and no line
  ended : {bytes : List ℕ} {lines : List (List ℕ)} → bytes ≡ [] → lines ≡ [] → AreLines bytes lines
  -- a last line without an end: it is kept as it is
  last : {bytes : List ℕ} {lines : List (List ℕ)} (first : ℕ) (more : List ℕ) → bytes ≡ first ∷ more → is_free bytes ≡ true → lines ≡ bytes ∷ []
      → AreLines bytes lines
  -- a line, its end, and what stands behind it
  line : {bytes : List ℕ} {lines : List (List ℕ)} (text own rest : List ℕ) (others : List (List ℕ)) → bytes ≡ text ++ 10 ∷ rest → is_free text ≡ true
      → IsEnded text own
      → lines ≡ own ∷ others → AreLines rest others → AreLines bytes lines
