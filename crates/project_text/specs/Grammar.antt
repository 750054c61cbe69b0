-- The grammar of a project's lines: an empty line and one that begins with # say nothing; the others
-- are a key, one space, and printable ASCII, 1 to 63 bytes for a title and 1 to 255 for a file's name.
-- Hold it against the kit's page on project files.
use Rattle.std.specs.Prelude.{◌≡◌, ℕ, ◌≤◌, List, [], ◌∷◌, ◌++◌, length, take, drop, codes, bytes_eq, Bool, true, false, ◌&&◌, ◌⊎◌, ◌==◌, nat_le}
use Rattle.std.specs.Prelude.{if◌then◌else◌, Option, Some, None}
use Rattle.std.specs.List.{list_all}
use Rattle.project_text.specs.Entries.{Entry, Nothing, Title, Source, Texture, Sound}

abbrev pub is_printable : ℕ → Bool
is_printable b = nat_le 0x20 b && nat_le b 0x7e

-- 1 to so many bytes of printable ASCII
pub record IsText (most : ℕ) (text : List ℕ) : Type 0 where
  pub some : 1 ≤ length text
  pub few : length text ≤ most
  pub printable : list_all is_printable text ≡ true

abbrev pub IsPassedOver : List ℕ → Type 0
IsPassedOver line = (line ≡ []) ⊎ ((rest : List ℕ) × (line ≡ 35 ∷ rest))

-- the line is of the grammar, and says this
abbrev pub IsLine : List ℕ → Entry → Type 0
IsLine line Nothing = IsPassedOver line
IsLine line (Title t) = (line ≡ codes "title " ++ t) × IsText 63 t
IsLine line (Source f) = (line ≡ codes "source " ++ f) × IsText 255 f
IsLine line (Texture f) = (line ≡ codes "texture " ++ f) × IsText 255 f
IsLine line (Sound f) = (line ≡ codes "sound " ++ f) × IsText 255 f

-- the same, as what a line says
unfoldable pub is_text : ℕ → List ℕ → Bool
is_text most text = nat_le 1 (length text) && (nat_le (length text) most && list_all is_printable text)

unfoldable pub is_passed_over : List ℕ → Bool
is_passed_over [] = true
is_passed_over (b ∷ bs) = b == 35

-- what stands behind that key, where it does and is a text
unfoldable pub value_of : List ℕ → ℕ → List ℕ → Option (List ℕ)
value_of key most line =
    if bytes_eq (take (length key) line) key && is_text most (drop (length key) line) then Some (drop (length key) line) else None

abbrev pub or_else : Option (List ℕ) → (List ℕ → Entry) → Option Entry → Option Entry
or_else (Some x) entry other = Some (entry x)
or_else None entry other = other

unfoldable pub entry_of : List ℕ → Option Entry
entry_of line =
    if is_passed_over line then Some Nothing
    else or_else (value_of (codes "title ") 63 line) Title (or_else (value_of (codes "source ") 255 line) Source
    (or_else (value_of (codes "texture ") 255 line) Texture (or_else (value_of (codes "sound ") 255 line) Sound None)))
