-- The text of a map: the program's words, a line per function in order, a line per global. Hold it
-- against the kit's page on map files.
use Rattle.std.specs.Prelude.{ℕ, List, [], ◌∷◌, ◌++◌, codes}
use Rattle.std.specs.List.{flat_map}
use Rattle.std.specs.Fmt.{decimal}
use Rattle.kit_base.specs.Digits.{word_digits}
use Rattle.project_text.specs.declared.map.Map.{Map}

abbrev pub joined : List (List ℕ) → List ℕ
joined pieces = flat_map (λ p. p) pieces

-- a word, a name, an address and a size in words
unfoldable pub row_text : List ℕ → List ℕ × ℕ × ℕ → List ℕ
row_text word row = joined (word ∷ row.0 ∷ codes " 0x" ∷ word_digits row.1 ∷ codes " " ∷ decimal row.2 ∷ codes "\n" ∷ [])

unfoldable pub map_text : Map → List ℕ
map_text m = joined (codes "code " ∷ decimal m.code ∷ codes "\n" ∷ [])
    ++ flat_map (row_text (codes "frame ")) m.frames ++ flat_map (row_text (codes "global ")) m.globals
