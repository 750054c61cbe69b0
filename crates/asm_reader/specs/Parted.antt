-- A list in parts, between which one mark stands.
use Rattle.std.specs.Prelude.{List, [], ◌∷◌, Bool, if◌then◌else◌}

abbrev pub with_first : {A : Type 0} → A → List (List A) → List (List A)
with_first x [] = (x ∷ []) ∷ []
with_first x (part ∷ parts) = (x ∷ part) ∷ parts

unfoldable pub parted : {A : Type 0} → (A → Bool) → List A → List (List A)
parted is_mark [] = [] ∷ []
parted is_mark (x ∷ xs) = if is_mark x then [] ∷ parted is_mark xs else with_first x (parted is_mark xs)
