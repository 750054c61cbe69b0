-- The second bytes of marks.
use Rattle.std.specs.Prelude.{ℕ, List, [], ◌∷◌, Bool, false, ◌||◌, ◌==◌}

abbrev pub is_second : ℕ → Bool
is_second b = (b == 61) || ((b == 62) || ((b == 60) || ((b == 124) || ((b == 38) || ((b == 43) || (b == 45))))))

-- a mark of several bytes may stand at the front
abbrev pub goes_on : List ℕ → Bool
goes_on [] = false
goes_on (a ∷ []) = false
goes_on (a ∷ b ∷ bs) = is_second b
