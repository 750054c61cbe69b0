-- Labels put into a table one by one.
use Rattle.std.specs.Prelude.{ℕ, List, [], ◌∷◌}
use Rattle.assembler.specs.Labels.{with_label}

-- of two with one name the first stays
abbrev pub added : List (List ℕ × ℕ) → List (List ℕ × ℕ) → List (List ℕ × ℕ)
added labels [] = labels
added labels (l ∷ ls) = added (with_label labels l.0 l.1) ls
