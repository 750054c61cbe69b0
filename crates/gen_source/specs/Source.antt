-- The texts of a program that is made up from a number. Hold them against the kit's page on commands.
use Rattle.std.specs.Prelude.{ℕ, zero, suc, ◌+◌, ◌-◌, List, [], ◌∷◌, ◌++◌, codes}
use Rattle.std.specs.List.{flat_map}
use Rattle.std.specs.Fmt.{decimal}

abbrev pub joined : List (List ℕ) → List ℕ
joined pieces = flat_map (λ p. p) pieces

unfoldable pub project_text : List ℕ
project_text = codes "title gen\nsource gen.c\n"

abbrev pub first_line : List ℕ
first_line = codes "int f0(int x) { return x + 1; }\n"

unfoldable pub function_head : ℕ → List ℕ
function_head own = joined (codes "int f" ∷ decimal own ∷ codes "(int x)" ∷ [])

unfoldable pub function_call : ℕ → List ℕ
function_call below = joined (codes " { return f" ∷ decimal below ∷ codes "(x)" ∷ [])

unfoldable pub function_end : ℕ → List ℕ
function_end own = joined (codes " ^ (x + " ∷ decimal own ∷ codes "); }\n" ∷ [])

-- the function of a number, which calls the one of another
unfoldable pub function_line : (own below : ℕ) → List ℕ
function_line own below = joined (function_head own ∷ function_call below ∷ function_end own ∷ [])

-- so many functions behind the first, each of which calls the one before it
abbrev pub function_lines : ℕ → List ℕ
function_lines zero = []
function_lines (suc n) = function_lines n ++ function_line (n + 1) n

unfoldable pub main_line : ℕ → List ℕ
main_line last = joined (codes "void main() { port_out(GPU_ClearColor, f" ∷ decimal last ∷ codes "(7)); }\n" ∷ [])

-- the source of so many functions, at least one, and of a `main` that calls the last
unfoldable pub source_text : ℕ → List ℕ
source_text count = joined (first_line ∷ function_lines (count - 1) ∷ main_line (count - 1) ∷ [])
