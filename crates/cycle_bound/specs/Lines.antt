-- The lines that tell of functions (the kit's page on commands, the lines of `bounds`).
use Rattle.std.specs.Prelude.{ℕ, ◌≡◌, List, [], ◌∷◌, ◌++◌, codes}
use Rattle.std.specs.Fmt.{decimal}
use Rattle.std.specs.List.{AllZip, flat_map}
use Rattle.asm_items.specs.declared.item.AsmItem.{AsmItem}
use Rattle.cycle_bound.specs.declared.bound.Bound.{Bound}
use Rattle.cycle_bound.specs.declared.bound.Bound.TheVariants.{Most, Over, Unbounded}
use Rattle.cycle_bound.specs.Told.{IsBoundOf}

abbrev pub joined : List (List ℕ) → List ℕ
joined pieces = flat_map (λ p. p) pieces

-- each line ends with LF
unfoldable pub bound_line : (name : List ℕ) → Bound → List ℕ
bound_line name (Most n) = joined (codes "bound " ∷ name ∷ codes " " ∷ decimal n ∷ codes "\n" ∷ [])
bound_line name Over = joined (codes "bound " ∷ name ∷ codes " over\n" ∷ [])
bound_line name Unbounded = joined (codes "bound " ∷ name ∷ codes " none\n" ∷ [])

abbrev pub bound_lines : List (List ℕ) → List Bound → List ℕ
bound_lines (name ∷ names) (b ∷ bs) = bound_line name b ++ bound_lines names bs
bound_lines [] bs = []
bound_lines (name ∷ names) [] = []

-- Each function has among these items the bound that its line tells.
pub record IsTold (items : List AsmItem) (names : List (List ℕ)) (lines : List ℕ) : Type 0 where
  pub bounds : List Bound
  pub exact : AllZip (IsBoundOf items) names bounds
  pub lines_are : lines ≡ bound_lines names bounds
