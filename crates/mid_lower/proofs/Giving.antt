-- What a function gives back: nothing, a word, or a structure that it stores at a place handed to it.
use Rattle.std.proofs.Common.{◌≡◌, List, ◌∷◌, if◌then◌else◌}
use Rattle.c_types.specs.Types.{Ty}
use Rattle.obj_mem.specs.declared.cell.Cell.{Cell}
use Rattle.c_types.specs.Kinds.{is_structure, is_void}
use Rattle.mid_lower.proofs.Following.{Side}

pub data Giving : Type 0 where
  GivesNone : Giving
  GivesWord : Giving
  GivesAt : (place : Cell) → Giving

-- of a function whose result has this type, where a structure goes to this place
abbrev pub giving : Ty → (place : Cell) → Giving
giving ty r = if is_structure ty then GivesAt r else if is_void ty then GivesNone else GivesWord

-- what came back is what the tree returns
abbrev pub Given : Giving → Cell → Side → Type 0
Given GivesNone c x = ⊥
Given GivesWord c x = x.given ≡ c
Given (GivesAt r) c x = c ≡ r

-- what is handed to a function: the place of its result, where that is a structure, and its arguments
abbrev pub handed : Ty → (place : Cell) → List Cell → List Cell
handed ty r vs = if is_structure ty then r ∷ vs else vs
