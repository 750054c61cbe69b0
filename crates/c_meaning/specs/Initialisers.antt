-- What initialisers do (the C language guide, section on initialisers).
use Rattle.std.specs.Prelude.{ℕ, ◌+◌, ◌-◌, ◌*◌, Bool, true, false, List, [], ◌∷◌, Option, Some, None, Ok}
use Rattle.c_types.specs.Types.{Ty, ArrayY}
use Rattle.c_types.specs.Typed.{TExprT, TInitT, OneI, TextI, ListI, TInitTs, NoI, MoreI, TVarT}
use Rattle.obj_mem.specs.declared.cell.Cell.{Cell}
use Rattle.obj_mem.specs.Stores.{Store, local_object}
use Rattle.obj_mem.specs.Worlds.{World, on_store, spend}
use Rattle.obj_mem.specs.Queries.{Answer, further, first_cell}
use Rattle.c_meaning.specs.Outcomes.{Val, Went, Through, CutOff, Before, nowhere, asked, then_went}
use Rattle.c_types.specs.Parts.{part_type}
use Rattle.c_meaning.specs.Setting.{Setting, words, global_at, literal_at, literal_words}
use Rattle.c_meaning.specs.Operators.{converted}
use Rattle.c_meaning.specs.Cells.{cells_set, stored, released}
use Rattle.c_meaning.specs.Expressions.{with_value, evaluated}

-- one value: each cell that is set costs one
abbrev pub one_filled : Setting → (bound : ℕ) → Ty → TExprT → (place : Cell) → Val → Went
one_filled s n ty x p v =
    with_value CutOff s n x v (λ c w.
    asked CutOff nowhere w (converted ty c) (λ z.
    then_went CutOff (stored s n 1 ty nowhere p z w) (λ u. Through (on_store (released ty z) u))))

-- A text is copied with its 0 in one loop, and the cells behind it are set to 0 in another.
abbrev pub text_filled : Setting → (bound number size : ℕ) → (place : Cell) → World → Went
text_filled s n number size p w =
    then_went CutOff (cells_set nowhere 1 n (literal_words s number) (Some (literal_at s number)) p w) (λ v.
    cells_set nowhere 1 n (size - literal_words s number) None (further p (literal_words s number)) v)

-- The elements of an array from a number on are set to 0, in a loop of one turn per cell; what else no item names stays.
abbrev pub rest_filled : Setting → (bound : ℕ) → Ty → (k : ℕ) → (place : Cell) → World → Went
rest_filled s n (ArrayY of len) k p w = cells_set nowhere 1 n (words s of * (len - k)) None p w
rest_filled s n _ k p w = Through w

-- An initialiser fills the object, or the part of one, of this type, that begins at the place. The items of a list fill the parts, which follow
-- each other.
abbrev mutual
  pub filled : Setting → (bound : ℕ) → Before → TInitT → Ty → (place : Cell) → World → Went
  filled s n prev (OneI x) ty p w = one_filled s n ty x p (evaluated s n prev x (spend 1 w))
  filled s n prev (TextI number) ty p w = text_filled s n number (words s ty) p (spend 1 w)
  filled s n prev (ListI items) ty p w = all_filled s n prev items ty 0 p (spend 1 w)

  -- the items from the part of that number on, which begins at the place
  pub all_filled : Setting → (bound : ℕ) → Before → TInitTs → Ty → (k : ℕ) → (place : Cell) → World → Went
  all_filled s n prev NoI ty k p w = rest_filled s n ty k p w
  all_filled s n prev (MoreI i rest) ty k p w =
      then_went CutOff (filled s n prev i (part_type s.layouts ty k) p w) (λ v.
      all_filled s n prev rest ty (k + 1) (further p (words s (part_type s.layouts ty k))) v)

-- a global, or a local of the function that is called
abbrev pub object_of : Bool → ℕ → Store → Answer Cell
object_of true number u = Ok (global_at number)
object_of false number u = first_cell (local_object u.locals number)

abbrev pub variable_filled : Setting → (bound : ℕ) → Before → TVarT → World → Went
variable_filled s n prev v w = asked CutOff nowhere w (object_of v.global v.object w.store) (λ p. filled s n prev v.init v.ty p (spend 1 w))

abbrev pub variables_filled : Setting → (bound : ℕ) → Before → List TVarT → World → Went
variables_filled s n prev [] w = Through w
variables_filled s n prev (v ∷ vs) w = then_went CutOff (variable_filled s n prev v w) (variables_filled s n prev vs)
