-- Initialisers lowered to mid code. A pointer to the object stands in p; the part that is filled begins so many words behind it. Offsets and sizes are
-- words, as in the meaning; in a program they are small.
use Rattle.std.specs.Prelude.{ℕ, zero, suc, ◌+◌, ◌-◌, ◌*◌, ◌%◌, ◌^◌, Bool, true, false, List, [], ◌∷◌, length}
use Rattle.c_types.specs.Types.{Ty, ArrayY}
use Rattle.c_types.specs.Typed.{TInitT, OneI, TextI, ListI, TInitTs, NoI, MoreI, TVarT}
use Rattle.c_types.specs.Kinds.{is_structure}
use Rattle.c_types.specs.Parts.{part_type}
use Rattle.mid_code.specs.declared.node.Op.TheVariants as o
use Rattle.lower_trees.specs.Shape.{Shape, words, literal_words}
use Rattle.lower_trees.specs.Flags.{is_flag}
use Rattle.lower_trees.specs.Pieces.{Piece, NothingP, ◌▸◌, EitherP, DoP}
use Rattle.lower_trees.specs.Parts.{from, to, item, object, copied, copied_on, zeroed, moved_by, converted}
use Rattle.lower_trees.specs.Counts.{init_temps, init_sizes, behind_address}
use Rattle.lower_trees.specs.Expressions.{low_value}

-- a pointer to the part comes to `to`
abbrev pub part_at : (p offset : ℕ) → Piece
part_at p zero = DoP (o.Move to p)
part_at p (suc offset) = moved_by to p (suc offset)

-- the word or pointer in `item` is stored in the part
abbrev pub cell_filled : (p offset : ℕ) → Piece
cell_filled p zero = DoP (o.Store p item)
cell_filled p (suc offset) = moved_by to p (suc offset) ▸ DoP (o.Store to item)

abbrev pub part_filled : Shape → Ty → (p offset : ℕ) → Piece
part_filled h ty p offset = EitherP (is_structure ty) (part_at p offset ▸ copied_on (words h ty) item) (cell_filled p offset)

-- so many cells of the part are set to 0
abbrev pub part_zeroed : (p offset size : ℕ) → Piece
part_zeroed p offset zero = NothingP
part_zeroed p offset (suc left) = part_at p offset ▸ zeroed (suc left)

-- A text is copied with its 0, and the cells behind it are set to 0.
abbrev pub low_text : Shape → (number size p offset : ℕ) → Piece
low_text h number size p offset =
    DoP (o.Literal from number) ▸ part_at p offset ▸ copied (literal_words h number)
    ▸ part_zeroed p ((offset + literal_words h number) % 2 ^ 32) (size - literal_words h number)

-- the elements of an array from a number on are set to 0
abbrev pub low_rest : Shape → Ty → (k : ℕ) → (p offset : ℕ) → Piece
low_rest h (ArrayY of len) k p offset = part_zeroed p offset (words h of * (len - k) % 2 ^ 32)
low_rest h _ k p offset = NothingP

abbrev mutual
  pub low_init : Shape → TInitT → Ty → (p offset n m : ℕ) → Piece
  low_init h (OneI x) ty p offset n m = low_value h x item n m ▸ converted ty (is_flag x) item ▸ part_filled h ty p offset
  low_init h (TextI number) ty p offset n m = low_text h number (words h ty) p offset
  low_init h (ListI items) ty p offset n m = low_inits h items ty 0 p offset n m

  -- the items from the part of that number on
  pub low_inits : Shape → TInitTs → Ty → (k : ℕ) → (p offset n m : ℕ) → Piece
  low_inits h NoI ty k p offset n m = low_rest h ty k p offset
  low_inits h (MoreI i rest) ty k p offset n m =
      low_init h i (part_type h.layouts ty k) p offset n m
      ▸ low_inits h rest ty (k + 1) p ((offset + words h (part_type h.layouts ty k)) % 2 ^ 32) (n + init_temps i) (m + length (init_sizes h i))

-- ---- variables

-- The address of a variable that takes one value stands in a temporary of its own.
abbrev pub address_of : TInitT → (n : ℕ) → ℕ
address_of (OneI x) n = n
address_of (TextI number) n = object
address_of (ListI items) n = object

abbrev pub object_to : (global : Bool) → (number t : ℕ) → Piece
object_to true number t = DoP (o.Global t number)
object_to false number t = DoP (o.Local t number)

abbrev pub low_vars : Shape → List TVarT → (n m : ℕ) → Piece
low_vars h [] n m = NothingP
low_vars h (v ∷ vs) n m =
    object_to v.global v.object (address_of v.init n) ▸ low_init h v.init v.ty (address_of v.init n) 0 (behind_address v.init n) m
    ▸ low_vars h vs (behind_address v.init n + init_temps v.init) (m + length (init_sizes h v.init))
