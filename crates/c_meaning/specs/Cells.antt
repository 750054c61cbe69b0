-- Loops over cells, stores, and structures and unions that are values (the C language guide, sections on structures and on initialisers).
use Rattle.std.specs.Prelude.{ℕ, zero, suc, ◌+◌, List, Option, Some, None, Ok, option_map, if◌then◌else◌}
use Rattle.c_tree.specs.declared.span.Span.{Span}
use Rattle.c_types.specs.Types.{Ty, VoidY, IntY, BoolY, EnumY, StructY, UnionY, PointerY, ArrayY}
use Rattle.obj_mem.specs.declared.cell.Cell.{Cell}
use Rattle.obj_mem.specs.declared.cell.Cell.TheVariants.{Num, Ptr}
use Rattle.obj_mem.specs.Objects.{ObjectT, end_object}
use Rattle.obj_mem.specs.Stores.{Store, with_objects, with_temporary, next_object}
use Rattle.obj_mem.specs.Worlds.{World, on_store, spend}
use Rattle.obj_mem.specs.Queries.{Answer, then_ask, read, write, further}
use Rattle.c_meaning.specs.declared.end.End.TheVariants.{Stray, OutOfBound}
use Rattle.c_types.specs.Kinds.{is_structure}
use Rattle.c_meaning.specs.Setting.{Setting, words}
use Rattle.c_meaning.specs.Operators.{read_as}
use Rattle.c_meaning.specs.Outcomes.{Val, Value, Stops, Went, Through, CutOff, asked, then_went}

-- ---- one turn per cell

-- what a turn sets a cell to: the cell at a pointer, or 0
abbrev pub source : Option Cell → List ObjectT → Answer Cell
source None os = Ok (Num 0)
source (Some p) os = read os p

abbrev pub cell_set : Option Cell → Cell → List ObjectT → Answer (List ObjectT)
cell_set from to os = then_ask (source from os) (λ c. write os to c)

-- A further turn, where cells are left, has one less of the bound.
abbrev pub next_turn : (left bound : ℕ) → World → (ℕ → World → Went) → Went
next_turn zero n w go = Through w
next_turn (suc left) zero w go = CutOff OutOfBound w
next_turn (suc left) (suc n) w go = go n w

-- So many cells are copied, or set to 0, one per turn; a cell costs so much work. Cells are copied as they are, unwritten ones among them.
abbrev pub cells_set : Span → (cost bound count : ℕ) → (from : Option Cell) → (to : Cell) → World → Went
cells_set span cost n zero from to w = Through w
cells_set span cost n (suc left) from to w =
    asked CutOff span (spend cost w) (cell_set from to w.store.objects) (λ os.
    next_turn left n (on_store (with_objects os) (spend cost w)) (λ m v. cells_set span cost m left (option_map (λ p. further p 1) from) (further to 1) v))

-- ---- structures and unions as values

-- A structure or union that is a value stands in an object of the call that no pointer of the program leads to, as an object with temporary
-- lifetime does in C. It is made where the value comes about, and ends where the value was used.
abbrev pub end_temporary : Cell → Store → Store
end_temporary (Ptr o i) u = with_objects (end_object u.objects o) u
end_temporary _ u = u

-- a value of that type was used
abbrev pub released : Ty → Cell → Store → Store
released ty c u = if is_structure ty then end_temporary c u else u

abbrev pub structure_read : Span → (bound size : ℕ) → Cell → World → Val
structure_read span n size p w =
    then_went Stops (cells_set span 1 n size (Some p) (next_object w.store) (on_store (with_temporary size) w)) (λ v. Value (next_object w.store) v)

-- ---- reading and storing

abbrev pub scalar_read : Ty → Span → Cell → World → Val
scalar_read ty span p w = asked Stops span w (read_as ty w.store.objects p) (λ c. Value c w)

-- The value of a place: of a scalar its cell, of a structure or union its cells, of an array a pointer to its first cell.
abbrev pub fetched : Setting → (bound : ℕ) → Ty → Span → Cell → World → Val
fetched s n VoidY span p w = Stops (Stray span) w
fetched s n IntY span p w = scalar_read IntY span p w
fetched s n BoolY span p w = scalar_read BoolY span p w
fetched s n (EnumY number) span p w = scalar_read (EnumY number) span p w
fetched s n (StructY number) span p w = structure_read span n (words s (StructY number)) p w
fetched s n (UnionY number) span p w = structure_read span n (words s (UnionY number)) p w
fetched s n (PointerY to) span p w = scalar_read (PointerY to) span p w
fetched s n (ArrayY of len) span p w = Value p w

-- A value of a type is stored at a place. Each cell costs `extra`, and one more where it is a structure's.
abbrev pub stored : Setting → (bound extra : ℕ) → Ty → Span → (place value : Cell) → World → Went
stored s n extra ty span p c w =
    if is_structure ty then cells_set span (extra + 1) n (words s ty) (Some c) p w
    else asked CutOff span (spend extra w) (write w.store.objects p c) (λ os. Through (on_store (with_objects os) (spend extra w)))

-- A member of a structure that is a value and no place: a structure again, or a cell that is read.
abbrev pub member_of_value : Ty → Span → (member : Cell) → World → Val
member_of_value ty span p w =
    if is_structure ty then Value p w
    else asked Stops span w (read_as ty w.store.objects p) (λ c. Value c (on_store (end_temporary p) w))
