-- Objects told by those that live, with their numbers. So a memory need not keep what has ended.
use Rattle.std.specs.Prelude.{ℕ, suc, ◌≡◌, ◌≤◌, ◌<◌, ◌+◌, cond, eqb, ltb, List, [], ◌∷◌, ◌++◌, map, length, get_or, set, Option, Some, None}
use Rattle.std.specs.Option.{option_map}
use Rattle.std.specs.List.{range_with_len}
use Rattle.obj_mem.specs.declared.cell.Cell.{Cell}
use Rattle.obj_mem.specs.declared.cell.ObjectKind.{ObjectKind}
use Rattle.obj_mem.specs.declared.cell.ObjectKind.TheVariants.{Local}
use Rattle.obj_mem.specs.Objects.{ObjectT, object, ended, cell_at, read_refused, write_refused, unless_refused, cell_read, cell_written, made}
use Rattle.obj_mem.specs.Objects.{end_object, end_from}

-- an object that lives
pub record LiveT : Type 0 where
  pub number : ℕ
  pub kind : ObjectKind
  pub cells : List Cell

-- the object of a number: one of those that live, or one that has ended
abbrev pub found : List LiveT → ℕ → ObjectT
found [] o = ended
found (x ∷ xs) o = cond (eqb x.number o) (object x.kind x.cells) (found xs o)

-- all objects, where the one that is made next has that number
abbrev pub objects_of : List LiveT → (next : ℕ) → List ObjectT
objects_of live next = map (found live) (range_with_len 0 next)

-- The numbers rise, from a first one on, and are below the next.
abbrev pub Rises : (first next : ℕ) → List LiveT → Type 0
Rises first next [] = Unit {0}
Rises first next (x ∷ xs) = (first ≤ x.number) × (x.number < next) × Rises (x.number + 1) next xs

-- none, where one is read past the end
abbrev pub nothing : LiveT
nothing = record { number = 0; kind = Local; cells = [] }

abbrev pub live_at : List LiveT → ℕ → LiveT
live_at live k = get_or live k nothing

-- the number at a place
abbrev pub number_at : List LiveT → ℕ → ℕ
number_at live k = (live_at live k).number

abbrev pub as_object : LiveT → ObjectT
as_object x = object x.kind x.cells

-- the place of a number among them, where it lives
abbrev pub place_of : List LiveT → ℕ → Option ℕ
place_of [] o = None
place_of (x ∷ xs) o = cond (eqb x.number o) (Some 0) (option_map suc (place_of xs o))

-- ---- what is done to them

-- the object of that number has a cell written
abbrev pub live_written : (o i : ℕ) → Cell → List LiveT → List LiveT
live_written o i c [] = []
live_written o i c (x ∷ xs) = cond (eqb x.number o) (record x { cells = set x.cells i c } ∷ xs) (x ∷ live_written o i c xs)

-- the object at a place has a cell written
abbrev pub written_at : (at i : ℕ) → Cell → List LiveT → List LiveT
written_at at i c live = set live at (record (live_at live at) { cells = set (live_at live at).cells i c })

-- a new one is the last
abbrev pub live_made : List LiveT → (next : ℕ) → ObjectKind → List Cell → List LiveT
live_made live next kind cells = live ++ record { number = next; kind = kind; cells = cells } ∷ []

-- the one of that number is taken out
abbrev pub live_without : (o : ℕ) → List LiveT → List LiveT
live_without o [] = []
live_without o (x ∷ xs) = cond (eqb x.number o) xs (x ∷ live_without o xs)

-- those from a number on are cut off
abbrev pub live_below : (n : ℕ) → List LiveT → List LiveT
live_below n [] = []
live_below n (x ∷ xs) = cond (ltb x.number n) (x ∷ live_below n xs) []

-- What is done to all objects is done to those that live.
pub record ActsOnLiving (live : List LiveT) (next : ℕ) : Type 0 where
  pub counts : length (objects_of live next) ≡ next
  pub reads : (o i : ℕ) → cell_read (objects_of live next) o i ≡ unless_refused (read_refused (found live o) i) (cell_at (found live o) i)
  pub writes : (o i : ℕ) (c : Cell) → cell_written (objects_of live next) o i c ≡ unless_refused (write_refused (found live o) i)
      (objects_of (live_written o i c live) next)
  pub makes : (kind : ObjectKind) (cells : List Cell) → made (objects_of live next) kind cells ≡ objects_of (live_made live next kind cells) (next + 1)
  pub ends : (o : ℕ) → end_object (objects_of live next) o ≡ objects_of (live_without o live) next
  pub ends_from : (n : ℕ) → end_from n (objects_of live next) ≡ objects_of (live_below n live) next

-- and the numbers rise as before
pub record KeepsRising (live : List LiveT) (next : ℕ) : Type 0 where
  pub written : (o i : ℕ) (c : Cell) → Rises 0 next (live_written o i c live)
  pub made : (kind : ObjectKind) (cells : List Cell) → Rises 0 (next + 1) (live_made live next kind cells)
  pub without : (o : ℕ) → Rises 0 next (live_without o live)
  pub below : (n : ℕ) → Rises 0 next (live_below n live)

abbrev pub LivingTellsAll : Type 0
LivingTellsAll = (live : List LiveT) (next : ℕ) → Rises 0 next live → ActsOnLiving live next × KeepsRising live next
