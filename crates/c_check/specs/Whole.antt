-- Units and programs.
use Rattle.std.specs.Prelude.{◌≡◌, ◌≤◌, ℕ, Bool, ◌&&◌, List, [], ◌∷◌, slice_get, Option, Some, None, Result, Ok, codes, if◌then◌else◌}
use Rattle.c_tree.specs.declared.span.Span.{Span}
use Rattle.c_tree.specs.Tree.{ItemT, RecordD, EnumD, TypedefD, VarsD, FunctionD}
use Rattle.c_tree.specs.Count.{unit_nodes}
use Rattle.c_types.specs.Programs.{TFunctionT, ProgramT}
use Rattle.c_rules.specs.declared.code.Code.TheVariants.{NoMain}
use Rattle.c_types.specs.Kinds.{is_void}
use Rattle.c_rules.specs.Kinds.{holds}
use Rattle.c_exprs.specs.Env.{Text, find}
use Rattle.c_exprs.specs.declared.error.Fault.{Fault}
use Rattle.c_exprs.specs.Faults.{at, ◌>>=◌, known}
use Rattle.c_check.specs.Reading.{Un, opening, bodies_of, same_types}
use Rattle.c_check.specs.inner.ItemTyping.{items}
use Rattle.c_check.specs.ItemTypes.{Items}
use Rattle.c_check.specs.ItemBreaks.{NoItems}

-- whether a function takes and gives nothing
abbrev pub is_plain : TFunctionT → Bool
is_plain f = same_types f.params [] && is_void f.gives

abbrev pub plain_number : List TFunctionT → Option ℕ → Option ℕ
plain_number fs None = None
plain_number fs (Some k) = if holds is_plain (slice_get fs k) then Some k else None

-- the number of `void main()`
abbrev pub main_of : Un → Option ℕ
main_of un = plain_number un.functions (find (codes "main") un.bodies)

abbrev pub program_of : Un → ℕ → ProgramT
program_of un main = record { layouts = un.layouts; globals = un.globals; inits = un.inits; literals = un.texts; functions = un.functions; main = main }

abbrev pub item_span : ItemT → Span
item_span (RecordD is_union name members s) = s
item_span (EnumD name values s) = s
item_span (TypedefD ty name s) = s
item_span (VarsD vs s) = s
item_span (FunctionD gives name params body s) = s

-- the last token behind this one
abbrev pub last_from : ℕ → List ItemT → ℕ
last_from token [] = token
last_from token (i ∷ is) = last_from (item_span i).last is

-- the last token; token 0 of a unit without items
abbrev pub last_token : List ItemT → Span
last_token all = record { first = last_from 0 all; last = last_from 0 all }

-- The program of a unit whose items are typed and that has a `void main()`.
pub data WellTyped (all : List ItemT) : ProgramT → Type 0 where
  unit : {un : Un} {k : ℕ} → Items (opening (bodies_of all)) all tt un → main_of un ≡ Some k → WellTyped all (program_of un k)

-- A program is that of a well typed unit, of at most so many nodes.
abbrev pub IsProgram : ProgramT → Type 0
IsProgram p = (all : List ItemT) × WellTyped all p × (unit_nodes all ≤ 200000)

-- The rule that a unit breaks first; that there is no `main` is told at its last token.
pub data FirstBroken (all : List ItemT) : Fault → Type 0 where
  items_break : {fault : Fault} → NoItems (opening (bodies_of all)) all fault → FirstBroken all fault
  no_main : {un : Un} → Items (opening (bodies_of all)) all tt un → main_of un ≡ None → FirstBroken all (at (last_token all) NoMain)

-- the same as a function
unfoldable pub checked : List ItemT → Result ProgramT Fault
checked all = do
  x ← items (opening (bodies_of all)) all
  k ← known (last_token all) NoMain (main_of x.1)
  Ok (program_of x.1 k)
