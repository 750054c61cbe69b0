-- What is told of a function.
use Rattle.std.specs.Prelude.{ℕ, ◌≤◌, ◌<◌, List}
use Rattle.asm_items.specs.declared.item.AsmItem.{AsmItem}
use Rattle.asm_laws.specs.Labelled.{label_of_function}
use Rattle.asm_laws.specs.Numbers.{behind}
use Rattle.asm_laws.specs.Longest.{Forbids, IsLongest}
use Rattle.cycle_bound.specs.declared.bound.Bound.{Bound}
use Rattle.cycle_bound.specs.declared.bound.Bound.TheVariants.{Most, Over, Unbounded}

-- A number is the greatest count of instructions over the paths from a place; it is over 1,000,000,000,000; or a path comes where none may come.
abbrev pub IsBoundAt : List AsmItem → (place : List AsmItem) → Bound → Type 0
IsBoundAt items p (Most n) = IsLongest items p n × (n ≤ 1000000000000)
IsBoundAt items p Over = (n : ℕ) × IsLongest items p n × (1000000000000 < n)
IsBoundAt items p Unbounded = Forbids items p

-- of the function of that name, among these items
unfoldable pub IsBoundOf : List AsmItem → (name : List ℕ) → Bound → Type 0
IsBoundOf items name b = IsBoundAt items (behind items (label_of_function name)) b
