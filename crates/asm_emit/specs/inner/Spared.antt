-- Register 8 in bodies that stand in memory.
use Rattle.std.specs.Prelude.{ℕ, Bool, false, cond, List, [], ◌∷◌, Option, Some, None}
use Rattle.mid_code.specs.declared.placed.Where.{Where}
use Rattle.mid_code.specs.Code.{NodesT, Do, FunctionT}
use Rattle.asm_laws.specs.Spare.{puts, count, used_by, spares, held_registers}

-- whether an operation that stands first puts a known word there, and how many behind it are done with it then
abbrev pub first_puts : NodesT Where → Bool
first_puts (Do o c) = puts o
first_puts _ = false

abbrev pub group_behind : NodesT Where → NodesT Where → ℕ
group_behind first c = cond (first_puts first) (count (used_by c)) 0

-- whether nodes spare the register, where so many in front are done already; nothing is said of what comes before that does not
abbrev pub spares_from : Option ℕ → NodesT Where → Bool
spares_from None c = false
spares_from (Some k) c = spares c k

-- how many registers each function holds places in
abbrev pub held_all : List (FunctionT Where) → List ℕ
held_all [] = []
held_all (f ∷ fs) = held_registers f.body ∷ held_all fs
