-- Calls of functions stay within their bounds where a program runs.
use Rattle.std.specs.Prelude.{ℕ, List, Option}
use Rattle.std.specs.List.{AllZip}
use Rattle.v32_isa.specs.Calls.{CallsTakeAtMost}
use Rattle.v32_isa.specs.Runs.{machine_runs}
use Rattle.obj_mem.specs.Runs.{IsCard, Meaning}
use Rattle.mid_code.specs.Agrees.{Matches}
use Rattle.cycle_bound.specs.declared.bound.Bound.{Bound}
use Rattle.cycle_bound.specs.declared.bound.Bound.TheVariants.{Most, Over, Unbounded}

-- Within so many steps of a run each call of the function at an address is over, or the run has ended, when it has done as many instructions as its
-- number says, those of called functions and its return counted. Without a number nothing is said.
abbrev pub HoldsFor : (words answers : List ℕ) (card : Option (List ℕ)) (within : ℕ) → (address : ℕ) → Bound → Type 0
HoldsFor words answers card within address (Most n) = CallsTakeAtMost words answers card within address n
HoldsFor words answers card within address Over = Unit {0}
HoldsFor words answers card within address Unbounded = Unit {0}

-- So of the functions at these addresses, for every bound of the meaning, answers and card, in a number of steps in which the words do what is meant:
-- the whole run where it ends, at least as many as the bound where it goes on, and else up to where it strays or has no room for a frame.
abbrev pub StayWithin : (globals : List ℕ) → Meaning → (words : List ℕ) → (addresses : List ℕ) → List Bound → Type 0
StayWithin globals meaning words addresses bounds =
    (n : ℕ) (answers : List ℕ) (card : Option (List ℕ)) → IsCard card
    → (steps : ℕ) × Matches globals n steps (meaning n answers card) (machine_runs words answers card steps)
    × AllZip (HoldsFor words answers card steps) addresses bounds
