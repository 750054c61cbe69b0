-- The arguments of a call that go into registers, in an order in which no word is lost that is still to be taken.
use Rattle.std.specs.Prelude.{ℕ, ◌==◌, ◌||◌, Bool, false, cond, List, [], ◌∷◌, ◌++◌}
use Rattle.mid_code.specs.declared.placed.Where.{Where}
use Rattle.mid_code.specs.declared.placed.Where.TheVariants.{Reg, Slot}

-- the number of a register, and the place whose word it takes
abbrev pub Move : Type 0
Move = ℕ × Where

-- whether a place is the register of a number
abbrev pub is_register : Where → ℕ → Bool
is_register (Reg q) r = q == r
is_register (Slot k) r = false

-- the moves of arguments into registers where they don't stand already
abbrev pub wanted : (parameters arguments : List Where) → List Move
wanted [] args = []
wanted (p ∷ ps) [] = []
wanted (Slot k ∷ ps) (x ∷ args) = wanted ps args
wanted (Reg r ∷ ps) (x ∷ args) = cond (is_register x r) (wanted ps args) ((r, x) ∷ wanted ps args)

-- whether a move takes the word of a register
abbrev pub is_taken : ℕ → List Move → Bool
is_taken r [] = false
is_taken r ((t, s) ∷ ms) = is_register s r || is_taken r ms

-- the register that is written next: the first of some moves whose word none of all takes, else another
abbrev pub next_of : (all : List Move) → List Move → (other : ℕ) → ℕ
next_of all [] other = other
next_of all ((t, s) ∷ ms) other = cond (is_taken t all) (next_of all ms other) t

-- the place whose word a register takes
abbrev pub source_of : ℕ → List Move → Where
source_of r [] = Reg r
source_of r ((t, s) ∷ ms) = cond (r == t) s (source_of r ms)

-- A register is written. Where its word before is taken, it goes to register 10 first.
abbrev pub turn : ℕ → List Move → List Move
turn r ms = cond (is_taken r ms) ((10, Reg r) ∷ []) [] ++ (r, source_of r ms) ∷ []

-- the place where a word stands then
abbrev pub away : ℕ → Where → Where
away r s = cond (is_register s r) (Reg 10) s

-- the moves that are left then
abbrev pub left : ℕ → List Move → List Move
left r [] = []
left r ((t, s) ∷ ms) = cond (r == t) (left r ms) ((t, away r s) ∷ left r ms)

-- in as many turns as there are moves in the first list
abbrev pub ordered : (turns : List Move) → List Move → List Move
ordered [] ms = []
ordered (one ∷ turns) [] = []
ordered (one ∷ turns) ((t, s) ∷ ms) =
    turn (next_of ((t, s) ∷ ms) ((t, s) ∷ ms) t) ((t, s) ∷ ms) ++ ordered turns (left (next_of ((t, s) ∷ ms) ((t, s) ∷ ms) t) ((t, s) ∷ ms))

abbrev pub in_order : (parameters arguments : List Where) → List Move
in_order ps args = ordered (wanted ps args) (wanted ps args)
