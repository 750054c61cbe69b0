-- That the answer at a node has the lowest code that is broken there.
use Rattle.std.specs.Prelude.{◌≡◌, ℕ, ◌<◌, ◌==◌, Bool, true, false, ◌&&◌, ◌||◌, not, List, [], ◌∷◌, Option, Some, None, Result, Ok, Err, nat_le, if◌then◌else◌}
use Rattle.c_rules.specs.declared.code.Code.{Code}
use Rattle.c_rules.specs.declared.code.Code.TheVariants.{WrongType}
use Rattle.c_rules.specs.Rules.{number_of, Demand, demand, Rule, judged}

abbrev pub is_given : {A : Type 0} → Option A → Bool
is_given None = false
is_given (Some x) = true

abbrev pub breaks : ℕ → List Demand → Bool
breaks n [] = false
breaks n (d ∷ ds) = ((number_of d.code == n) && not d.holds) || breaks n ds

-- whether the rule of that number is broken, in whatever order they stand
abbrev pub is_broken : {A : Type 0} → Rule A → ℕ → Bool
is_broken rule n = breaks n (demand WrongType (is_given rule.gives) ∷ rule.demands)

abbrev pub IsLowest : {A : Type 0} → Rule A → Result A Code → Type 0
IsLowest rule (Ok x) = (rule.gives ≡ Some x) × ((n : ℕ) → is_broken rule n ≡ false)
IsLowest rule (Err code) = (is_broken rule (number_of code) ≡ true) × ((n : ℕ) → n < number_of code → is_broken rule n ≡ false)

abbrev pub HasLowest : {A : Type 0} → Rule A → Type 0
HasLowest rule = IsLowest rule (judged rule)

-- The answer of two rules at one node: the second's value, else the lowest code that either has.
abbrev pub lower : Code → Code → Code
lower c d = if nat_le (number_of c) (number_of d) then c else d

abbrev pub joined : {A B : Type 0} → Result A Code → Result B Code → Result B Code
joined (Ok x) second = second
joined (Err c) (Ok y) = Err c
joined (Err c) (Err d) = Err (lower c d)
