-- Rules of a node, and their answer.
use Rattle.std.specs.Prelude.{ℕ, Bool, List, [], ◌∷◌, Option, Some, None, Result, Ok, Err, if◌then◌else◌}
use Rattle.c_rules.specs.declared.code.Code.{Code}
use Rattle.c_rules.specs.declared.code.Code.TheVariants.{UnknownName, Twice, WrongType, NotAPlace, BadCall, BadPort, NoMain, InfiniteType}
use Rattle.c_rules.specs.declared.code.Code.TheVariants.{NotConstant, BreakOutside, TooLarge}

abbrev pub number_of : Code → ℕ
number_of UnknownName = 40
number_of Twice = 41
number_of WrongType = 42
number_of NotAPlace = 43
number_of BadCall = 44
number_of BadPort = 45
number_of NoMain = 46
number_of InfiniteType = 47
number_of NotConstant = 48
number_of BreakOutside = 49
number_of TooLarge = 50

-- a test that has to hold, and the code of the rule that is broken where it does not
pub record Demand : Type 0 where
  pub code : Code
  pub holds : Bool

abbrev pub demand : Code → Bool → Demand
demand code test = record { code = code; holds = test }

-- What a node gives, where the types of its parts allow something, else WrongType; and what it demands beside.
pub record Rule (A : Type 0) : Type 0 where
  pub gives : Option A
  pub demands : List Demand

-- the value, where all hold, else the first code that is broken
abbrev pub checked : {A : Type 0} → List Demand → A → Result A Code
checked [] x = Ok x
checked (d ∷ ds) x = if d.holds then checked ds x else Err d.code

abbrev pub judged_by : {A : Type 0} → Option A → List Demand → Result A Code
judged_by None ds = Err WrongType
judged_by (Some x) ds = checked ds x

-- the answer at a node
abbrev pub judged : {A : Type 0} → Rule A → Result A Code
judged rule = judged_by rule.gives rule.demands
