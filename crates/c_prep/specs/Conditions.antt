-- The conditions that are open in a file, the innermost first.
use Rattle.std.specs.Prelude.{ℕ, List, [], ◌∷◌, Bool, false, true, not, ◌||◌, Result, Ok, Err, if◌then◌else◌}
use Rattle.c_lex.specs.declared.token.Token.{Token}
use Rattle.c_prep.specs.declared.error.Fault.TheVariants.{BadDirective, OpenCondition}
use Rattle.c_prep.specs.declared.error.FaultAt.{FaultAt}
use Rattle.c_prep.specs.declared.conditions.Condition.{Condition}
use Rattle.c_prep.specs.Faults.{fault_at}

-- whether a part is skipped: what stands around the innermost condition is, or its own part is not taken
abbrev pub skips : List Condition → Bool
skips [] = false
skips (c ∷ cs) = c.around || not c.taken

abbrev pub begun : Token → Bool → List Condition → List Condition
begun hash taken cs = (record { line = hash.line; around = skips cs; taken = taken; turned = false }) ∷ cs

-- `#else`: the part behind it is taken where the first was not
abbrev pub turned : Token → List Condition → Result (List Condition) FaultAt
turned hash [] = Err (fault_at BadDirective hash)
turned hash (c ∷ cs) = if c.turned then Err (fault_at BadDirective hash) else Ok ((record c { taken = not c.taken; turned = true }) ∷ cs)

abbrev pub ended : Token → List Condition → Result (List Condition) FaultAt
ended hash [] = Err (fault_at BadDirective hash)
ended hash (c ∷ cs) = Ok cs

-- a file ends outside all conditions
abbrev pub closed : ℕ → List Condition → Result (Unit {0}) FaultAt
closed file [] = Ok tt
closed file (c ∷ cs) = Err (record { fault = OpenCondition; file = file; line = c.line })
