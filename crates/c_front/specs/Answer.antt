-- What an answer says of tokens that are a unit.
use Rattle.std.specs.Prelude.{◌≡◌, List, Result, Ok, Err}
use Rattle.c_tree.specs.Tree.{ItemT}
use Rattle.c_tree.specs.View.{unit}
use Rattle.c_front.specs.declared.error.FrontErr.{FrontErr}
use Rattle.c_front.specs.declared.error.FrontErr.TheVariants as errors
use Rattle.c_front.specs.declared.unit.Parsed.{Parsed}

-- the unit of these items, unless a call of the files failed or memory ran out
abbrev pub IsUnitOf : List ItemT → Result Parsed FrontErr → Type 0
IsUnitOf ds (Ok p) = unit p.unit ≡ ds
IsUnitOf ds (Err errors.Memory) = Unit {0}
IsUnitOf ds (Err (errors.Failed name)) = Unit {0}
IsUnitOf ds (Err e) = ⊥

-- code 31, unless a call of the files failed or memory ran out
abbrev pub IsTooDeep : Result Parsed FrontErr → Type 0
IsTooDeep (Err (errors.Source code file line)) = code ≡ 31
IsTooDeep (Err errors.Memory) = Unit {0}
IsTooDeep (Err (errors.Failed name)) = Unit {0}
IsTooDeep _ = ⊥
