-- What calls of the evaluator answer.
use Rattle.std.specs.Prelude.{◌≡◌, Result, Ok, Err}
use Rattle.kit_base.specs.declared.failure.Failure.{Failure}
use Rattle.kit_base.specs.declared.failure.Failure.TheVariants.{Memory, Cause}
use Rattle.c_meaning.specs.declared.end.End.{End}
use Rattle.c_evaluate.specs.inner.Machine.{Config, Over}

abbrev pub Stop : Type 0
Stop = Failure End

abbrev pub Stops : Stop → Config → Type 0
Stops Memory due = Unit {0}
Stops (Cause end) due = due ≡ Over end

-- The step leads to the configuration that is due.
abbrev pub Leads : {X : Type 0} → (X → Config) → Result X Stop → Config → Type 0
Leads seen (Ok x) due = due ≡ seen x
Leads seen (Err e) due = Stops e due
