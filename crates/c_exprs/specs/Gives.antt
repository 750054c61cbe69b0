-- What a function of the checker answers.
use Rattle.std.specs.Prelude.{List, Result, Ok, Err}
use Rattle.kit_base.specs.declared.failure.Failure.{Failure}
use Rattle.kit_base.specs.declared.failure.Failure.TheVariants.{Memory, Cause}
use Rattle.c_tree.specs.declared.span.Span.{Span}
use Rattle.c_rules.specs.declared.code.Code.{Code}
use Rattle.c_exprs.specs.declared.error.Fault.{Fault}
use Rattle.c_exprs.specs.Env.{Text}
use Rattle.c_exprs.specs.Faults.{at}

-- what a rule answered, with its code at a node
abbrev pub taken : {X : Type 0} → Span → Result X (Failure Code) → Result X (Failure Fault)
taken s (Ok x) = Ok x
taken s (Err (Cause k)) = Err (Cause (at s k))
taken s (Err Memory) = Err Memory

-- a tree or a type, and the texts after it
abbrev pub read : {Y : Type 0} → Y → List Text → Result (Y × List Text) Fault
read y us = Ok (y, us)
