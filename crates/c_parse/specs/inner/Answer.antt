-- What the parser answers of a fault: its token counted from the front, and a refused word apart.
use Rattle.std.specs.Prelude.{ℕ, ◌-◌, List, length, drop, Option, Some, None, Result, Ok, Err}
use Rattle.kit_base.specs.declared.failure.Failure.{Failure}
use Rattle.kit_base.specs.declared.failure.Failure.TheVariants as read
use Rattle.c_tree.specs.declared.item.Unit.{Unit as File}
use Rattle.c_parse.specs.declared.error.ParseErr.{ParseErr}
use Rattle.c_parse.specs.declared.error.ParseErr.TheVariants as errors
use Rattle.c_parse.specs.declared.fault.Fault.{Fault}
use Rattle.c_parse.specs.declared.fault.Fault.TheVariants.{Syntax, TooDeep}
use Rattle.c_parse.specs.Tok.{Tok}
use Rattle.c_parse.specs.Places.{refused_at}

abbrev pub bad_at : ℕ → Option ℕ → ParseErr
bad_at t None = errors.Syntax t
bad_at t (Some what) = errors.Unsupported t what

abbrev pub answer : List Tok → Failure Fault → ParseErr
answer ts read.Memory = errors.Memory
answer ts (read.Cause (Syntax n)) = bad_at (length ts - n) (refused_at (drop (length ts - n) ts))
answer ts (read.Cause (TooDeep n)) = errors.TooDeep (length ts - n)

abbrev pub answered : List Tok → Result File (Failure Fault) → Result File ParseErr
answered ts (Ok u) = Ok u
answered ts (Err e) = Err (answer ts e)
