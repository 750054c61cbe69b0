-- At which file the reading of a source failed.
use Rattle.std.specs.Prelude.{ℕ, List, Result, Err, Contains}
use Rattle.kit_base.specs.Held.{Held}
use Rattle.c_prep.specs.Files.{expansion_of}
use Rattle.c_prep.specs.Reached.{names_of, read_by}
use Rattle.c_front.specs.declared.error.FrontErr.{FrontErr}
use Rattle.c_front.specs.declared.error.FrontErr.TheVariants as errors
use Rattle.c_front.specs.declared.unit.Parsed.{Parsed}

-- A file of that name is read for the source: the source itself, or one that is included.
abbrev pub IsReadFor : Held → (source name : List ℕ) → Type 0
IsReadFor m source name = Contains (read_by names_of (expansion_of m source)) name

-- where the system failed, it was at such a file
abbrev pub FailsAtOne : Held → (source : List ℕ) → Result Parsed FrontErr → Type 0
FailsAtOne m source (Err (errors.Failed name)) = IsReadFor m source name
FailsAtOne m source _ = Unit {0}
