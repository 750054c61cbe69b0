-- What private clauses cite.
use Rattle.std.specs.Prelude.{◌≡◌, Result, Ok, Err}
use Rattle.c_tree.specs.View.{unit}
use Rattle.c_parse.specs.Tok.{toks}
use Rattle.c_parse.specs.Units.{Derives}
use Rattle.c_front.specs.declared.error.FrontErr.{FrontErr}
use Rattle.c_front.specs.declared.error.FrontErr.TheVariants as errors
use Rattle.c_front.specs.declared.places.Places.{Places}
use Rattle.c_front.specs.declared.unit.Parsed.{Parsed}
use Rattle.c_front.specs.Due.{IsNoUnit}

-- this refusal, unless memory ran out
abbrev pub Tells : FrontErr → FrontErr → Type 0
Tells errors.Memory due_one = Unit {0}
Tells e due_one = e ≡ due_one

-- the tokens do not parse, unless memory ran out
abbrev pub Faults : Places → FrontErr → Type 0
Faults p errors.Memory = Unit {0}
Faults p e = IsNoUnit p e

-- a unit of tokens that stand there, or why they are none, unless memory ran out
abbrev pub Parses : Places → Result Parsed FrontErr → Type 0
Parses p (Ok q) = (q.places ≡ p) × Derives (toks p.tokens) (unit q.unit)
Parses p (Err e) = Faults p e
