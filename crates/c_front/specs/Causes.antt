-- Which answers come, and why, where nothing is told of the files.
use Rattle.std.specs.Prelude.{ℕ, ◌≡◌, ◌≢◌, ◌≤◌, List, length, Result, Err}
use Rattle.c_tree.specs.Count.{unit_nodes}
use Rattle.c_tree.specs.Depth.{unit_depth}
use Rattle.c_tree.specs.View.{unit}
use Rattle.c_front.specs.declared.error.FrontErr.{FrontErr}
use Rattle.c_front.specs.declared.error.FrontErr.TheVariants as errors
use Rattle.c_front.specs.declared.unit.Parsed.{Parsed}

-- the system failed
abbrev pub HasFailed : Result Parsed FrontErr → Type 0
HasFailed (Err (errors.Failed name)) = Unit {0}
HasFailed _ = ⊥

-- a file is not held: the source, or one that is included
abbrev pub Lacks : Result Parsed FrontErr → Type 0
Lacks (Err (errors.Missing name)) = Unit {0}
Lacks (Err (errors.Source code file line)) = code ≡ 21
Lacks _ = ⊥

-- a file is too long
abbrev pub IsOver : Result Parsed FrontErr → Type 0
IsOver (Err (errors.Limit name)) = Unit {0}
IsOver _ = ⊥

-- a file that is called missing is the source
abbrev pub MissesOnly : List ℕ → FrontErr → Type 0
MissesOnly source (errors.Missing name) = name ≡ source
MissesOnly source e = Unit {0}

-- a refusal of tokens, or of memory
abbrev pub IsOfTokens : FrontErr → Type 0
IsOfTokens (errors.Source code file line) = code ≢ 21
IsOfTokens errors.Memory = Unit {0}
IsOfTokens e = ⊥

-- the limits of a unit
pub record IsWithin (p : Parsed) : Type 0 where
  pub tokens : length p.places.tokens ≤ 200000
  pub nodes : unit_nodes (unit p.unit) ≤ 200000
  pub depth : unit_depth (unit p.unit) ≤ 200
