-- What `replace` promises: the words of some locals are held in temporaries.
use Rattle.std.specs.Prelude.{ℕ, ◌≡◌, ◌≤◌, ◌+◌, List, [], ◌∷◌}
use Rattle.mid_code.specs.Code.{FunctionT, CodeT}
use Rattle.mid_code.specs.Runs.{mid_runs, weight}
use Rattle.mid_code.specs.Keeps.{KeepsRuns, WorksAtMost}
use Rattle.mid_code.specs.Invariants.{IsMid}
use Rattle.mid_code.specs.Open.{LiveAtOnce}
use Rattle.mid_code.specs.Calls.{AddsNone, nesting}

-- A function keeps its locals, also those that are held, and has at most sixteen temporaries more.
pub record IsReplacedFunction (f g : FunctionT ℕ) : Type 0 where
  pub locals : g.locals ≡ f.locals
  pub temporaries : g.temps ≤ f.temps + 16
  pub at_once : (ks : List ℕ) → LiveAtOnce f.body ks → LiveAtOnce g.body ks
  pub adds_none : AddsNone f.body g.body
  pub nests : nesting g.body ≡ nesting f.body

abbrev pub EachReplaced : List (FunctionT ℕ) → List (FunctionT ℕ) → Type 0
EachReplaced [] [] = Unit {0}
EachReplaced (f ∷ fs) (g ∷ gs) = IsReplacedFunction f g × EachReplaced fs gs
EachReplaced _ _ = ⊥

pub record IsReplacedFrom (before after : CodeT ℕ) : Type 0 where
  pub is_mid : IsMid after
  -- whatever the sizes of the frames
  pub keeps : (frames : List ℕ) → KeepsRuns (mid_runs before frames) (mid_runs after frames)
  pub works : (frames : List ℕ) → WorksAtMost 1 (mid_runs before frames) (mid_runs after frames)
  pub weighs : weight after ≤ weight before
  pub functions : EachReplaced before.functions after.functions
  pub start : after.start ≡ before.start
  pub globals : after.globals ≡ before.globals
  pub literals : after.literals ≡ before.literals
  pub main : after.main ≡ before.main
