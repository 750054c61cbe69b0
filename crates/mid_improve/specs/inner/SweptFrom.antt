-- What the sweep promises.
use Rattle.std.specs.Prelude.{ℕ, ◌≡◌, ◌<◌, List, [], ◌∷◌, ◌⊎◌}
use Rattle.mid_code.specs.Code.{FunctionT, CodeT}
use Rattle.mid_code.specs.Runs.{mid_runs, weight}
use Rattle.mid_code.specs.Invariants.{AllOf, IsMid}
use Rattle.mid_code.specs.Keeps.{KeepsRuns, WorksAtMost}
use Rattle.mid_code.specs.Paths.{Each}
use Rattle.mid_code.specs.Skeleton.{skeleton}
use Rattle.mid_fold.specs.Lasting.{no_words, lasting}
use Rattle.mid_improve.specs.Settled.{IsWanted}

-- A function keeps its temporaries, parameters and locals, and all but operations that put something into a temporary.
pub record IsSweptFunction (f g : FunctionT ℕ) : Type 0 where
  pub temporaries : g.temps ≡ f.temps
  pub params : g.params ≡ f.params
  pub locals : g.locals ≡ f.locals
  pub gives : g.gives ≡ f.gives
  pub stays : skeleton g.body ≡ skeleton f.body
  pub divisions : lasting no_words g.body ≡ lasting no_words f.body

abbrev pub EachSwept : List (FunctionT ℕ) → List (FunctionT ℕ) → Type 0
EachSwept [] [] = Unit {0}
EachSwept (f ∷ fs) (g ∷ gs) = IsSweptFunction f g × EachSwept fs gs
EachSwept _ _ = ⊥

abbrev pub HasWanted : FunctionT ℕ → Type 0
HasWanted f = Each IsWanted [] f.body

-- nothing was to be taken out
pub record IsSweptAlready (before after : CodeT ℕ) : Type 0 where
  pub same : after ≡ before
  pub start : HasWanted before.start
  pub functions : AllOf HasWanted before.functions

pub record IsSweptFrom (before after : CodeT ℕ) : Type 0 where
  pub is_mid : IsMid after
  pub keeps : (frames : List ℕ) → KeepsRuns (mid_runs before frames) (mid_runs after frames)
  pub works : (frames : List ℕ) → WorksAtMost 1 (mid_runs before frames) (mid_runs after frames)
  -- something was taken out, and weighs nothing any more; or it is what it was
  pub weighs : (weight after < weight before) ⊎ IsSweptAlready before after
  pub start : IsSweptFunction before.start after.start
  pub functions : EachSwept before.functions after.functions
  pub globals : after.globals ≡ before.globals
  pub literals : after.literals ≡ before.literals
  pub main : after.main ≡ before.main
