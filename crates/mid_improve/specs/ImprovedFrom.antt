-- What `improve` promises.
use Rattle.std.specs.Prelude.{ℕ, ◌≡◌, ◌≤◌, List, [], ◌∷◌}
use Rattle.mid_code.specs.Code.{FunctionT, CodeT}
use Rattle.mid_code.specs.Runs.{mid_runs, weight}
use Rattle.mid_code.specs.Invariants.{IsMid}
use Rattle.mid_code.specs.Keeps.{KeepsRuns, WorksAtMost}
use Rattle.mid_code.specs.Open.{LiveAtOnce}
use Rattle.mid_code.specs.Skeleton.{skeleton}
use Rattle.mid_code.specs.Calls.{AddsNone, NoneAdd}
use Rattle.mid_fold.specs.Lasting.{no_words, lasting}
use Rattle.mid_improve.specs.Settled.{IsSettled}

-- A function keeps its temporaries, parameters and locals, and all but operations that put something into a temporary and touch nothing else: blocks,
-- loops, choices, leaves, calls, loads, stores, what makes or ends a local, and port operations; and each division and remainder but those by a known word
-- other than 0. So locals that lived at once still do.
pub record IsImprovedFunction (f g : FunctionT ℕ) : Type 0 where
  pub temporaries : g.temps ≡ f.temps
  pub params : g.params ≡ f.params
  pub locals : g.locals ≡ f.locals
  pub gives : g.gives ≡ f.gives
  pub stays : skeleton g.body ≡ skeleton f.body
  pub divisions : lasting no_words g.body ≡ lasting no_words f.body
  pub together : (ks : List ℕ) → LiveAtOnce f.body ks → LiveAtOnce g.body ks

abbrev pub EachImproved : List (FunctionT ℕ) → List (FunctionT ℕ) → Type 0
EachImproved [] [] = Unit {0}
EachImproved (f ∷ fs) (g ∷ gs) = IsImprovedFunction f g × EachImproved fs gs
EachImproved _ _ = ⊥

-- what each step keeps
pub record IsNoWorseFrom (before after : CodeT ℕ) : Type 0 where
  pub is_mid : IsMid after
  -- whatever the sizes of the frames
  pub keeps : (frames : List ℕ) → KeepsRuns (mid_runs before frames) (mid_runs after frames)
  pub works : (frames : List ℕ) → WorksAtMost 1 (mid_runs before frames) (mid_runs after frames)
  pub weighs : weight after ≤ weight before
  pub start : IsImprovedFunction before.start after.start
  pub functions : EachImproved before.functions after.functions
  pub adds_none : NoneAdd before.functions after.functions
  pub start_adds_none : AddsNone before.start.body after.start.body
  pub globals : after.globals ≡ before.globals
  pub literals : after.literals ≡ before.literals
  pub main : after.main ≡ before.main

pub record IsImprovedFrom (before after : CodeT ℕ) : Type 0 where
  pub no_worse : IsNoWorseFrom before after
  pub settled : IsSettled after
