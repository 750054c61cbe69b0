-- What promotion and improvement keep, one after another as often as one likes, and what `settle` promises.
use Rattle.std.specs.Prelude.{ℕ, ◌≡◌, ◌≤◌, ◌+◌, List, [], ◌∷◌, sum}
use Rattle.mid_code.specs.Code.{FunctionT, CodeT}
use Rattle.mid_code.specs.Runs.{mid_runs, weight}
use Rattle.mid_code.specs.Keeps.{KeepsRuns, WorksAtMost}
use Rattle.mid_code.specs.Invariants.{IsMid}
use Rattle.mid_code.specs.Calls.{AddsNone}
use Rattle.mid_code.specs.Plain.{IsPromoted}
use Rattle.mid_code.specs.Together.{WordsAtOnce}
use Rattle.mid_improve.specs.Settled.{IsSettled}

abbrev pub AllTwo : List ℕ → Type 0
AllTwo [] = Unit {0}
AllTwo (x ∷ xs) = (2 ≤ x) × AllTwo xs

pub record IsMadeFunction (f g : FunctionT ℕ) : Type 0 where
  -- it needs no more words in all, and gets no loop and no call of a function more
  pub frame_words : g.temps + sum g.locals ≤ f.temps + sum f.locals
  pub adds_none : AddsNone f.body g.body
  -- locals of two words or more that lived at once still do
  pub together : (sizes : List ℕ) → AllTwo sizes → WordsAtOnce f sizes → WordsAtOnce g sizes

abbrev pub EachMade : List (FunctionT ℕ) → List (FunctionT ℕ) → Type 0
EachMade [] [] = Unit {0}
EachMade (f ∷ fs) (g ∷ gs) = IsMadeFunction f g × EachMade fs gs
EachMade _ _ = ⊥

pub record IsMadeFrom (before after : CodeT ℕ) : Type 0 where
  pub is_mid : IsMid after
  -- whatever the sizes of the frames
  pub keeps : (frames : List ℕ) → KeepsRuns (mid_runs before frames) (mid_runs after frames)
  pub works : (frames : List ℕ) → WorksAtMost 1 (mid_runs before frames) (mid_runs after frames)
  pub weighs : weight after ≤ weight before
  pub functions : EachMade before.functions after.functions
  pub start_adds_none : AddsNone before.start.body after.start.body
  pub globals : after.globals ≡ before.globals
  pub literals : after.literals ≡ before.literals
  pub main : after.main ≡ before.main

-- no local of one word whose address is never taken is left, and the code is settled
pub record IsSettledFrom (before after : CodeT ℕ) : Type 0 where
  pub made : IsMadeFrom before after
  pub promoted : IsPromoted after
  pub settled : IsSettled after
