-- What `fold_words` promises.
use Rattle.std.specs.Prelude.{ℕ, ◌≡◌, List, [], ◌∷◌, Option}
use Rattle.mid_code.specs.Code.{FunctionT, CodeT}
use Rattle.mid_code.specs.Runs.{mid_runs, weight}
use Rattle.mid_code.specs.Invariants.{IsMid}
use Rattle.mid_code.specs.Skeleton.{skeleton}
use Rattle.mid_code.specs.Calls.{AddsNone, NoneAdd}
use Rattle.mid_fold.specs.Lasting.{no_words, lasting}

-- A function keeps its temporaries, parameters and locals, and all but operations that put something into a temporary and touch nothing else; of these it
-- keeps divisions and remainders but those by a known word other than 0.
pub record IsFoldedFunction (f g : FunctionT ℕ) : Type 0 where
  pub temporaries : g.temps ≡ f.temps
  pub params : g.params ≡ f.params
  pub locals : g.locals ≡ f.locals
  pub gives : g.gives ≡ f.gives
  pub stays : skeleton g.body ≡ skeleton f.body
  pub divisions : lasting no_words g.body ≡ lasting no_words f.body

abbrev pub EachFolded : List (FunctionT ℕ) → List (FunctionT ℕ) → Type 0
EachFolded [] [] = Unit {0}
EachFolded (f ∷ fs) (g ∷ gs) = IsFoldedFunction f g × EachFolded fs gs
EachFolded _ _ = ⊥

pub record IsFoldedFrom (before after : CodeT ℕ) : Type 0 where
  pub is_mid : IsMid after
  -- each run is the same: its port operations, its end, the words that it keeps, and its work
  pub runs : (frames : List ℕ) (n : ℕ) (answers : List ℕ) (card : Option (List ℕ)) →
      mid_runs after frames n answers card ≡ mid_runs before frames n answers card
  pub weighs : weight after ≡ weight before
  pub start : IsFoldedFunction before.start after.start
  pub functions : EachFolded before.functions after.functions
  pub adds_none : NoneAdd before.functions after.functions
  pub start_adds_none : AddsNone before.start.body after.start.body
  pub globals : after.globals ≡ before.globals
  pub literals : after.literals ≡ before.literals
  pub main : after.main ≡ before.main
