-- What `place` promises: mid code over registers and slots, with the sizes of frames.
use Rattle.std.specs.Prelude.{ℕ, ◌≡◌, ◌≤◌, ◌+◌, List, [], ◌∷◌, sum}
use Rattle.mid_code.specs.declared.placed.Where.{Where}
use Rattle.mid_code.specs.Code.{FunctionT, CodeT}
use Rattle.mid_code.specs.Placed.{PlacedT}
use Rattle.mid_code.specs.Runs.{mid_runs, placed_runs, weight}
use Rattle.mid_code.specs.Keeps.{KeepsRuns, WorksAtMost}
use Rattle.mid_code.specs.Invariants.{IsPlaced}
use Rattle.mid_code.specs.Choices.{slot_count}
use Rattle.mid_code.specs.Calls.{AddsNone, NoneAdd}
use Rattle.mid_code.specs.Together.{HoldsAtOnce}

-- A frame is at most the words of the locals and the slots. Each local has words of its own in it, so it holds the locals that live at once.
pub record IsFrameOf (f : FunctionT ℕ) (at : List Where) (size : ℕ) : Type 0 where
  pub at_most : size ≤ sum f.locals + slot_count at
  pub holds_all : sum f.locals ≤ size
  pub at_least : HoldsAtOnce f size

abbrev pub AreFrames : List (FunctionT ℕ) → List (List Where) → List ℕ → Type 0
AreFrames [] [] [] = Unit {0}
AreFrames (f ∷ fs) (c ∷ cs) (size ∷ sizes) = IsFrameOf f c size × AreFrames fs cs sizes
AreFrames _ _ _ = ⊥

abbrev pub FramesFit : CodeT ℕ → List (List Where) → List ℕ → Type 0
FramesFit m [] sizes = ⊥
FramesFit m (start ∷ cs) sizes = AreFrames m.functions cs sizes

-- Where the choices are safe.
pub record IsPlacedFrom (m : CodeT ℕ) (cs : List (List Where)) (x : PlacedT) : Type 0 where
  pub is_placed : IsPlaced x
  pub keeps : KeepsRuns (mid_runs m x.frames) (placed_runs x)
  pub works : WorksAtMost 1 (mid_runs m x.frames) (placed_runs x)
  pub weighs : weight x.code ≤ weight m
  pub frames : FramesFit m cs x.frames
  pub adds_none : NoneAdd m.functions x.code.functions
  pub start_adds_none : AddsNone m.start.body x.code.start.body
  pub globals : x.code.globals ≡ m.globals
  pub literals : x.code.literals ≡ m.literals
  pub main : x.code.main ≡ m.main
