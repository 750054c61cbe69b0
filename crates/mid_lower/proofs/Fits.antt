-- What is known of the code of a program, and what is done with one less of a bound.
use Rattle.std.proofs.Common.{◌≡◌, ℕ, ◌+◌, List, ◌++◌, length, sum, get_or, slice_get, Some}
use Rattle.c_types.specs.Programs.{TFunctionT}
use Rattle.c_meaning.specs.Outcomes.{Before}
use Rattle.c_meaning.specs.Setting.{Setting}
use Rattle.mid_code.specs.Code.{NodesT, CodeT}
use Rattle.mid_code.specs.Meaning.{Res, below}
use Rattle.mid_code.specs.States.{temporaries, function_at, over_worlds}
use Rattle.lower_trees.specs.Parts.{first_param}
use Rattle.lower_trees.specs.Lowered.{args_from, with_result}
use Rattle.mid_lower.proofs.Grows.{Mid, Grows}

-- the code is that of the program
pub record Fits (s : Setting) (code : CodeT ℕ) (frames : List ℕ) : Type 0 where
  pub frame : (f : ℕ) → get_or frames f 0 ≡ s.sizes.frame f
  pub globals : sum code.globals ≡ s.sizes.globals
  pub first_literal : length code.globals ≡ s.sizes.first_literal
  pub card : length code.globals + length code.literals ≡ s.sizes.card
  pub more : (f : ℕ) → List ℕ
  pub locals : (f : ℕ) → (function_at code f).locals ≡ s.sizes.locals f ++ more f
  pub params : (f : ℕ) (g : TFunctionT) → slice_get s.functions f ≡ Some g → (function_at code f).params ≡ with_result g.gives (args_from first_param g.params)

-- A program, its code, and what is done with one less of a bound: by the tree, and by the code, whose port operations only come.
pub record Site : Type 1 where
  pub s : Setting
  pub code : CodeT ℕ
  pub frames : List ℕ
  pub fits : Fits s code frames
  pub bound : ℕ
  pub prev : Before
  pub prev' : NodesT ℕ → Mid → Res Mid
  pub grows : (c : NodesT ℕ) (t : Mid) → Grows t (prev' c t)
  pub is_below : prev' ≡ below (over_worlds temporaries code frames) bound
