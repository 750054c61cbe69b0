-- What is known of a checked program, the places of its tokens and the starts of its functions.
use Rattle.std.specs.Prelude.{ℕ, ◌≡◌, ◌≤◌, List, length}
use Rattle.std.specs.List.{AllByRecursion, AllByRecursion-prop}
use Rattle.std.proofs.Props.{props}
use Rattle.std.specs.Coded.{le_prop}
use Rattle.c_tree.specs.Tree.{ItemT}
use Rattle.c_parse.specs.Tok.{toks}
use Rattle.c_parse.specs.Units.{Derives}
use Rattle.c_front.specs.declared.places.Places.{Places}
use Rattle.c_types.specs.Programs.{ProgramT}
use Rattle.c_check.specs.Whole.{WellTyped}
use Rattle.c_image.specs.Imaging.{AreStarts}
use Rattle.build_core.specs.Starts.{starts_of}

-- They are of one unit: it is derived from the tokens and well typed with this program, and its functions begin there.
pub record AreOfOneUnit (p : ProgramT) (places : Places) (starts : List ℕ) : Type 0 where
  pub items : List ItemT
  pub derived : Derives (toks places.tokens) items
  pub typed : WellTyped items p
  pub starts_are : starts ≡ starts_of items

-- Each function begins at a token, and there are at most 200,000 tokens.
pub record IsCheckable (p : ProgramT) (places : Places) (starts : List ℕ) : Type 0 where
  pub starts_are : AreStarts p places starts
  pub few : length places.tokens ≤ 200000

starts_one : (p : ProgramT) (places : Places) (starts : List ℕ) → IsProp (AreStarts p places starts)
starts_one p places starts = let lines : IsProp (AllByRecursion (λ t. 1 ≤ t.line) places.tokens) =
    AllByRecursion-prop _ (λ t. le_prop) places.tokens in hlevel (props, lines)

pub checkable_one : (p : ProgramT) (places : Places) (starts : List ℕ) → IsProp (IsCheckable p places starts)
checkable_one p places starts = let one : IsProp (AreStarts p places starts) = starts_one p places starts in hlevel (props, one)
