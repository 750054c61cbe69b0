-- Functions without loops, in the source and in placed code.
use Rattle.std.specs.Prelude.{ℕ, ◌≡◌, List, [], ◌∷◌}
use Rattle.c_types.specs.Programs.{TFunctionT}
use Rattle.c_meaning.specs.Setting.{Setting}
use Rattle.mid_code.specs.declared.placed.Where.{Where}
use Rattle.mid_code.specs.Code.{FunctionT}
use Rattle.mid_code.specs.Calls.{loops, CallsTo}
use Rattle.mid_lower.specs.SourceLoops.{HasNoLoops, TreeCalls}

-- A function that takes no turns has no loop in placed code, and calls there only what its tree calls.
abbrev pub IsStraight : Setting → TFunctionT → FunctionT Where → Type 0
IsStraight s f k = HasNoLoops s f → (loops k.body ≡ 0) × ((n : ℕ) → CallsTo n k.body → TreeCalls n f)

abbrev pub EachStraight : Setting → List TFunctionT → List (FunctionT Where) → Type 0
EachStraight s [] [] = Unit {0}
EachStraight s (f ∷ fs) (k ∷ ks) = IsStraight s f k × EachStraight s fs ks
EachStraight s _ _ = ⊥
