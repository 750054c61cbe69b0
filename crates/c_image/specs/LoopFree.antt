-- Functions of a program that take no turns, and call only such functions.
use Rattle.std.specs.Prelude.{ℕ, zero, suc, ◌≡◌, [], slice_get, Some}
use Rattle.c_types.specs.Programs.{TFunctionT, ProgramT}
use Rattle.c_meaning.specs.Setting.{setting}
use Rattle.mid_lower.specs.SourceLoops.{HasNoLoops, TreeCalls}

-- No loop, no loop of an initialiser and no copy of a structure stands in the function, nor in any that it may call; and calls below it are less than so
-- many deep, so that no function reaches itself.
unfoldable pub IsLoopFree : ProgramT → (depth : ℕ) → TFunctionT → Type 0
IsLoopFree p zero f = ⊥
IsLoopFree p (suc depth) f = HasNoLoops (setting p []) f × ((n : ℕ) (g : TFunctionT) → TreeCalls n f → slice_get p.functions n ≡ Some g → IsLoopFree p depth g)
