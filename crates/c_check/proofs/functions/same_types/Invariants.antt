use Rattle.std.proofs.Common.{◌≡◌, length, map}
use Rattle.c_types.specs.View.{ctype}
use Rattle.c_check.specs.Reading.{same_types}
use Rattle.c_check.proofs.functions.same_types.Given as goal

abbrev pub invariant-loop-a : goal.invariant-loop-a
invariant-loop-a l = same_types (map ctype l.left) (map ctype l.right) ≡ same_types (map ctype l.some) (map ctype l.others)

abbrev pub decreases-loop-a : goal.decreases-loop-a
decreases-loop-a l = length l.left
