use Rattle.std.proofs.Common.{◌≡◌, ◌+◌, length, map}
use Rattle.c_types.specs.View.{tarm, tarms}
use Rattle.c_meaning.specs.Statements.{arms_before_case}
use Rattle.c_evaluate.proofs.Counting.{onward}
use Rattle.c_evaluate.proofs.statements.before_case.Given as goal

abbrev pub decreases-arms : goal.decreases-arms
decreases-arms l = length l.left

abbrev pub invariant-arms : goal.invariant-arms
invariant-arms l = (l.count + length l.left ≡ length l.xs) × (onward l.count (arms_before_case l.word (tarms (map tarm l.left))) ≡ arms_before_case l.word (tarms (map tarm l.xs)))
