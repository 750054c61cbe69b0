use Rattle.std.proofs.Common.{◌≡◌, length, map}
use Rattle.c_types.specs.View.{tarm, tarms}
use Rattle.obj_mem.specs.Stores.{Store}
use Rattle.c_evaluate.specs.inner.FocusView.{stack_of}
use Rattle.c_evaluate.specs.inner.Steps.{arms_of}
use Rattle.c_evaluate.proofs.exec.arms.Given as goal

abbrev pub decreases-arms : goal.decreases-arms
decreases-arms l = length l.left

abbrev pub invariant-arms : goal.invariant-arms
invariant-arms l = (u : Store) → arms_of l.n l.r l.skipped (tarms (map tarm l.left)) (stack_of l.stack.items) u ≡ arms_of l.n l.r l.before (tarms (map tarm l.xs)) (stack_of l.fn.stack.items) u
