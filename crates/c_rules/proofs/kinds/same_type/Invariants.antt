use Rattle.std.proofs.Common.{◌≡◌}
use Rattle.c_types.specs.View.{ctype}
use Rattle.c_types.specs.inner.Heights.{height}
use Rattle.c_rules.specs.Kinds.{same_type}
use Rattle.c_rules.proofs.kinds.same_type.Given as goal

abbrev pub invariant-loop-left : goal.invariant-loop-left
invariant-loop-left l = same_type (ctype l.left) (ctype l.right) ≡ same_type (ctype l.a) (ctype l.b)

abbrev pub decreases-loop-left : goal.decreases-loop-left
decreases-loop-left l = height (ctype l.left)
