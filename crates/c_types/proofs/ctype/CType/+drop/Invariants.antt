use Rattle.std.proofs.Common.{◌≤◌}
use Rattle.c_types.specs.Ctype.{ctype}
use Rattle.c_types.specs.inner.Heights.{height}
use Rattle.c_types.proofs.ctype.CType.+drop.Given as goal

abbrev pub decreases-drop : goal.decreases-drop
decreases-drop l = height (ctype l.self)

-- the type that is ended has no more derivations than the one that was given
abbrev pub invariant-loop-self : goal.invariant-loop-self
invariant-loop-self l = height (ctype l.self) ≤ height (ctype l.fn.self)
