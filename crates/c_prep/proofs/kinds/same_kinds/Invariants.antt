use Rattle.std.proofs.Common.{◌≡◌, length}
use Rattle.c_prep.specs.Kinds.{kinds_of, same_kinds}
use Rattle.c_prep.proofs.kinds.same_kinds.Given as goal

abbrev pub invariant-each : goal.invariant-each
invariant-each l = same_kinds l.left (kinds_of l.right) ≡ same_kinds l.kinds (kinds_of l.tokens)

abbrev pub decreases-each : goal.decreases-each
decreases-each l = length l.left
