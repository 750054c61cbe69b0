use Rattle.std.proofs.Common.{◌≡◌, length}
use Rattle.c_prep.specs.Macros.{replaced_in}
use Rattle.c_prep.proofs.replace.replace_all.Given as goal

abbrev pub invariant-each : goal.invariant-each
invariant-each l = replaced_in l.macros l.rest l.out ≡ replaced_in l.macros l.tokens l.fn.out

abbrev pub decreases-each : goal.decreases-each
decreases-each l = length l.rest
