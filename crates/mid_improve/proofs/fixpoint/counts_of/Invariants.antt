use Rattle.std.proofs.Common.{◌≡◌, ◌++◌, map, length}
use Rattle.mid_code.specs.Functions.{function}
use Rattle.mid_improve.proofs.fixpoint.counts_of.Given as goal

-- those that are counted, and then those that are left, are all
abbrev pub invariant-each : goal.invariant-each
invariant-each l = l.found.items ++ map (λ f. length f.locals) (map function l.rest) ≡ map (λ f. length f.locals) (map function l.functions)

abbrev pub decreases-each : goal.decreases-each
decreases-each l = length l.rest
