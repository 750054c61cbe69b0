use Rattle.std.proofs.Common.{◌≡◌, ◌++◌, drop, map}
use Rattle.mid_lower.proofs.lowering.copy_sizes.Given as goal

abbrev pub invariant-loop-g : goal.invariant-loop-g
invariant-loop-g l = l.found.items ++ map (λ g. g.1) (drop l.g-index l.globals) ≡ map (λ g. g.1) l.globals
