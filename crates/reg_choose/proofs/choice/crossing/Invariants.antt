use Rattle.std.proofs.Common.{◌≡◌, ◌++◌, map, drop}
use Rattle.reg_choose.specs.declared.trail.Trail.{Trail}
use Rattle.reg_choose.proofs.choice.crossing.Given as goal

abbrev pub invariant-loop-r : goal.invariant-loop-r
invariant-loop-r l = l.found.items ++ map (λ (r : Trail). r.crosses) (drop l.r-index l.trails) ≡ map (λ (r : Trail). r.crosses) l.trails
