use Rattle.std.proofs.Common.{◌≡◌, length, map}
use Rattle.c_exprs.specs.Env.{find_in}
use Rattle.c_exprs.specs.View.{scope}
use Rattle.c_exprs.proofs.names.find_local.Given as goal

-- what the scopes left say is what all say
abbrev pub invariant-out : goal.invariant-out
invariant-out l = find_in l.name (map scope l.rest) ≡ find_in l.name (map scope l.scopes)

abbrev pub decreases-out : goal.decreases-out
decreases-out l = length l.rest
