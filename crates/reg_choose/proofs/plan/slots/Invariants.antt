use Rattle.std.proofs.Common.{◌≡◌, ◌++◌, ◌∷◌, drop}
use Rattle.reg_choose.specs.inner.Holding.{slots_in}
use Rattle.reg_choose.proofs.plan.slots.Given as goal

abbrev pub invariant-loop-w : goal.invariant-loop-w
invariant-loop-w l = l.found.items ++ slots_in (drop l.w-index l.at) ≡ 0 ∷ slots_in l.at
