use Rattle.std.proofs.Common.{◌≡◌, ◌++◌, map, drop}
use Rattle.reg_choose.specs.inner.Holding.{number_of}
use Rattle.reg_choose.proofs.plan.numbers_of.Given as goal

abbrev pub invariant-loop-w : goal.invariant-loop-w
invariant-loop-w l = l.numbers.items ++ map (number_of l.sorted) (drop l.w-index l.at) ≡ map (number_of l.sorted) l.at
