use Rattle.std.proofs.Common.{◌≡◌, ◌++◌, map, drop}
use Rattle.reg_choose.specs.inner.Handing.{first_got}
use Rattle.reg_choose.proofs.choice.beginning.Given as goal

abbrev pub invariant-loop-o : goal.invariant-loop-o
invariant-loop-o l = l.given.items ++ map first_got (drop l.o-index l.out) ≡ map first_got l.out
