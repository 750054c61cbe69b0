use Rattle.std.proofs.Common.{◌≡◌, ◌++◌, ◌≤◌, drop}
use Rattle.reg_choose.specs.inner.Handing.{numbered}
use Rattle.reg_choose.proofs.choice.places.Given as goal

abbrev pub invariant-loop-g : goal.invariant-loop-g
invariant-loop-g l = (l.slots ≤ l.g-index) × (l.at.items ++ numbered l.slots (drop l.g-index l.given) ≡ numbered 0 l.given)
