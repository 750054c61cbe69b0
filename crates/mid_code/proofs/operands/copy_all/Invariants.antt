use Rattle.std.proofs.Common.{◌≡◌, take}
use Rattle.mid_code.proofs.operands.copy_all.Given as goal

abbrev pub invariant-loop-p : goal.invariant-loop-p
invariant-loop-p g l = l.copies.items ≡ take l.p-index l.places
