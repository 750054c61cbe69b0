use Rattle.std.proofs.Common.{◌≡◌, take}
use Rattle.kit_base.specs.Spread.{number_of}
use Rattle.kit_base.proofs.name.number_of.Given as goal

abbrev pub invariant-loop-b : goal.invariant-loop-b
invariant-loop-b l = l.number ≡ number_of (take l.b-index l.bytes)
