use Rattle.std.proofs.Common.{◌≡◌, ◌^◌, take, min}
use Rattle.kit_base.specs.Digits.{value_in}
use Rattle.kit_base.proofs.digits.value_in.Given as goal

abbrev pub invariant-loop-digit : goal.invariant-loop-digit
invariant-loop-digit l = l.value ≡ min (value_in l.base (take l.digit-index l.digits)) (2 ^ 32)
