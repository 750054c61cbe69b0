use Rattle.std.proofs.Common.{◌≡◌, ◌++◌, take, drop}
use Rattle.cart_format.specs.Tests.{until_zero}
use Rattle.cart_format.proofs.header.until_zero.Given as goal

abbrev pub invariant-each : goal.invariant-each
invariant-each l = (l.at ≡ l.b-index) × (until_zero l.bytes ≡ take l.at l.bytes ++ until_zero (drop l.at l.bytes))
