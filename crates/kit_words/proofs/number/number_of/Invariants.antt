use Rattle.std.proofs.Common.{◌≡◌, ◌≤◌, length, min}
use Rattle.std.specs.Prelude.{fold}
use Rattle.kit_words.specs.Number.{number_of}
use Rattle.kit_words.proofs.Numbers.{with_digit}
use Rattle.kit_words.proofs.number.number_of.Given as goal

abbrev pub decreases-digits : goal.decreases-digits
decreases-digits l = length l.rest

-- the number so far with the digits that are left is the number of all
abbrev pub invariant-digits : goal.invariant-digits
invariant-digits l = (min (fold with_digit l.number l.rest) 10000001 ≡ min (number_of l.fn.digits) 10000001) × (l.number ≤ 10000001)
