use Rattle.std.proofs.Common.{◌≡◌, ◌≤◌, ◌+◌, ◌++◌, length}
use Rattle.mid_scalars.specs.inner.Tabled.{numbers_from, falses}
use Rattle.mid_scalars.proofs.building.numbers_of.Given as goal

abbrev pub invariant-loop-is_plain : goal.invariant-loop-is_plain
invariant-loop-is_plain l = record {
  fits : l.temporary + length l.rest ≤ 1000000;
  few : l.kept + length l.rest ≤ length l.plain;
  numbers : l.numbers.items ++ numbers_from l.temporary l.kept l.rest ≡ numbers_from l.first 0 l.plain;
  kept : l.kept + falses l.rest ≡ falses l.plain;
}

abbrev pub decreases-loop-is_plain : goal.decreases-loop-is_plain
decreases-loop-is_plain l = length l.rest
