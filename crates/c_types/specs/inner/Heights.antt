-- How many derivations a type has.
use Rattle.std.specs.Prelude.{ℕ, ◌+◌}
use Rattle.c_types.specs.Types.{Ty, PointerY, ArrayY}

abbrev pub height : Ty → ℕ
height (PointerY to) = height to + 1
height (ArrayY of len) = height of + 1
height _ = 0
