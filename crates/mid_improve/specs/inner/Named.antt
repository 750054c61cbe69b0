-- Functions whose temporaries have numbers below their count.
use Rattle.std.specs.Prelude.{ℕ}
use Rattle.mid_code.specs.Code.{FunctionT}
use Rattle.mid_code.specs.Invariants.{Names, IsTemporary}

abbrev pub IsNamed : FunctionT ℕ → Type 0
IsNamed f = Names (IsTemporary f) f.body
