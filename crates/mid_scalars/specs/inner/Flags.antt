-- Flags of locals.
use Rattle.std.specs.Prelude.{ℕ, Bool, false, List, get_or}

abbrev pub flag_at : List Bool → ℕ → Bool
flag_at bs k = get_or bs k false
