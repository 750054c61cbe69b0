-- Arms that are counted.
use Rattle.std.proofs.Common.{ℕ, ◌+◌}
use Rattle.std.specs.Prelude.{Option, Some, None}

abbrev pub onward : ℕ → Option ℕ → Option ℕ
onward n None = None
onward n (Some k) = Some (n + k)
