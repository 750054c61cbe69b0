-- The words of the globals, where they are few enough to be told.
use Rattle.std.specs.Prelude.{ℕ, ◌≡◌, min, sum_by}
use Rattle.std.proofs.Math.Nat.{ℕ_set}
use Rattle.c_types.specs.Programs.{ProgramT}

pub capped_one : (words : ℕ) (p : ProgramT) → IsProp (words ≡ min (sum_by (λ g. g.1) p.globals) 0xFFFFFFFF)
capped_one words p = ℕ_set words (min (sum_by (λ g. g.1) p.globals) 0xFFFFFFFF)
